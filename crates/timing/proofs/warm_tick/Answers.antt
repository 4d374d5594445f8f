use native.Mathlib.Omega.{arith}
use mathlib.Core.Path.{◌≡◌, ap, ◌∙◌}
use Rattle.chain.specs.Chains.{job_of}
use Rattle.chain.specs.Flat.{tasks_in, in_last}
use Rattle.timing.specs.WarmUp.{warm_at}
use Rattle.timing.proofs.Whole.{some_place, last_inside, warm_last_fits, warm_first_is, warm_tick_is, warm_tick_fits}
use Rattle.timing.proofs.warm_tick.Goals as goal
use Rattle.timing.proofs.warm_tick.Goals.{After-job_of-j}

first : (c : After-job_of-j) → c.job_of-j.result.0 ≡ warm_at (tasks_in c.args.gap c.args.tasks.now) 0
first c = c.job_of-j.ensures ∙ ap job_of c.backward_on.ensures ∙ warm_first_is _ c.requires _ (in_last c.args.gap c.args.tasks.now) _ c.warm_last-k.ensures

pub overflow_sub-n : goal.overflow_sub-n
overflow_sub-n c = some_place _ _ c.requires

pub backward_on-requires : goal.backward_on-requires
backward_on-requires c =
    let k = c.requires in
    (k, omega arith, last_inside _ _ k, warm_last_fits _ k _ (in_last c.args.gap c.args.tasks.now) _ c.warm_last-k.ensures)

pub read-requires : goal.read-requires
read-requires c = warm_tick_fits _ c.requires _ c.task_at-first.ensures _ (first (goal.at.read-requires c).After-job_of-j)

pub returns : goal.returns
returns c = c.read.ensures ∙ warm_tick_is _ c.requires _ c.task_at-first.ensures _ (first (goal.at.returns c).After-job_of-j)
