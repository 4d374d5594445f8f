use Rattle.std.specs.Prelude.{Ok}
use mathlib.Core.Path.{◌≡◌, sym, ◌∙◌}
use lib.ListN.{get_or}
use Rattle.chain.specs.Checks.{verdict_in, Sound}
use Rattle.chain.specs.Flat.{given_in, tasks_in}
use Rattle.timing.specs.WarmUp.{warm_at}
use Rattle.chain.proofs.CheckLaws.{accepted_in}
use Rattle.timing.proofs.Whole.{warm_tick_is}
use Rattle.timing.proofs.Entries.{no_job}
use Rattle.timing.proofs.Exits.{warm_known, entry_job}
use Rattle.timing.proofs.warm_up_on.Goals as goal
use Rattle.timing.proofs.warm_up_on.Goals.{After-warm_jobs-jobs, In_ok-hyperperiod}

said : (c : In_ok-hyperperiod) → verdict_in c.args.gap (given_in c.args.tasks.now) ≡ Ok c.in_ok-hyperperiod.hyperperiod
said c = sym c.in_ok-hyperperiod.ensures

fine : (c : In_ok-hyperperiod) → Sound (tasks_in c.args.gap c.args.tasks.now)
fine c = (accepted_in c.args.gap (given_in c.args.tasks.now) _ (said c)).sound

first : (c : After-warm_jobs-jobs) → Sound (tasks_in c.args.gap c.args.tasks.now) → (get_or c.warm_jobs-jobs.result 0 no_job).0 ≡ warm_at (tasks_in c.args.gap c.args.tasks.now) 0
first c k = entry_job _ k _ c.warm_jobs-jobs.ensures 0 k.some

pub returns : goal.returns
returns c = warm_known _ _ _ (said (goal.at.returns c).In_ok-hyperperiod) _ c.warm_jobs-jobs.ensures _ (c.read-tick.ensures ∙ warm_tick_is _ (fine (goal.at.returns c).In_ok-hyperperiod) _ c.task_at-first.ensures _ (first (goal.at.returns c).After-warm_jobs-jobs (fine (goal.at.returns c).In_ok-hyperperiod)))
