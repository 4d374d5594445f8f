use native.Mathlib.Omega.{arith}
use mathlib.Core.Path.{◌≡◌, ap, ◌∙◌}
use Rattle.task.specs.Links.{latest_by}
use Rattle.chain.specs.Chains.{job_of}
use Rattle.chain.specs.Flat.{in_last}
use Rattle.timing.proofs.Whole.{last_inside, latest_small}
use Rattle.timing.proofs.age_ticks.Goals as goal
use Rattle.timing.proofs.age_ticks.Goals.{After-job_of-j, After-job_of-k}

-- the latest job of the last place, and the job of the first place that its way backward comes to
latest : (c : After-job_of-k) → c.job_of-k.result.0 ≡ job_of (latest_by c.task_at-last.result c.args.z.0)
latest c = c.job_of-k.ensures ∙ ap job_of c.latest_by.ensures

pub backward_on-requires : goal.backward_on-requires
backward_on-requires c =
    let s = c.before in
    let p = s.requires in
    (p.0, omega arith, last_inside _ _ p.0, latest_small _ p.0 _ p.1 _ (in_last s.args.gap s.args.tasks.now) _ c.task_at-last.ensures _ (latest c) p.2)
