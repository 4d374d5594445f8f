use Prim.Native.Nat.{◌/◌}
use mathlib.Core.Path.{ap}
use Rattle.task.specs.declared.Place.{Place}
use Rattle.chain.specs.Flat.{tasks_in, in_count}
use Rattle.timing.proofs.Exits.{entry_job}
use Rattle.latency.proofs.Exits.{range_of_holds, met_range}
use Rattle.latency.proofs.walk_range.Goals as goal

pub walk_from-requires : goal.walk_from-requires
walk_from-requires c =
    let s = c.before in
    range_of_holds (tasks_in s.args.gap s.args.tasks.now) s.args.p s.args.h s.requires _ _ (entry_job _ s.requires.sound _ c.warm_jobs-jobs.ensures s.args.p s.requires.inside) (ap (λ (x : Place). s.args.h / x.period) c.task_at-t.ensures) _ (in_count s.args.gap s.args.tasks.now)

pub returns : goal.returns
returns c =
    let s = c.before in
    met_range (tasks_in s.args.gap s.args.tasks.now) s.args.p s.args.h s.requires _ _ (entry_job _ s.requires.sound _ c.warm_jobs-jobs.ensures s.args.p s.requires.inside) (ap (λ (x : Place). s.args.h / x.period) c.task_at-t.ensures) _ _ c.walk_from.ensures
