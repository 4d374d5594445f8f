use Rattle.chain.specs.Flat.{tasks_in}
use Rattle.outset.specs.Range.{range_cut}
use Rattle.latency.proofs.Walking.{begins_ordered, first_begins, first_alone}
use Rattle.latency.proofs.walk_from.Goals as goal

pub first-first-requires : goal.first-first-requires
first-first-requires c = let s = c.before in range_cut (tasks_in s.args.gap s.args.tasks.now) s.args.places s.args.p s.args.from.0 s.args.n s.requires

pub latency_of-requires : goal.latency_of-requires
latency_of-requires c = let s = c.before in begins_ordered _ _ _ _ _ _ (first_begins (tasks_in s.args.gap s.args.tasks.now) s.args.places s.args.p s.args.from.0 s.args.n s.requires _ _ c.first-first.ensures)

pub returns-then-n-lt2 : goal.returns-then-n-lt2
returns-then-n-lt2 c = let s = c.before in first_alone (tasks_in s.args.gap s.args.tasks.now) s.args.places s.args.p s.args.from.0 s.args.n s.requires _ _ c.first-first.ensures c.if-n-lt2.true _ _ c.latency_of.ensures

pub walk_by_steps-requires : goal.walk_by_steps-requires
walk_by_steps-requires c = let s = c.before in first_begins (tasks_in s.args.gap s.args.tasks.now) s.args.places s.args.p s.args.from.0 s.args.n s.requires _ _ c.first-first.ensures

pub returns : goal.returns
returns c = let s = c.before in rw c.first-first.ensures.partition.of at c.walk_by_steps.ensures
