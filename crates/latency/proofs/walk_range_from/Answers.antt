use Rattle.chain.specs.Flat.{tasks_in}
use Rattle.outset.specs.Range.{range_cut}
use Rattle.latency.proofs.Walking.{first_begins}
use Rattle.latency.proofs.Exits.{met_from}
use Rattle.latency.proofs.walk_range_from.Goals as goal

pub first-first-requires : goal.first-first-requires
first-first-requires c = let s = c.before in range_cut (tasks_in s.args.gap s.args.tasks.now) s.args.places s.args.p s.args.from.0 s.args.n s.requires.0.range

pub walk-requires : goal.walk-requires
walk-requires c = let s = c.before in (first_begins (tasks_in s.args.gap s.args.tasks.now) s.args.places s.args.p s.args.from.0 s.args.n s.requires.0.range _ _ c.first-first.ensures, s.requires.1)

pub returns : goal.returns
returns c =
    let s = c.before in
    met_from (tasks_in s.args.gap s.args.tasks.now) s.args.places s.args.p s.args.from.0 s.args.n _ _ s.requires.0 (rw c.first-first.ensures.partition.of at c.walk.ensures)
