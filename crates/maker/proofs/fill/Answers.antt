use mathlib.Core.Path.{refl}
use Rattle.chain.specs.Flat.{tasks_in}
use Rattle.outset.specs.Range.{range_cut}
use Rattle.maker.proofs.Walking.{fill_begins, fill_one, fill_adds}
use Rattle.maker.proofs.fill.Goals as goal

pub first-first-requires : goal.first-first-requires
first-first-requires c = let s = c.before in range_cut (tasks_in s.args.gap s.args.tasks.now) s.args.places s.args.p s.args.from.0 s.args.n s.requires.range

pub add_anchor-requires : goal.add_anchor-requires
add_anchor-requires c = let s = c.before in fill_adds (tasks_in s.args.gap s.args.tasks.now) s.args.places s.args.p s.args.from.0 s.args.n s.args.after.0 s.requires _ _ c.first-first.ensures

pub returns-then-n-lt2 : goal.returns-then-n-lt2
returns-then-n-lt2 c = let s = c.before in fill_one (tasks_in s.args.gap s.args.tasks.now) s.args.places s.args.p s.args.from.0 s.args.n s.args.after.0 s.requires c.if-n-lt2.true _ _ c.first-first.ensures _ _ _ _ _ c.add_anchor.ensures _ refl refl

pub walk_by_steps-requires : goal.walk_by_steps-requires
walk_by_steps-requires c = let s = c.before in fill_begins (tasks_in s.args.gap s.args.tasks.now) s.args.places s.args.p s.args.from.0 s.args.n s.args.after.0 s.requires _ _ c.first-first.ensures

pub returns-else-n-lt2 : goal.returns-else-n-lt2
returns-else-n-lt2 c = rw c.first-first.ensures.partition.of at c.walk_by_steps.ensures.0
