use mathlib.Core.Path.{◌≡◌}
use lib.ListN.{length}
use Rattle.chain.specs.Flat.{tasks_in}
use Rattle.stepping.specs.Standing.{GivenTo}
use Rattle.outset.proofs.reciprocals_of.Given as goal

abbrev pub invariant-loop-i : goal.invariant-loop-i
invariant-loop-i l = (length l.reciprocals ≡ length l.initial.reciprocals) × GivenTo (tasks_in l.gap l.tasks) l.i l.reciprocals
