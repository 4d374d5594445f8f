use Rattle.chain.specs.Flat.{given_in}
use Rattle.phase.proofs.Others.{Multiplied}
use Rattle.phase.proofs.others_multiple.Given as goal

abbrev pub invariant-loop-i : goal.invariant-loop-i
invariant-loop-i l = Multiplied l.gap l.number l.places (given_in l.tasks) l.multiple l.i
