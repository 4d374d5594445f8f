use Rattle.phase.proofs.Moving.{Moving}
use Rattle.phase.proofs.put_phase.Given as goal

abbrev pub invariant-loop-i : goal.invariant-loop-i
invariant-loop-i l = Moving l.number l.phase l.places l.initial.tasks l.tasks l.i
