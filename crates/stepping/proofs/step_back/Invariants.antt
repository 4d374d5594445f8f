use Rattle.stepping.proofs.Turns.{BackTo}
use Rattle.stepping.proofs.step_back.Given as goal

abbrev pub invariant-loop-i : goal.invariant-loop-i
invariant-loop-i l = BackTo l.reciprocals l.initial.state l.p l.i l.ticks l.state
