use Rattle.stepping.proofs.Turns.{OnTo}
use Rattle.stepping.proofs.step_on.Given as goal

abbrev pub invariant-loop-i : goal.invariant-loop-i
invariant-loop-i l = OnTo l.reciprocals l.initial.state l.p l.n l.i l.ticks l.state
