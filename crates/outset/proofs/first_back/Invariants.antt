use Prim.Native.Nat.{◌+◌}
use mathlib.Core.Path.{◌≡◌}
use Rattle.chain.specs.Chains.{at}
use Rattle.chain.specs.Flat.{tasks_in}
use Rattle.stepping.specs.Standing.{back_job}
use Rattle.outset.specs.Outset.{States}
use Rattle.outset.proofs.first_back.Given as goal

abbrev pub invariant-loop-i : goal.invariant-loop-i
invariant-loop-i l =
    (l.j.0 ≡ back_job (tasks_in l.gap l.tasks) l.p l.initial.j.0 l.i) × (l.b ≡ at (tasks_in l.gap l.tasks) l.i) × States (tasks_in l.gap l.tasks) l.p l.initial.j.0 l.i (l.p + 1) l.initial.state l.state
