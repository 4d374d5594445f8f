use Prim.Native.Nat.{◌-◌}
use mathlib.Core.Path.{◌≡◌}
use Rattle.chain.specs.Chains.{at}
use Rattle.chain.specs.Flat.{tasks_in}
use Rattle.stepping.specs.Standing.{on_job}
use Rattle.outset.specs.Outset.{States}
use Rattle.outset.proofs.first_on.Given as goal

-- j and a are of the place before the loop's
abbrev pub invariant-loop-i : goal.invariant-loop-i
invariant-loop-i l =
    (l.j.0 ≡ on_job (tasks_in l.gap l.tasks) l.p l.fn.m.0 (l.i - 1)) × (l.a ≡ at (tasks_in l.gap l.tasks) (l.i - 1)) × States (tasks_in l.gap l.tasks) l.p l.fn.m.0 0 l.i l.initial.state l.state
