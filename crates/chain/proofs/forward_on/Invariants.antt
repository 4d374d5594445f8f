use Prim.Native.Nat.{◌-◌}
use mathlib.Core.Path.{◌≡◌}
use Rattle.chain.specs.Chains.{at, forward_by}
use Rattle.chain.specs.Flat.{tasks_in}
use Rattle.chain.proofs.forward_on.Given as goal

-- a is the task at the loop's place
abbrev pub invariant-loop-i : goal.invariant-loop-i
invariant-loop-i l = (l.a ≡ at (tasks_in l.gap l.tasks) l.i) × (l.k.0 ≡ forward_by (tasks_in l.gap l.tasks) l.p (l.i - l.p) l.initial.k.0)
