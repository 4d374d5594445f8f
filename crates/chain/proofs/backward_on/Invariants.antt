use Prim.Native.Nat.{◌-◌, ◌≤◌}
use mathlib.Core.Path.{◌≡◌}
use Rattle.task.specs.Jobs.{read_of}
use Rattle.chain.specs.Chains.{at, backward_by}
use Rattle.chain.specs.Flat.{tasks_in}
use Rattle.chain.proofs.backward_on.Given as goal

-- b is the task at the loop's place; the way from the start is the way from here
abbrev pub invariant-loop-i : goal.invariant-loop-i
invariant-loop-i l =
    (l.p ≤ l.i) × (l.b ≡ at (tasks_in l.gap l.tasks) l.i) × (read_of l.b l.k.0 ≤ 1500000000000) × (backward_by (tasks_in l.gap l.tasks) l.p (l.q - l.p) l.initial.k.0 ≡ backward_by (tasks_in l.gap l.tasks) l.p (l.i - l.p) l.k.0)
