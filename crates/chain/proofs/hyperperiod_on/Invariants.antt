use Prim.Native.Nat.{◌≤◌}
use mathlib.Core.Path.{◌≡◌}
use lib.ListN.{length, drop}
use Rattle.chain.specs.Hyperperiod.{hyper_from, hyper_of}
use Rattle.chain.specs.Flat.{tasks_in}
use Rattle.chain.proofs.hyperperiod_on.Given as goal

-- the multiple of the whole is that of h and what is left
abbrev pub invariant-loop-i : goal.invariant-loop-i
invariant-loop-i l = (l.i-end ≡ length (tasks_in l.gap l.tasks)) × (1 ≤ l.h) × (l.h ≤ 60000000) × (hyper_of (tasks_in l.gap l.tasks) ≡ hyper_from l.h (drop l.i (tasks_in l.gap l.tasks)))
