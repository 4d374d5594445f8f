use Prim.Native.Nat.{◌+◌}
use mathlib.Core.Path.{◌≡◌}
use lib.ListN.{length, drop}
use Rattle.chain.specs.Checks.{first_fault}
use Rattle.chain.specs.Flat.{given_in}
use Rattle.chain.proofs.first_fault.Given as goal

-- the fault of the whole is that of what is left
abbrev pub invariant-loop-i : goal.invariant-loop-i
invariant-loop-i l = (l.i-end ≡ length (given_in l.tasks)) × (first_fault 1 (given_in l.tasks) ≡ first_fault (l.i + 1) (drop l.i (given_in l.tasks)))
