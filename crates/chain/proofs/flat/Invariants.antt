use Prim.Native.Nat.{◌*◌}
use mathlib.Core.Path.{◌≡◌}
use lib.ListN.{length, take}
use Rattle.chain.specs.Flat.{flat_chain}
use Rattle.chain.proofs.flat.Given as goal

abbrev pub invariant-loop-i : goal.invariant-loop-i
invariant-loop-i l = (length l.list ≡ 36) × (take (3 * l.i) l.list ≡ flat_chain (take l.i l.a-items))
