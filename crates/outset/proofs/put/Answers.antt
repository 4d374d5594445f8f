use native.Mathlib.Omega.{arith}
use lib.ListN.{length-set}
use Rattle.outset.proofs.put.Goals as goal

pub bounds-state-j-2 : goal.bounds-state-j-2
bounds-state-j-2 c = simp length-set (omega (arith, c.requires.2))
