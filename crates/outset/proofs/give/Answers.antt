use native.Mathlib.Omega.{arith}
use lib.ListN.{length-set}
use Rattle.outset.specs.Filling.{given}
use Rattle.outset.proofs.give.Goals as goal

pub bounds-reciprocals-k-2 : goal.bounds-reciprocals-k-2
bounds-reciprocals-k-2 c = let s = c.before in simp length-set (omega (arith, s.requires.3))

pub bounds-reciprocals-k-3 : goal.bounds-reciprocals-k-3
bounds-reciprocals-k-3 c = let s = c.before in simp length-set (omega (arith, s.requires.3))

pub returns : goal.returns
returns c = let s = c.before in given s.args.reciprocals.now s.args.i s.args.t _ _ s.requires.3 c.scale_of-s.ensures
