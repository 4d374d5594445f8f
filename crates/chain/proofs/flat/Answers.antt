use native.Mathlib.Omega.{arith}
use mathlib.Core.Path.{refl}
use lib.ListN.{replicate}
use Rattle.chain.proofs.Filling.{flat_none, flat_turn, flat_end, kept}
use Rattle.chain.proofs.flat.Goals as goal

pub loop-i-init : goal.loop-i-init
loop-i-init c = (refl, flat_none c.args.c.tasks (replicate 36 0))

pub loop-i-preserved : goal.loop-i-preserved
loop-i-preserved c =
    let l = c.loop-i in
    (kept l.list 36 _ _ _ _ _ _ l.invariant.0, flat_turn c.args.c.tasks l.list l.i (omega arith) (omega arith) l.invariant.1)

pub returns : goal.returns
returns c =
    let l = c.loop-i in
    flat_end c.args.c.tasks l.list l.i (omega arith) (omega arith) l.invariant.1
