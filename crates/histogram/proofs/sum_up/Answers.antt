use Rattle.std.proofs.Common.{refl, arith}
use Rattle.histogram.proofs.Writing.{summed_start, summed_more}
use Rattle.histogram.proofs.sum_up.Goals as goal

pub loop-count-init : goal.loop-count-init
loop-count-init c = summed_start _ _

pub loop-count-preserved : goal.loop-count-preserved
loop-count-preserved c =
    let l = c.loop-count in
    summed_more _ _ _ _ _ _ l.invariant (omega arith) _ refl _ (omega arith)
