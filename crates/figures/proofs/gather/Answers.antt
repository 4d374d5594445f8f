use Rattle.std.proofs.Common.{arith}
use Rattle.figures.specs.Gathering.{with_anchor}
use Rattle.figures.proofs.Folds.{fold_on, fold_end, gather_end}
use Rattle.figures.proofs.gather.Goals as goal

pub loop-i-preserved : goal.loop-i-preserved
loop-i-preserved c =
    fold_on _ _ _ _ c.requires with_anchor _ _ _ c.loop-i.invariant c.loop-i-test.true _ c.distance_at.ensures _ c.with_anchor-m.ensures

pub returns : goal.returns
returns c =
    gather_end _ _ _ _ c.requires _ (fold_end _ _ _ _ c.requires with_anchor _ _ _ c.loop-i.invariant (omega arith))
