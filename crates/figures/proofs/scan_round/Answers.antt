use Rattle.std.proofs.Common.{arith}
use Rattle.figures.specs.Exceeding.{stretch, stretch_keeps}
use Rattle.figures.proofs.Folds.{fold_on, fold_end, first}
use Rattle.figures.proofs.scan_round.Goals as goal

pub loop-i-preserved : goal.loop-i-preserved
loop-i-preserved c = (
  fold_on _ _ _ _ c.requires.0 (stretch _) _ _ _ c.loop-i.invariant.0 c.loop-i-test.true _ c.distance_at.ensures _ c.with_stretch-s.ensures,
  rw c.with_stretch-s.ensures (stretch_keeps _ c.loop-i.s _ _ c.loop-i.invariant.1),
)

pub returns : goal.returns
returns c =
    rw (first _ _ _ _ c.requires.0) (fold_end _ _ _ _ c.requires.0 (stretch _) _ _ _ c.loop-i.invariant.0 (omega arith))
