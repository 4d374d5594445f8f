use Rattle.std.proofs.Common.{arith}
use Rattle.figures.proofs.Folds.{fold_end}
use Rattle.histogram.specs.Differences.{with_anchor}
use Rattle.histogram.proofs.add_anchors.Goals as goal

pub returns : goal.returns
returns c = fold_end _ _ _ _ c.requires.0 (with_anchor _) _ _ _ c.loop-i.invariant (omega arith)
