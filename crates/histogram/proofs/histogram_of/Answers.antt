use Rattle.std.proofs.Common.{arith, rules}
use Rattle.table.specs.BothWays.{checked_well}
use Rattle.histogram.proofs.Exits.{counted}
use Rattle.histogram.proofs.histogram_of.Goals as goal

pub returns : goal.returns
returns c =
    counted _ _ _ _ _ _ (checked_well _ _ _ _ _ c.in_ok-check.ensures) (omega arith) (c.fill.ensures.after (λ y h. search rules)) c.min.ensures c.add_anchors.ensures c.sum_up.ensures (omega arith)
