use Rattle.std.proofs.Common.{◌≡◌, drop}
use Rattle.table.specs.Anchors.{anchors}
use Rattle.figures.specs.ByAnchors.{segments}
use Rattle.histogram.specs.Differences.{with_anchor}
use Rattle.histogram.proofs.add_anchors.Given as goal

abbrev pub invariant-loop-i : goal.invariant-loop-i
invariant-loop-i l =
    segments (with_anchor l.width) l.end (anchors l.t.starts.now l.t.latencies.now l.t.anchors) l.initial.counts ≡ segments (with_anchor l.width) l.end (drop l.i (anchors l.t.starts.now l.t.latencies.now l.t.anchors)) l.counts
