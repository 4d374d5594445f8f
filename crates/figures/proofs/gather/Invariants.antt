use Rattle.std.proofs.Common.{◌≡◌, drop}
use Rattle.table.specs.Anchors.{anchors}
use Rattle.figures.specs.ByAnchors.{segments}
use Rattle.figures.specs.Gathering.{with_anchor}
use Rattle.figures.proofs.gather.Given as goal

abbrev pub invariant-loop-i : goal.invariant-loop-i
invariant-loop-i l =
    segments with_anchor l.end (anchors l.t.starts.now l.t.latencies.now l.t.anchors) l.initial.m ≡ segments with_anchor l.end (drop l.i (anchors l.t.starts.now l.t.latencies.now l.t.anchors)) l.m
