use Rattle.std.proofs.Common.{◌≡◌, ◌≤◌, drop}
use Rattle.table.specs.Anchors.{anchors}
use Rattle.figures.specs.ByAnchors.{segments}
use Rattle.figures.specs.Exceeding.{stretch}
use Rattle.figures.proofs.scan_round.Given as goal

abbrev pub invariant-loop-i : goal.invariant-loop-i
invariant-loop-i l =
    (segments (stretch l.b) l.end (anchors l.t.starts.now l.t.latencies.now l.t.anchors) l.initial.s ≡ segments (stretch l.b) l.end (drop l.i (anchors l.t.starts.now l.t.latencies.now l.t.anchors)) l.s) × (l.s.run ≤ l.s.best)
