use Rattle.std.proofs.Common.{◌≡◌, drop}
use Rattle.table.specs.Anchors.{anchors}
use Rattle.table.specs.WellFormed.{spaced}
use Rattle.table.proofs.Table.is_spaced.Given as goal

abbrev pub invariant-loop-i : goal.invariant-loop-i
invariant-loop-i l = spaced l.end (anchors l.self.starts.now l.self.latencies.now l.self.anchors) ≡ spaced l.end (drop l.i (anchors l.self.starts.now l.self.latencies.now l.self.anchors))
