use Rattle.std.proofs.Common.{◌≡◌, ◌+◌, ◌*◌, ◌≤◌, length, drop}
use Rattle.table.specs.Anchors.{anchors}
use Rattle.table_text.specs.TableText.{anchor_lines}
use Rattle.table_text.proofs.Lines.{Left}
use Rattle.table_text.proofs.put_anchors.Given as goal

abbrev pub invariant-loop-start : goal.invariant-loop-start
invariant-loop-start l = record {
  left : Left (anchor_lines (anchors l.t.starts.now l.t.latencies.now l.t.anchors)) l.at l.initial.out (anchor_lines (drop (length l.yielded) (anchors l.t.starts.now l.t.latencies.now l.t.anchors))) l.end l.out;
  short : l.end ≤ l.at + 22 * length l.yielded;
  kept : length l.out ≡ length l.initial.out;
}
