use Rattle.std.proofs.Common.{◌≡◌, length}
use Rattle.schedule.specs.Schedules.{padded}
use Rattle.file_reader.specs.Reading.{chain_field}
use Rattle.file_reader.proofs.chain_entries.Given as goal

abbrev pub invariant-loop-i : goal.invariant-loop-i
invariant-loop-i l = (length l.chain ≡ 12) × (l.chain ≡ padded 12 0 (chain_field l.rest l.i))
