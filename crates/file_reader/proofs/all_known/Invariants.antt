use Rattle.std.proofs.Common.{◌≡◌, ◌+◌, ◌-◌, ◌*◌}
use Rattle.file_reader.specs.Reading.{numbers_from, chain_field, all_known}
use Rattle.file_reader.proofs.all_known.Given as goal

abbrev pub invariant-loop-i : goal.invariant-loop-i
invariant-loop-i l = all_known l.numbers (chain_field l.rest l.places) ≡ all_known l.numbers (numbers_from l.rest (4 + 2 * l.i) (l.places - l.i))
