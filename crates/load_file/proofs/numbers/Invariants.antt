use Rattle.std.proofs.Common.{◌≡◌}
use Rattle.schedule.specs.Schedules.{padded}
use Rattle.load_file.specs.LoadFile.{numbers_to}
use Rattle.load_file.proofs.numbers.Given as goal

abbrev pub invariant-loop-i : goal.invariant-loop-i
invariant-loop-i l = l.list ≡ padded 12 0 (numbers_to l.i)
