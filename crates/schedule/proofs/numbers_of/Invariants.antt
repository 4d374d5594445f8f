use Rattle.std.proofs.Common.{◌≡◌, ◌≤◌, map, length, take}
use Rattle.schedule.specs.Schedules.{number_of, padded}
use Rattle.schedule.proofs.numbers_of.Given as goal

abbrev pub invariant-loop-i : goal.invariant-loop-i
invariant-loop-i l = (l.i ≤ 32) × (length l.numbers ≡ 32) × (l.numbers ≡ padded 32 0 (map number_of (take l.i l.tasks)))
