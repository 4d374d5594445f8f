use Rattle.std.proofs.Common.{◌≡◌, ◌+◌, ◌-◌, ◌<◌}
use Rattle.little_endian.specs.LittleEndian.{number_at, power}
use Rattle.little_endian.proofs.number_at.Given as goal

abbrev pub invariant-loop-i : goal.invariant-loop-i
invariant-loop-i l = (l.x ≡ number_at l.list (l.at + l.i) (l.width - l.i)) × (l.x < power (l.width - l.i))
