use Rattle.std.proofs.Common.{◌≡◌, take}
use Rattle.schedule.specs.Schedules.{padded, zero_numbered}
use Rattle.load_file.specs.LoadFile.{numbered_from}
use Rattle.load_file.proofs.numbered.Given as goal

abbrev pub invariant-loop-i : goal.invariant-loop-i
invariant-loop-i l = l.list ≡ padded 32 zero_numbered (numbered_from 1 (take l.i l.tasks))
