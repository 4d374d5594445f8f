use Rattle.std.proofs.Common.{◌≡◌, take}
use Rattle.schedule.specs.Schedules.{padded}
use Rattle.capi_schedule.specs.FlatSchedule.{flat_tasks}
use Rattle.capi_schedule.proofs.flat_tasks.Given as goal

abbrev pub invariant-loop-i : goal.invariant-loop-i
invariant-loop-i l = l.flat ≡ padded 128 0 (flat_tasks (take l.i l.t-items))
