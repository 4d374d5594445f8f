use Rattle.std.proofs.Common.{◌≡◌, map, length, take}
use Rattle.chain.specs.Chains.{zero_task}
use Rattle.schedule.specs.Schedules.{tasks_in, task_numbered, padded}
use Rattle.schedule.proofs.chain_of.Given as goal

abbrev pub invariant-loop-i : goal.invariant-loop-i
invariant-loop-i l = (length l.tasks ≡ 12) × (l.tasks ≡ padded 12 zero_task (map (task_numbered (tasks_in l.s)) (take l.i l.r.places)))
