use Rattle.std.proofs.Common.{◌≡◌, ◌+◌, drop}
use Rattle.schedule_checks.specs.Checks.{first_fault}
use Rattle.schedule_checks.proofs.first_fault.Given as goal

abbrev pub invariant-loop-i : goal.invariant-loop-i
invariant-loop-i l = first_fault 1 0 l.tasks ≡ first_fault (l.i + 1) l.before (drop l.i l.tasks)
