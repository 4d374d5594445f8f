use Rattle.std.proofs.Common.{◌≡◌, ◌+◌, drop}
use Rattle.schedule_checks.specs.Checks.{first_unknown}
use Rattle.schedule_checks.proofs.first_unknown.Given as goal

abbrev pub invariant-loop-i : goal.invariant-loop-i
invariant-loop-i l = first_unknown 1 l.numbers l.chain ≡ first_unknown (l.i + 1) l.numbers (drop l.i l.chain)
