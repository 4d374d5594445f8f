use Rattle.std.proofs.Common.{◌*◌, ◌≤◌}
use Rattle.report.proofs.Parts.{Far}
use Rattle.report.proofs.put_schedule.Given as goal

abbrev pub invariant-loop-i : goal.invariant-loop-i
invariant-loop-i l = (l.at ≤ 23000 * l.i) × Far l.s l.initial.out l.out l.at l.i
