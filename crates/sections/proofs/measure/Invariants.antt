use Rattle.chain.specs.Flat.{tasks_in}
use Rattle.sections.proofs.Cutting.{Cutting}
use Rattle.sections.proofs.measure.Given as goal

abbrev pub invariant-loop-i : goal.invariant-loop-i
invariant-loop-i l = Cutting l.gap (tasks_in l.gap l.tasks) l.cuts l.latencies l.sum l.from l.i
