use Rattle.histogram.proofs.Writing.{Summed}
use Rattle.histogram.proofs.sum_up.Given as goal

abbrev pub invariant-loop-count : goal.invariant-loop-count
invariant-loop-count l = Summed l.whole l.count-index l.initial.counts l.counts l.left l.entry
