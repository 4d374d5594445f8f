use Rattle.std.proofs.Common.{arith}
use Rattle.load_file.proofs.Filling.{no_numbers, number_more}
use Rattle.load_file.proofs.numbers.Goals as goal

pub loop-i-init : goal.loop-i-init
loop-i-init c = no_numbers

pub loop-i-preserved : goal.loop-i-preserved
loop-i-preserved c = number_more c.loop-i.i c.loop-i.list (omega arith) c.loop-i.invariant
