use Prim.Native.Nat.{◌-◌}
use lib.ListN.{length}
use Rattle.file_reader.proofs.Going.{Going}
use Rattle.file_reader.proofs.read_file.Given as goal

abbrev pub invariant-loop-at : goal.invariant-loop-at
invariant-loop-at l = Going l.bytes l.tasks l.numbers l.routes l.count l.chains l.gap l.at

abbrev pub decreases-loop-at : goal.decreases-loop-at
decreases-loop-at l = length l.bytes - l.at
