use Rattle.std.proofs.Common.{◌≡◌}
use Rattle.load.specs.Load.{array_from}
use Rattle.load.proofs.Exits.{state_from}
use Rattle.load.proofs.tasks_from.Given as goal

abbrev pub invariant-loop-i : goal.invariant-loop-i
invariant-loop-i l = (l.s ≡ state_from l.seed l.i) × (l.tasks ≡ array_from l.seed l.i)
