use Rattle.chain.specs.Flat.{given_in}
use Rattle.phase.proofs.Tries.{Trying}
use Rattle.phase.proofs.try_phases.Given as goal

abbrev pub invariant-loop-phase : goal.invariant-loop-phase
invariant-loop-phase l = Trying l.gap l.places (given_in l.initial.tasks) l.number l.bound l.phases l.n l.tasks l.at l.stride l.walked l.phase
