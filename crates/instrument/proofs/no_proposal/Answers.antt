use mathlib.Core.Path.{ap}
use Rattle.bounded.specs.declared.Bounded.{Bounded}
use borrow.Author.Rules.{rules}
use Rattle.instrument.proofs.no_proposal.Goals as goal

pub returns : goal.returns
returns c = ap (λ (b : Bounded). record { proposal = b; stands = 0 }) c.zero_bounded.ensures
