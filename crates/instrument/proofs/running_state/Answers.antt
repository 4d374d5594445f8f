use mathlib.Core.Path.{ap}
use Rattle.instrument.specs.declared.Side.{Side}
use borrow.Author.Rules.{rules}
use Rattle.instrument.proofs.running_state.Goals as goal

pub returns : goal.returns
returns c = ap (λ (d : Side). record { running = c.args.b; firmware = d }) c.no_proposal.ensures
