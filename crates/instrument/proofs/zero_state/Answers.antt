use mathlib.Core.Path.{ap, ◌∙◌}
use Rattle.instrument.specs.Instrument.{runs}
use borrow.Author.Rules.{rules}
use Rattle.instrument.proofs.zero_state.Goals as goal

pub returns : goal.returns
returns c = c.running_state.ensures ∙ ap runs c.zero_bounded.ensures
