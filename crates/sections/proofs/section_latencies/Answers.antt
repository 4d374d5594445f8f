use mathlib.Core.Path.{◌∙◌}
use Rattle.chain.proofs.Filling.{Lent, lent}
use Rattle.sections.specs.Standing.{sections_stands}
use Rattle.sections.proofs.section_latencies.Goals as goal
use Rattle.sections.proofs.section_latencies.Goals.{After-flat_length-n}

front : (c : After-flat_length-n) → Lent c.args.c c.flat-tasks.result c.flat_length-n.result
front c = lent _ c.well_formed.0.1.1.0.1.0.1 _ c.flat-tasks.ensures _ c.flat_length-n.ensures

pub returns : goal.returns
returns c = c.section_latencies_on.ensures ∙ sections_stands _ _ _ (front (goal.at.returns c).After-flat_length-n).stands _
