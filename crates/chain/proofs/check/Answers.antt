use mathlib.Core.Path.{◌∙◌}
use Rattle.chain.proofs.Filling.{Lent, lent}
use Rattle.chain.proofs.check.Goals as goal
use Rattle.chain.proofs.check.Goals.{After-flat_length-n}

front : (c : After-flat_length-n) → Lent c.args.c c.flat-tasks.result c.flat_length-n.result
front c = lent _ c.well_formed.0.1.1.0.1.0.1 _ c.flat-tasks.ensures _ c.flat_length-n.ensures

pub slice_bounds-tasks-end : goal.slice_bounds-tasks-end
slice_bounds-tasks-end c = (front c).inside

pub slice_bounds-check_on-end : goal.slice_bounds-check_on-end
slice_bounds-check_on-end c = (front (goal.at.slice_bounds-check_on-end c).After-flat_length-n).long

pub returns : goal.returns
returns c = c.check_on.ensures ∙ (front (goal.at.returns c).After-flat_length-n).stands.verdict
