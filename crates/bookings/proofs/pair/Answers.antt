use mathlib.Core.Path.{◌∙◌}
use Rattle.chain.proofs.Filling.{Lent, lent}
use Rattle.bookings.proofs.Standing.{bookings_stands}
use Rattle.bookings.proofs.pair.Goals as goal
use Rattle.bookings.proofs.pair.Goals.{After-flat_length-m, After-flat_length-n}

-- what is lent of the flat list of each
one : (c : After-flat_length-n) → Lent c.args.first c.flat-one.result c.flat_length-n.result
one c = lent _ c.well_formed.0.1.1.0.1.0.1 _ c.flat-one.ensures _ c.flat_length-n.ensures

two : (c : After-flat_length-m) → Lent c.args.second c.flat-two.result c.flat_length-m.result
two c = lent _ c.well_formed.1.0.1.1.0.1.0.1 _ c.flat-two.ensures _ c.flat_length-m.ensures

pub returns : goal.returns
returns c = let k = c.before in c.pair_on.ensures ∙ bookings_stands _ _ _ _ _ _ (one (goal.at.returns c).After-flat_length-n).stands (two (goal.at.returns c).After-flat_length-m).stands _
