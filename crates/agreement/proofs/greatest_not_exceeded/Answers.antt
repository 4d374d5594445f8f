use Rattle.agreement.proofs.Exits.{bounded}
use Rattle.agreement.proofs.greatest_not_exceeded.Goals as goal

pub returns : goal.returns
returns c =
    bounded c.args.c c.well_formed.0.1.1.0.1.0.1 _ _ _ _ _ _ c.make_table-made.ensures _ _ c.told_figures-f.ensures _ c.greatest_of-greatest.ensures _ _ _ _ c.delay-delay.ensures c.age-age.ensures
