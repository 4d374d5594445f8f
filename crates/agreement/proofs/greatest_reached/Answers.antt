use Rattle.agreement.proofs.Exits.{reached}
use Rattle.agreement.proofs.greatest_reached.Goals as goal

pub returns : goal.returns
returns c =
    reached c.args.c c.well_formed.0.1.1.0.1.0.1 _ _ _ _ _ _ c.make_table-made.ensures _ _ c.told_figures-f.ensures _ c.greatest_of-greatest.ensures c.args.i _ _ _ _ c.entry-start.ensures c.entry-latency.ensures c.delay-delay.ensures _ c.last_before.ensures c.age-age.ensures
