use Rattle.agreement.proofs.Exits.{both_delays}
use Rattle.agreement.proofs.table_is_walk.Goals as goal

pub returns : goal.returns
returns c =
    both_delays c.args.c c.well_formed.0.1.1.0.1.0.1 _ _ _ _ _ _ c.make_table-made.ensures _ _ c.told_figures-f.ensures _ _ c.read_at-read.ensures _ c.delay-walked.ensures
