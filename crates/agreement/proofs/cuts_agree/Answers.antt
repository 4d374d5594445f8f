use Rattle.agreement.proofs.Exits.{two_cuts}
use Rattle.agreement.proofs.cuts_agree.Goals as goal

pub returns : goal.returns
returns c =
    two_cuts c.args.c c.well_formed.0.1.1.0.1.0.1 _ _ _ _ _ _ _ c.make_table-first.ensures _ _ _ _ _ c.make_table-second.ensures
