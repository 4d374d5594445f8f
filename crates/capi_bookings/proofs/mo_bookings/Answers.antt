use Rattle.capi_bookings.proofs.Gives.{gives_both, refuses, code_fits}
use borrow.Author.Rules.{rules}
use Rattle.capi_bookings.proofs.mo_bookings.Goals as goal

pub code-requires : goal.code-requires
code-requires c =
    code_fits _ _ _ _ _ _ c.schedule_from-s.ensures c.pair_of-b.ensures _ c.in-Err.is

pub returns-in-Ok : goal.returns-in-Ok
returns-in-Ok c =
    gives_both _ _ _ _ _ _ c.schedule_from-s.ensures c.pair_of-b.ensures _ _ _ _ c.in-Ok.is

pub returns-in-Err : goal.returns-in-Err
returns-in-Err c =
    refuses _ _ _ _ _ _ c.schedule_from-s.ensures c.pair_of-b.ensures _ _ c.in-Err.is c.code.ensures
