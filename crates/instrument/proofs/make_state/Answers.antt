use Rattle.instrument.proofs.Exits.{make_refused, make_taken}
use Rattle.instrument.proofs.make_state.Goals as goal

pub returns-in-Ok : goal.returns-in-Ok
returns-in-Ok c = make_taken _ _ c.cleared_of-p.ensures _ c.in-Ok.ensures _ c.running_state.ensures

pub returns-in-Err : goal.returns-in-Err
returns-in-Err c = make_refused _ _ c.cleared_of-p.ensures _ c.in-Err.ensures _ c.zero_state.ensures
