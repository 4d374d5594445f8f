use Rattle.instrument.proofs.Exits.{ask_refused, ask_taken}
use Rattle.instrument.proofs.ask.Goals as goal

pub returns-in-Ok : goal.returns-in-Ok
returns-in-Ok c = ask_taken _ _ c.cleared_of-p.ensures _ c.in-Ok.ensures _ _ c.proposed.ensures

pub returns-in-Err : goal.returns-in-Err
returns-in-Err c = ask_refused _ _ c.cleared_of-p.ensures _ c.in-Err.ensures _
