use Rattle.capi_file.proofs.Gives.{written_fits, written_bytes, written_refused}
use Rattle.capi_file.proofs.mo_write_file.Goals as goal

pub code-requires : goal.code-requires
code-requires c = written_fits c.schedule_from-s.result _ _ _ _ c.schedule_from-s.ensures c.write_file.ensures _ c.in-Err.is

pub returns-in-Ok : goal.returns-in-Ok
returns-in-Ok c = written_bytes c.schedule_from-s.result _ _ _ _ c.schedule_from-s.ensures c.write_file.ensures _ c.in-Ok.is

pub returns-in-Err : goal.returns-in-Err
returns-in-Err c = written_refused c.schedule_from-s.result _ _ _ _ c.schedule_from-s.ensures c.write_file.ensures _ _ c.in-Err.is c.code.ensures
