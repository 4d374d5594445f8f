use Rattle.std.proofs.Common.{refl}
use Rattle.capi_file.proofs.Gives.{chosen_fits, chain_given}
use Rattle.capi_file.proofs.mo_chain_of_schedule.Goals as goal

pub code-requires : goal.code-requires
code-requires c = chosen_fits c.schedule_from-s.result _ c.args.number _ c.schedule_from-s.ensures c.chain_number.ensures _ c.in-Err.is

pub returns-in-Ok : goal.returns-in-Ok
returns-in-Ok c = chain_given c.schedule_from-s.result _ c.args.number _ c.schedule_from-s.ensures c.chain_number.ensures _ _ _ _ c.in-Ok.is refl c.flat.ensures refl

pub returns-in-Err : goal.returns-in-Err
returns-in-Err c = chain_given c.schedule_from-s.result _ c.args.number _ c.schedule_from-s.ensures c.chain_number.ensures _ _ _ _ c.in-Err.is c.code.ensures refl refl
