use Rattle.std.proofs.Common.{refl, sym, ◌∙◌}
use Rattle.capi_file.proofs.Gives.{read_fits, read_given}
use Rattle.capi_file.proofs.mo_read_file.Goals as goal

pub code-requires : goal.code-requires
code-requires c = read_fits c.args.bytes.now _ _ c.read_file.ensures c.in-Err.is

pub returns-in-Ok : goal.returns-in-Ok
returns-in-Ok c = read_given _ _ _ _ _ _ _ (sym c.in-Ok.is ∙ c.read_file.ensures) refl c.flat_tasks.ensures c.flat_routes.ensures c.route_counts.ensures refl

pub returns-in-Err : goal.returns-in-Err
returns-in-Err c = read_given _ _ _ _ _ _ _ (sym c.in-Err.is ∙ c.read_file.ensures) c.code.ensures refl refl refl refl
