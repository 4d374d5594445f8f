use Rattle.std.proofs.lemmas.Result.{err_from_is_err_and}
use Rattle.schedule_checks.proofs.Choice.{schedule_refused}
use Rattle.schedule_checks.proofs.chain_number.Goals as goal

pub returns-in_err-check : goal.returns-in_err-check
returns-in_err-check c =
    let p = err_from_is_err_and c.from_residual.result c.from_residual.ensures.1 in
    rw (p.1, p.2) (schedule_refused _ _ _ c.in_err-check.ensures)
