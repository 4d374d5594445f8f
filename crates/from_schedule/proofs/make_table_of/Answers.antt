use Rattle.std.proofs.lemmas.Result.{err_from_is_err_and}
use mathlib.Core.Path.{refl}
use Rattle.from_schedule.proofs.Choices.{holds_refused, holds_made}
use Rattle.from_schedule.proofs.make_table_of.Goals as goal

pub returns-in_err-c : goal.returns-in_err-c
returns-in_err-c c =
    let p = err_from_is_err_and c.from_residual.result c.from_residual.ensures.1 in
    rw (p.1, p.2) (holds_refused _ _ _ _ _ c.in_err-c.ensures (refl, refl, refl))

pub returns : goal.returns
returns c = holds_made _ _ _ _ _ c.in_ok-c.ensures c.make_table.ensures
