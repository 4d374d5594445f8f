use native.Mathlib.Omega.{arith}
use Rattle.table_text.proofs.WellFigures.{mean_is_holds, mean_told}
use Rattle.table_text.proofs.Lines.{mean_line}
use Rattle.table_text.proofs.put_mean.Goals as goal

pub returns-in-Ok : goal.returns-in-Ok
returns-in-Ok c =
    let told = c.before in
    (mean_line _ _ _ _ _ _ _ _ (mean_is_holds _ _ _ _ told.requires.0 _ _ _ told.mean_of-v.ensures told.in-Ok.is) c.put_pair.ensures.0, omega arith)

pub returns-in-Err : goal.returns-in-Err
returns-in-Err c = absurd (mean_told _ _ _ _ c.requires.0 _ _ c.mean_of-v.ensures c.in-Err.is)
