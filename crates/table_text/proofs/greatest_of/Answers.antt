use Rattle.table_text.proofs.WellFigures.{greatest_is_holds, greatest_told}
use Rattle.table_text.proofs.greatest_of.Goals as goal

pub returns-in-Ok : goal.returns-in-Ok
returns-in-Ok c = greatest_is_holds _ _ _ _ c.requires _ _ c.greatest_of-v.ensures c.in-Ok.is

pub returns-in-Err : goal.returns-in-Err
returns-in-Err c = absurd (greatest_told _ _ _ _ c.requires _ _ c.greatest_of-v.ensures c.in-Err.is)
