use Rattle.table_text.proofs.WellFigures.{low_is_holds, low_told}
use Rattle.table_text.proofs.low_of.Goals as goal

pub returns-in-Ok : goal.returns-in-Ok
returns-in-Ok c = low_is_holds _ _ _ _ c.requires _ _ c.low_of-v.ensures c.in-Ok.is

pub returns-in-Err : goal.returns-in-Err
returns-in-Err c = absurd (low_told _ _ _ _ c.requires _ _ c.low_of-v.ensures c.in-Err.is)
