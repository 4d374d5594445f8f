use mathlib.Core.Path.{refl}
use Rattle.file_writer.proofs.Stores.{field_run}
use Rattle.file_writer.proofs.put_head.Goals as goal

pub returns : goal.returns
returns c = field_run _ _ _ _ _ 2 _ _ refl c.put_number.ensures c.put_number-2.ensures
