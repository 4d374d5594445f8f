use native.Mathlib.Omega.{arith}
use Prim.Native.Nat.{◌+◌}
use mathlib.Core.Path.{refl}
use Rattle.file_writer.specs.FileBytes.{task_bytes}
use Rattle.file_writer.proofs.Stores.{field_run}
use Rattle.file_writer.proofs.put_task.Goals as goal

pub returns : goal.returns
unfolding task_bytes
returns c =
    let at = c.args.at in
    field_run _ _ _ at (at + 2) 2 18 _ refl c.put_number.ensures
    (field_run _ _ _ (at + 2) (at + 4) 2 1 _ (omega arith) c.put_number-2.ensures
    (field_run _ _ _ (at + 4) (at + 6) 2 _ _ (omega arith) c.put_number-3.ensures
    (field_run _ _ _ (at + 6) (at + 10) 4 _ _ (omega arith) c.put_number-4.ensures
    (field_run _ _ _ (at + 10) (at + 14) 4 _ _ (omega arith) c.put_number-5.ensures c.put_number-6.ensures))))
