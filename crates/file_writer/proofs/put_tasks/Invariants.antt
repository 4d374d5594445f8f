use Rattle.std.proofs.Common.{◌≡◌, ◌*◌, length, drop}
use Rattle.std.proofs.lemmas.List.Edits.{sets}
use Rattle.file_writer.specs.FileBytes.{tasks_bytes}
use Rattle.file_writer.proofs.put_tasks.Given as goal

abbrev pub invariant-loop-i : goal.invariant-loop-i
invariant-loop-i l =
    (length l.out ≡ length l.initial.out) × (sets l.initial.out 0 (tasks_bytes l.tasks) ≡ sets l.out (18 * l.i) (tasks_bytes (drop l.i l.tasks)))
