use Rattle.std.proofs.Common.{◌≡◌, ◌+◌, ◌*◌, length, drop}
use Rattle.std.proofs.lemmas.List.Edits.{sets}
use Rattle.file_writer.specs.FileBytes.{numbers_bytes}
use Rattle.file_writer.proofs.put_places.Given as goal

abbrev pub invariant-loop-i : goal.invariant-loop-i
invariant-loop-i l =
    (length l.out ≡ length l.initial.out) × (sets l.initial.out l.at (numbers_bytes l.chain) ≡ sets l.out (l.at + 2 * l.i) (numbers_bytes (drop l.i l.chain)))
