use Rattle.std.proofs.Common.{◌≡◌, ◌+◌, length}
use Rattle.std.proofs.lemmas.List.Edits.{sets}
use Rattle.file_writer.proofs.Stores.{left}
use Rattle.file_writer.proofs.put_routes.Given as goal

abbrev pub invariant-loop-route : goal.invariant-loop-route
invariant-loop-route l =
    (length l.out ≡ length l.initial.out)
    × (sets l.initial.out l.from (left l.routes 0) ≡ sets l.out l.at (left l.routes l.route-index))
    × (l.from + length (left l.routes 0) ≡ l.at + length (left l.routes l.route-index))
