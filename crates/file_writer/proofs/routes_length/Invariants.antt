use Rattle.std.proofs.Common.{◌≡◌, ◌+◌, ◌*◌, ◌≤◌, length}
use Rattle.file_writer.proofs.Stores.{left}
use Rattle.file_writer.proofs.routes_length.Given as goal

abbrev pub invariant-loop-route : goal.invariant-loop-route
invariant-loop-route l = (l.long ≤ 28 * l.route-index) × (length (left l.routes 0) ≡ l.long + length (left l.routes l.route-index))
