use native.Mathlib.Omega.{arith}
use Prim.Native.Nat.{◌+◌, ◌*◌, ◌≤◌}
use mathlib.Core.Path.{◌≡◌, sym}
use lib.ListN.{length}
use lib.Seq.{length-take-le}
use Rattle.schedule.specs.Schedules.{places_of}
use Rattle.file_writer.proofs.Lengths.{length_chain}
use Rattle.file_writer.proofs.Stores.{chain_stored}
use borrow.Author.Rules.{rules}
use Rattle.file_writer.proofs.put_route.Goals as goal
use Rattle.file_writer.proofs.put_route.Goals.{Start}

counted : (c : Start) → c.args.c.count ≡ length (places_of c.args.c)
counted c =
    let n : length c.args.c.places ≡ 12 = c.well_formed.1.1.0.1.1.0.1.0.1 in
    sym (length-take-le c.args.c.count c.args.c.places (omega (arith, n, c.requires.0)))

-- the record fits the lent bytes
room : (c : Start) → c.args.at + (4 + 2 * c.args.c.count) ≤ length c.args.out.now
room c = omega (arith, c.requires.1, length_chain (places_of c.args.c), counted c)

pub put_head-requires : goal.put_head-requires
put_head-requires c = omega (arith, room (goal.at.put_head-requires c).Start)

pub put_places-requires : goal.put_places-requires
put_places-requires c = let r = room (goal.at.put_places-requires c).Start in let k = counted (goal.at.put_places-requires c).Start in search rules

pub returns : goal.returns
returns c = (
  chain_stored c.args.out.now _ _ (places_of c.args.c) c.args.at c.args.c.count (counted (goal.at.returns c).Start) c.put_head.ensures c.put_places.ensures,
  omega (arith, length_chain (places_of c.args.c), counted (goal.at.returns c).Start),
)
