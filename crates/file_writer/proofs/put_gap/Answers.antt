use native.Mathlib.Omega.{arith}
use Prim.Native.Nat.{◌+◌, ◌≤◌}
use mathlib.Core.Path.{refl}
use lib.ListN.{length}
use Rattle.file_writer.proofs.Lengths.{length_gap, no_gap}
use Rattle.file_writer.proofs.Stores.{gap_stored}
use borrow.Author.Rules.{rules}
use Rattle.file_writer.proofs.put_gap.Goals as goal
use Rattle.file_writer.proofs.put_gap.Goals.{Else-gap-eq0}

-- the record fits the lent bytes
room : (c : Else-gap-eq0) → c.args.at + 6 ≤ length c.args.out.now
room c = omega (arith, c.requires, length_gap c.args.gap c.if-gap-eq0.false)

pub returns-then-gap-eq0 : goal.returns-then-gap-eq0
returns-then-gap-eq0 c = rw (no_gap c.args.gap c.if-gap-eq0.true) (refl, omega arith)

pub put_head-requires : goal.put_head-requires
put_head-requires c = omega (arith, room (goal.at.put_head-requires c).Else-gap-eq0)

pub put_number-requires : goal.put_number-requires
put_number-requires c = let r = room (goal.at.put_number-requires c).Else-gap-eq0 in search rules

pub returns : goal.returns
returns c = (
  gap_stored _ _ _ _ c.args.gap c.if-gap-eq0.false c.put_head.ensures c.put_number.ensures,
  omega (arith, length_gap c.args.gap c.if-gap-eq0.false),
)
