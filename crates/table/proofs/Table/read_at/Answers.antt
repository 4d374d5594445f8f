use Prim.Native.Nat.{◌-◌}
use lib.ListN.{get_or}
use native.Mathlib.Omega.{arith}
use Rattle.table.specs.WellFormed.{WellFormed}
use Rattle.table.specs.BothWays.{checked_well}
use Rattle.std.specs.Prelude.{◌≡◌, ◌+◌, ◌≤◌, ◌%◌, ℕ, leb, true, false, take}
use Rattle.std.specs.List.Sorted.{IsPartitionPoint}
use Rattle.std.proofs.Common.{sym}
use Rattle.std.proofs.lemmas.List.{length-take-le}
use Rattle.std.proofs.lemmas.List.Sorted.{IsPartitionPoint-from_clause}
use Rattle.table.specs.Delays.{LastStart}
use Rattle.table.proofs.Exits.{starts_parted, some_start, last_start, read_room, read_delay}
use borrow.Author.Rules.{rules}
use Rattle.table.proofs.Table.read_at.Goals as goal
use Rattle.table.proofs.Table.read_at.Goals.{In_ok-check, After-partition_point-i}

-- past the first test the table is well-formed
formed : (c : In_ok-check) → let a = c.args in WellFormed a.self.starts.now a.self.latencies.now a.self.anchors a.self.hyperperiod
formed c = checked_well _ _ _ _ _ c.in_ok-check.ensures

pub slice_bounds-partition_point-end : goal.slice_bounds-partition_point-end
slice_bounds-partition_point-end c =
    let f = formed (goal.at.slice_bounds-partition_point-end c).In_ok-check in sym (length-take-le _ _ f.fits)

-- the starts at most u, and those above
parted : (c : After-partition_point-i) → let a = c.args in
    let u : ℕ = get_or a.self.starts.now 0 0 + (a.t - get_or a.self.starts.now 0 0) % a.self.hyperperiod in
    IsPartitionPoint (λ y. leb y u ≡ true) (λ y. leb y u ≡ false) (take a.self.anchors a.self.starts.now) c.partition_point-i.result
parted c =
    let a = c.args in
    let u : ℕ = get_or a.self.starts.now 0 0 + (a.t - get_or a.self.starts.now 0 0) % a.self.hyperperiod in
    let w = checked_well _ _ _ _ _ c.in_ok-check.ensures in
    IsPartitionPoint-from_clause (λ y. leb y u) _ _ c.partition_point-i.ensures.partitioned (starts_parted _ _ _ _ u w) (λ a r q k. search rules)

-- the anchor before the first start above u speaks
some : (c : After-partition_point-i) → 1 ≤ c.partition_point-i.result
some c =
    let w = checked_well _ _ _ _ _ c.in_ok-check.ensures in
    some_start _ _ _ _ _ w _ (omega arith) (parted c) c.partition_point-i.ensures.bound

last : (c : After-partition_point-i) → let a = c.args in
    LastStart a.self.starts.now a.self.anchors (get_or a.self.starts.now 0 0 + (a.t - get_or a.self.starts.now 0 0) % a.self.hyperperiod) (c.partition_point-i.result - 1)
last c =
    let w = checked_well _ _ _ _ _ c.in_ok-check.ensures in
    last_start _ _ _ _ _ w _ (omega arith) (parted c) c.partition_point-i.ensures.bound

pub overflow_sub-i : goal.overflow_sub-i
overflow_sub-i c = some (goal.at.overflow_sub-i c).After-partition_point-i

pub bounds-self-i : goal.bounds-self-i
bounds-self-i c =
    let k = goal.at.bounds-self-i c in
    let f = formed k.In_ok-check in
    omega (arith, f.fits, f.equal, (last k.After-partition_point-i).inside)

pub bounds-self-i-2 : goal.bounds-self-i-2
bounds-self-i-2 c =
    let k = goal.at.bounds-self-i-2 c in
    omega (arith, (formed k.In_ok-check).fits, (last k.After-partition_point-i).inside)

pub overflow_sub-result : goal.overflow_sub-result
overflow_sub-result c = (last (goal.at.overflow_sub-result c).After-partition_point-i).here

pub overflow_sub-result-2 : goal.overflow_sub-result-2
overflow_sub-result-2 c =
    let k = goal.at.overflow_sub-result-2 c in
    let b = k.In_ok-check in
    let a = b.args in
    read_room a.self.starts.now a.self.latencies.now _ _ _ _ b.in_ok-check.ensures c.if-t-first.false _ (last (goal.at.overflow_sub-result-2 c).After-partition_point-i)

pub returns : goal.returns
returns c =
    let b = c.before in
    let a = b.args in
    read_delay a.self.starts.now a.self.latencies.now _ _ _ _ b.in_ok-check.ensures c.if-t-first.false _ (last (goal.at.returns c).After-partition_point-i) c.if-t-gt-UPPER_TICK.false
