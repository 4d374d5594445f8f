-- Document 01, "Delay, age, partitions": the partitions of a chain that is cut at a place, and its anchors. The place p is counted from 0 here.
use Rattle.std.specs.Prelude.{ℕ, ◌+◌, ◌-◌, ◌/◌, ◌≡◌, Bool, not, List, map, eqb}
use Rattle.task.specs.declared.Place.{Place}
use Rattle.task.specs.Jobs.{read_of, write_of}
use Rattle.chain.specs.Chains.{at, last_place, forward_by, backward_by, job_of}
use Rattle.timing.specs.WarmUp.{warm_at}
use Rattle.table.specs.Anchors.{Anchor, anchor}
use Rattle.partition.specs.declared.Partition.{Partition}
use Rattle.partition.specs.Lists.{range_from, keep, drop_repeats}

-- The partition of job m at place p: backward from m to the start, a read. From Wp on there is one: `start_there` in timing's WarmLaws.
unfoldable pub start_of : List Place → ℕ → ℕ → ℕ
start_of l p m = read_of (at l 0) (job_of (backward_by l 0 p m))

-- Forward from m + 1 to the end, a write.
unfoldable pub end_of : List Place → ℕ → ℕ → ℕ
end_of l p m = write_of (at l (last_place l)) (forward_by l p (last_place l - p) (m + 1))

-- The partition of job m, as the code holds it.
pub record IsPartition (l : List Place) (p m : ℕ) (x : Partition) : Type 0 where
  pub of : x.job.0 ≡ m
  pub starts : x.start.0 ≡ start_of l p m
  pub ends : x.end.0 ≡ end_of l p m

-- A partition is kept when the next m has another start.
unfoldable pub keeps : List Place → ℕ → ℕ → Bool
keeps l p m = not (eqb (start_of l p (m + 1)) (start_of l p m))

-- An anchor: the start, and latency = end − start.
abbrev pub anchor_of : List Place → ℕ → ℕ → Anchor
anchor_of l p m = anchor (start_of l p m) (end_of l p m - start_of l p m)

-- The anchors of the n partitions from m on: those kept, without each one whose end equals that of the kept one before.
unfoldable pub anchors_from : List Place → ℕ → ℕ → ℕ → List Anchor
anchors_from l p m n = map (anchor_of l p) (drop_repeats (end_of l p) (keep (keeps l p) (range_from m n)))

-- The range of m: Wp to Wp + H/Tp − 1.
abbrev pub range_of : List Place → ℕ → ℕ → List ℕ
range_of l p h = range_from (warm_at l p) (h / (at l p).period)

-- The anchors of the chain cut at p, h being its hyperperiod.
abbrev pub anchors_of : List Place → ℕ → ℕ → List Anchor
anchors_of l p h = anchors_from l p (warm_at l p) (h / (at l p).period)
