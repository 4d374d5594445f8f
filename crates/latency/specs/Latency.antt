-- The greatest latency of a chain, and what a walk that looks for it answers.
use Rattle.std.specs.Prelude.{ℕ, ◌-◌, ◌≤◌, ◌<◌, ◌≡◌, List, length}
use Rattle.task.specs.declared.Place.{Place}
use Rattle.chain.specs.Checks.{Sound}
use Rattle.chain.specs.Hyperperiod.{hyper_of}
use Rattle.table.specs.Figures.{greatest}
use Rattle.partition.specs.Partitions.{start_of, end_of, range_of, anchors_of}
use Rattle.latency.specs.declared.Greatest.{Greatest}

-- Document 01, "Figures of a table": the greatest latency, of the chain's own table. The table is cut at the first place here; that its anchors are the same wherever it is cut is `cut_free`
-- of `partition`. That this is the greatest delay from the warm-up tick on is `greatest_latency_is` in GreatestDelay.
unfoldable pub greatest_latency : List Place → ℕ
greatest_latency l = greatest (anchors_of l 0 (hyper_of l))

-- A partition's latency: end − start. That the largest over all partitions of the range at any place, kept or not, is the greatest latency is `any_cut` in AnyCut.
abbrev pub latency_of : List Place → ℕ → ℕ → ℕ
latency_of l p m = end_of l p m - start_of l p m

-- A list of places that 8, 5 and 7 accept, its hyperperiod, and one of its places, counted from 0.
pub record AcceptedAt (l : List Place) (p h : ℕ) : Type 0 where
  pub sound : Sound l
  pub hyper : h ≡ hyper_of l
  pub small : h ≤ 60000000
  pub inside : p < length l

-- The greatest latency, and the number of partitions walked for it at place p, which is the length of the range of m, as making counts it.
abbrev pub greatest_at : List Place → ℕ → ℕ → Greatest
greatest_at l p h = record { latency = greatest_latency l; walked = length (range_of l p h) }
