-- What a walk over partitions with a bound begins with, and what it answers: the first latency above the bound ends it.
use Rattle.std.specs.Prelude.{ℕ, ◌-◌, ◌/◌, ◌≤◌, ◌<◌, ◌≡◌, List}
use Rattle.task.specs.declared.Place.{Place}
use Rattle.chain.specs.Chains.{at}
use Rattle.chain.specs.Hyperperiod.{hyper_of}
use Rattle.ranges.specs.Largest.{largest}
use Rattle.partition.specs.declared.Partition.{Partition}
use Rattle.partition.specs.Partitions.{IsPartition}
use Rattle.stepping.specs.Standing.{Standing}
use Rattle.outset.specs.Range.{Range}
use Rattle.latency.specs.declared.Greatest.{Greatest}
use Rattle.latency.specs.Latency.{greatest_latency, latency_of, greatest_at}

-- The n partitions from x on, and the state at x.
pub record Begins (t : List Place) (places p n : ℕ) (x : Partition) (state : List ℕ) : Type 0 where
  pub range : Range t places p x.job.0 n
  pub is : IsPartition t p x.job.0 x
  pub stands : Standing t p x.job.0 state

-- Of the n partitions from m on: an answer that keeps the bound is the largest latency, and all were walked; one above it says that the largest is. So many were walked as the answer counts, at least one and no more than
-- there are: it is the largest latency of those, and those before the last one are not above the bound, so the first that is ended the walk.
pub record Met (t : List Place) (p m n bound : ℕ) (r : Greatest) : Type 0 where
  pub whole : r.latency ≤ bound → (r.latency ≡ largest (latency_of t p) m n) × (r.walked ≡ n)
  pub late : bound < r.latency → bound < largest (latency_of t p) m n
  pub some : 1 ≤ r.walked
  pub few : r.walked ≤ n
  pub counted : r.latency ≡ largest (latency_of t p) m r.walked
  pub before : largest (latency_of t p) m (r.walked - 1) ≤ bound

-- As many partitions as the range of a chain has, from any job m of place p that is not before the warm-up job; that their largest latency is the greatest one too is `any_range` in AnyRange.
pub record RangeFrom (l : List Place) (places p m n : ℕ) : Type 0 where
  pub range : Range l places p m n
  pub whole : n ≡ hyper_of l / (at l p).period

-- What the walk of them answers: a latency that keeps the bound is the greatest one, and all were walked; one above it says that the greatest is. And what was walked, as `Met` has it.
pub record MetFrom (l : List Place) (p m n bound : ℕ) (r : Greatest) : Type 0 where
  pub whole : r.latency ≤ bound → (r.latency ≡ greatest_latency l) × (r.walked ≡ n)
  pub late : bound < r.latency → bound < greatest_latency l
  pub some : 1 ≤ r.walked
  pub few : r.walked ≤ n
  pub counted : r.latency ≡ largest (latency_of l p) m r.walked
  pub before : largest (latency_of l p) m (r.walked - 1) ≤ bound

-- The same of the whole range of a chain whose hyperperiod is h.
pub record MetAll (l : List Place) (p h bound : ℕ) (r : Greatest) : Type 0 where
  pub whole : r.latency ≤ bound → r ≡ greatest_at l p h
  pub late : bound < r.latency → bound < greatest_latency l
