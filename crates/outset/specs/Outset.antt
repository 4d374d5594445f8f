-- What is had by division, once before the loop: what stands for a division at each place, and the state at a job of the cut.
use Rattle.std.specs.Prelude.{ℕ, ◌+◌, ◌*◌, ◌/◌, ◌%◌, ◌≤◌, ◌<◌, ◌≡◌, List, length, get_or}
use Rattle.task.specs.declared.Place.{Place}
use Rattle.task.specs.Jobs.{write_of}
use Rattle.chain.specs.Chains.{at}
use Rattle.chain.specs.Checks.{Sound}
use Rattle.timing.specs.WarmUp.{warm_at}
use Rattle.partition.specs.declared.Partition.{Partition}
use Rattle.partition.specs.Partitions.{IsPartition}
use Rattle.stepping.specs.Reciprocal.{Reciprocal}
use Rattle.stepping.specs.OnePlace.{period_at, factor_at, shift_at, stored_at}
use Rattle.stepping.specs.Standing.{StandsFrom, Standing}

-- The numbers of place i, of period t, are given; all others stand as they stood.
pub record Given (i t : ℕ) (old new : List ℕ) : Type 0 where
  pub long : length new ≡ length old
  pub low : (x : ℕ) → x < 3 * i → get_or new x 0 ≡ get_or old x 0
  pub high : (x : ℕ) → 3 * i + 3 ≤ x → get_or new x 0 ≡ get_or old x 0
  pub period : period_at new i ≡ t
  pub reciprocal : Reciprocal t (factor_at new i) (shift_at new i)

-- A number of ticks as a job and a rest at place i.
pub record Put (i z t : ℕ) (old new : List ℕ) (r : ℕ) : Type 0 where
  pub is : r ≡ z / t
  pub stored : new ≡ stored_at old i (z / t) (z % t)

-- Job m of the cut, from the warm-up job on, with no large tick.
pub record Cut (l : List Place) (p m : ℕ) : Type 0 where
  pub sound : Sound l
  pub inside : p < length l
  pub warm : warm_at l p ≤ m
  pub top : write_of (at l p) (m + 1) ≤ 1000000000000

-- The state at job m of the cut, and that job's partition.
pub record First (l : List Place) (p m : ℕ) (new : List ℕ) (x : Partition) : Type 0 where
  pub stands : Standing l p m new
  pub partition : IsPartition l p m x

-- What a loop over the places leaves of the state: its length, and the entries of the places from a to b − 1.
pub record States (l : List Place) (p m a b : ℕ) (old new : List ℕ) : Type 0 where
  pub long : length new ≡ length old
  pub from : StandsFrom l p m a b new
