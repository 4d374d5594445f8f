-- What the lists of the step hold: of every place its job on the ways of a partition and what is left of the division that the definition makes there, and the constants of its period.
-- The cut p is counted from 0.
use Rattle.std.specs.Prelude.{ℕ, ◌+◌, ◌-◌, ◌*◌, ◌%◌, ◌≤◌, ◌<◌, ◌≡◌, cond, List, leb, length}
use Rattle.std.proofs.Common.{arith}
use Rattle.task.specs.declared.Place.{Place}
use Rattle.task.specs.Jobs.{read_of, write_of, readable_of}
use Rattle.chain.specs.Chains.{at, forward_by, backward_by, job_of}
use Rattle.chain.specs.Checks.{Sound}
use Rattle.timing.specs.WarmUp.{warm_at}
use Rattle.partition.specs.declared.Partition.{Partition}
use Rattle.partition.specs.Partitions.{IsPartition}
use Rattle.stepping.specs.Reciprocal.{Reciprocal}
use Rattle.stepping.specs.OnePlace.{period_at, factor_at, shift_at, job_at, rest_at}

-- The job at place i on the way back from job m at the cut, i ≤ p,
abbrev pub back_job : List Place → ℕ → ℕ → ℕ → ℕ
back_job l p m i = job_of (backward_by l i (p - i) m)

-- and on the way on from job m + 1 at the cut, p ≤ i.
abbrev pub on_job : List Place → ℕ → ℕ → ℕ → ℕ
on_job l p m i = forward_by l p (i - p) (m + 1)

-- The ticks that `backward_link` divides by the period of place i, i < p,
unfoldable pub back_ticks : List Place → ℕ → ℕ → ℕ → ℕ
back_ticks l p m i = read_of (at l (i + 1)) (back_job l p m (i + 1)) - readable_of (at l i) 0

-- and those that `forward_link` divides by the period of place c + 1, p ≤ c.
unfoldable pub on_ticks : List Place → ℕ → ℕ → ℕ → ℕ
on_ticks l p m c = readable_of (at l c) (on_job l p m c) - (at l (c + 1)).phase + ((at l (c + 1)).period - 1)

-- At job m of the cut, the places from a to b − 1 have the jobs that the definitions give, and what these divisions leave. The cut has no rest: its job is m itself.
pub record StandsFrom (l : List Place) (p m a b : ℕ) (state : List ℕ) : Type 0 where
  pub back_jobs : (i : ℕ) → a ≤ i → i ≤ p → job_at state i ≡ back_job l p m i
  pub back_rests : (i : ℕ) → a ≤ i → i < p → rest_at state i ≡ back_ticks l p m i % (at l i).period
  pub on_jobs : (c : ℕ) → p ≤ c → c + 1 < b → job_at state (c + 1) ≡ on_job l p m (c + 1)
  pub on_rests : (c : ℕ) → p ≤ c → c + 1 < b → rest_at state (c + 1) ≡ on_ticks l p m c % (at l (c + 1)).period

-- The state stands at job m of the cut: all places do.
pub record Standing (l : List Place) (p m : ℕ) (state : List ℕ) : Type 0 where
  pub long : 2 * length l ≤ length state
  pub all : StandsFrom l p m 0 (length l) state

-- The constants of the places before b.
pub record GivenTo (l : List Place) (b : ℕ) (r : List ℕ) : Type 0 where
  pub period : (i : ℕ) → i < b → period_at r i ≡ (at l i).period
  pub each : (i : ℕ) → i < b → Reciprocal (period_at r i) (factor_at r i) (shift_at r i)

-- Those of all the chain's places.
pub record Reciprocals (l : List Place) (r : List ℕ) : Type 0 where
  pub long : 3 * length l ≤ length r
  pub all : GivenTo l (length l) r

-- The state stands at a job of the cut p of n places, from the warm-up job on, and no tick is large.
pub record Stands (l : List Place) (n p : ℕ) (state : List ℕ) : Type 0 where
  pub sound : Sound l
  pub places : n ≡ length l
  pub inside : p < n
  pub warm : warm_at l p ≤ job_at state p
  pub stands : Standing l p (job_at state p) state
  pub top : write_of (at l p) (job_at state p + 1) ≤ 1000000000000

pub cut_in : (l : List Place) (n p : ℕ) (state : List ℕ) → Stands l n p state → p < length l
cut_in l n p state k = omega (arith, k.places, k.inside)

-- What a step needs: such a state, the constants, and no large tick at the next job.
pub record Steps (l : List Place) (n p : ℕ) (r state : List ℕ) : Type 0 where
  pub at_job : Stands l n p state
  pub constants : Reciprocals l r
  pub top : write_of (at l p) (job_at state p + 1 + 1) ≤ 1000000000000

-- What it leaves and answers: the state at the next job, and that job's partition.
pub record Stepped (l : List Place) (p : ℕ) (old new : List ℕ) (x : Partition) : Type 0 where
  pub stands : Standing l p (job_at old p + 1) new
  pub partition : IsPartition l p (job_at old p + 1) x

-- The job at the end: that of the last place, or where the cut is the last place the one after the cut's.
unfoldable pub end_job : ℕ → ℕ → ℕ → ℕ → ℕ
end_job n p here last = cond (leb n (p + 1)) (here + 1) last
