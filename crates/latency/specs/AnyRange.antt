-- Partitions repeat with the hyperperiod, so the greatest latency is found from any job on that is not before the warm-up job, not from that job alone (`any_range`).
use Rattle.std.specs.Prelude.{ℕ, zero, suc, ◌+◌, ◌-◌, ◌*◌, ◌/◌, ◌≤◌, ◌<◌, max, ◌≡◌, List}
use native.Mathlib.Omega.{arith}
use Rattle.std.proofs.Common.{add-one, ◌∙◌}
use Rattle.std.proofs.Math.Nat.{add-mul}
use Rattle.std.proofs.Math.Path.{ap}
use Rattle.std.proofs.Math.ListN.{length}
use Rattle.ranges.specs.Largest.{largest}
use Rattle.ranges.proofs.LargestLaws.{largest_top, largest_next}
use Rattle.task.specs.declared.Place.{Place}
use Rattle.chain.specs.Chains.{at, last_place, forward_by, backward_by, job_of}
use Rattle.chain.specs.Checks.{Sound}
use Rattle.chain.specs.Hyperperiod.{hyper_of}
use Rattle.chain.specs.Multiples.{hyper_times, some_jobs}
use Rattle.timing.specs.WarmUp.{warm_at}
use Rattle.partition.specs.Partitions.{start_of, end_of}
use Rattle.stepping.specs.Moves.{back_gains, on_gains}
use Rattle.latency.specs.Latency.{greatest_latency, latency_of}
use Rattle.latency.specs.AnyCut.{any_cut}

-- a figure that is the same n numbers later has the same largest over any n successive numbers
slide : (f : ℕ → ℕ) (n m : ℕ) → 1 ≤ n → f (m + n) ≡ f m → largest f (suc m) n ≡ largest f m n
unfolding largest
slide f n m some e =
    let a : largest f m (n + 1) ≡ max (f m) (largest f (suc m) n) = ap (largest f m) (add-one n) in
    omega (arith, a, largest_next f n m, e, largest_top f n m m (omega arith) (omega arith), largest_top f n (suc m) (m + n) (omega arith) (omega arith))

module _ (l : List Place) (ok : Sound l) (p : ℕ) (h : p < length l) where
  abbrev n : ℕ
  n = hyper_of l / (at l p).period

  abbrev f : ℕ → ℕ
  f = latency_of l p

  -- a range later start and end are a hyperperiod later
  start_repeats : (m : ℕ) → warm_at l p ≤ m → start_of l p (m + n) ≡ start_of l p m + hyper_of l
  unfolding start_of
  start_repeats m g =
      let z : p - 0 ≡ p = omega arith in
      let e : job_of (backward_by l 0 p (m + n)) ≡ job_of (backward_by l 0 p m) + hyper_of l / (at l 0).period = rw z at (back_gains l ok p h m g 0 (omega arith)) in
      ap (λ (j : ℕ). (at l 0).phase + j * (at l 0).period) e
      ∙ (omega (arith, add-mul (job_of (backward_by l 0 p m)) (hyper_of l / (at l 0).period) (at l 0).period, hyper_times l 0 ok.some))

  end_repeats : (m : ℕ) → warm_at l p ≤ m → end_of l p (m + n) ≡ end_of l p m + hyper_of l
  unfolding end_of
  end_repeats m g =
      let last : last_place l < length l = omega (arith, ok.some) in
      let e = on_gains l ok p h m g (last_place l) (omega arith) last in
      ap (λ (j : ℕ). (at l (last_place l)).phase + j * (at l (last_place l)).period + (at l (last_place l)).duration) e
      ∙ (omega (arith, add-mul (forward_by l p (last_place l - p) (m + 1)) (hyper_of l / (at l (last_place l)).period) (at l (last_place l)).period, hyper_times l (last_place l) last))

  repeats : (m : ℕ) → warm_at l p ≤ m → f (m + n) ≡ f m
  repeats m g = omega (arith, start_repeats m g, end_repeats m g)

  from_warm : (d : ℕ) → largest f (warm_at l p + d) n ≡ largest f (warm_at l p) n
  from_warm zero = let e : warm_at l p + 0 ≡ warm_at l p = omega arith in ap (λ (x : ℕ). largest f x n) e
  from_warm (suc d) =
      let e : warm_at l p + suc d ≡ suc (warm_at l p + d) = omega arith in
      ap (λ (x : ℕ). largest f x n) e ∙ slide f n (warm_at l p + d) (some_jobs l ok p h) (repeats (warm_at l p + d) (omega arith)) ∙ from_warm d

  -- From whichever job on, the largest of so many partitions is the greatest latency.
  pub any_range : (m : ℕ) → warm_at l p ≤ m → largest (latency_of l p) m (hyper_of l / (at l p).period) ≡ greatest_latency l
  any_range m g =
      let e : m ≡ warm_at l p + (m - warm_at l p) = omega arith in
      ap (λ (x : ℕ). largest f x n) e ∙ from_warm (m - warm_at l p) ∙ any_cut l ok p h
