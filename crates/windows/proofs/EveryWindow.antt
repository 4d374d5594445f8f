-- Every window of jobs after the warm-up job, over all time: misses repeat with the hyperperiod (`misses_period`), so no window has more than
-- the largest over one hyperperiod of first jobs (`largest_of_all`), and the earliest job of this range that has as many is the earliest of all (`earliest`).
-- A mark with these properties is the only one (`one_stretch`).
use Prim.Native.Nat.{ℕ, zero, suc, ◌+◌, ◌-◌, ◌*◌, ◌/◌, ◌%◌, ◌≤◌, ◌<◌}
use native.Mathlib.Omega.{arith}
use Rattle.std.proofs.Math.Nat.{mod-lt, div-add-mod'}
use Rattle.std.proofs.Math.Decide.{dec_le}
use Rattle.std.specs.Prelude.{◌≡◌, List, ltb}
use Rattle.std.proofs.Math.Path.{refl, ap}
use Rattle.std.proofs.Common.{◌∙◌}
use Rattle.std.proofs.Math.Dec.{eqb}
use borrow.Author.Tests.{eqb-true, eqb-false, eq-eqb}
use Rattle.task.specs.declared.Place.{Place}
use Rattle.task.specs.Jobs.{write_of}
use Rattle.chain.specs.Chains.{at, last_place, walk}
use Rattle.chain.specs.Hyperperiod.{hyper_of}
use Rattle.chain.specs.Multiples.{hyper_pos, hyper_times}
use Rattle.chain.specs.Checks.{Sound}
use Rattle.timing.specs.WarmUp.{warm_at}
use Rattle.timing.specs.Period.{walk_period}
use Rattle.ranges.proofs.LargestLaws.{largest_top, reached}
use Rattle.ranges.proofs.LeastLaws.{first_found}
use Rattle.windows.specs.Windows.{span_of, misses, one, misses_in, starts, window_of, most_misses, earliest_job}

-- The mark of a bad stretch: the k jobs from j on, j being in the range, have m misses; no k successive jobs after W1 have more, over all time; and those that begin before j have fewer.
pub record BadStretch (l : List Place) (B k m j : ℕ) : Type 0 where
  pub after : warm_at l 0 < j
  pub within : j ≤ warm_at l 0 + starts l
  pub has : window_of l B k j ≡ m
  pub no_more : (s : ℕ) → warm_at l 0 < s → window_of l B k s ≤ m
  pub fewer : (s : ℕ) → warm_at l 0 < s → s < j → window_of l B k s < m

-- "the same mark on each machine": there is but one.
pub one_stretch : (l : List Place) (B k m n i j : ℕ) → BadStretch l B k m i → BadStretch l B k n j → (m ≡ n) × (i ≡ j)
one_stretch l B k m n i j p q =
    let same : m ≡ n = omega (arith, p.has, q.has, p.no_more j q.after, q.no_more i p.after) in
    let a : i < j → ⊥ = λ h. omega (arith, q.fewer i p.after h, p.has) in
    let b : j < i → ⊥ = λ h. omega (arith, p.fewer j q.after h, q.has) in
    (same, omega arith)

-- ---- of a chain that passes the checks 8 and 5

module _ (l : List Place) (ok : Sound l) where
  -- there is a first job
  pub starts_pos : 1 ≤ starts l
  starts_pos = elim (dec_le 1 (starts l)) [
    | yes h ↦ h
    | no h ↦
        let z : starts l ≡ 0 = omega arith in
        let e = hyper_times l 0 ok.some in
        let g = rw z at e in
        omega (arith, hyper_pos l ok)
  ]

  -- A hyperperiod later a job's forward end is a hyperperiod later,
  pub span_period : (j : ℕ) → warm_at l 0 < j → span_of l (j + starts l) ≡ span_of l j
  unfolding span_of
  span_period j h =
      let w : write_of (at l (last_place l)) (walk l (j + starts l)) ≡ write_of (at l (last_place l)) (walk l j + hyper_of l / (at l (last_place l)).period)
      = ap (write_of (at l (last_place l))) (walk_period l ok j h) in
      omega (arith, w, hyper_times l (last_place l) (omega (arith, ok.some)), hyper_times l 0 ok.some)

  module _ (B : ℕ) where
    -- so it misses again,
    pub misses_period : (j : ℕ) → warm_at l 0 < j → misses l B (j + starts l) ≡ misses l B j
    unfolding misses
    misses_period j h = ap (ltb B) (span_period j h)

    -- and a window has as many misses,
    pub window_period : (k s : ℕ) → warm_at l 0 < s → window_of l B k (s + starts l) ≡ window_of l B k s
    unfolding misses_in
    window_period zero s h = refl
    window_period (suc k) s h =
        let a = ap one (misses_period s h) in
        let e : suc s + starts l ≡ suc (s + starts l) = omega arith in
        let b = window_period k (suc s) (omega arith) in
        omega (arith, rw e at b)

    -- after any number of hyperperiods.
    pub window_periods : (k m s : ℕ) → warm_at l 0 < s → window_of l B k (s + m * starts l) ≡ window_of l B k s
    window_periods k zero s h = let e : s + 0 * starts l ≡ s = omega arith in rw e
    window_periods k (suc m) s h =
        let e : s + suc m * starts l ≡ s + m * starts l + starts l = omega arith in
        rw e (window_period k (s + m * starts l) (omega arith) ∙ window_periods k m s h)

    -- No k successive jobs after W1 have more misses, over all time,
    pub largest_of_all : (k s : ℕ) → warm_at l 0 < s → window_of l B k s ≤ most_misses l B k
    unfolding most_misses
    largest_of_all k s h =
        let q : ℕ = starts l in
        let d : ℕ = s - (warm_at l 0 + 1) in
        let r = mod-lt d starts_pos in
        let e : s ≡ warm_at l 0 + 1 + d % q + d / q * q = omega (arith, div-add-mod' d q) in
        let p = window_periods k (d / q) (warm_at l 0 + 1 + d % q) (omega arith) in
        rw (e, p) (largest_top (window_of l B k) q (warm_at l 0 + 1) (warm_at l 0 + 1 + d % q) (omega arith) (omega arith))

    -- and the earliest job of the range from which k jobs have as many is the one mark.
    pub earliest : (k : ℕ) → BadStretch l B k (most_misses l B k) (earliest_job l B k)
    unfolding most_misses earliest_job
    earliest k =
        let r = reached (window_of l B k) (starts l) (warm_at l 0 + 1) starts_pos in
        let q = first_found (λ s. eqb (window_of l B k s) (most_misses l B k)) (starts l) (warm_at l 0 + 1) r.number r.low r.high (eq-eqb _ _ r.is) in
        record {
          after = omega (arith, q.low);
          within = omega (arith, q.high);
          has = eqb-true _ _ q.passes;
          no_more = largest_of_all k;
          fewer = λ s u v. let a = largest_of_all k s u in let b : window_of l B k s ≡ most_misses l B k → ⊥ = eqb-false _ _ (q.before s (omega arith) v) in omega arith;
        }
