-- How the number of misses changes when a job enters a window or leaves it.
use Prim.Native.Nat.{ℕ, zero, suc, ◌+◌, ◌-◌, ◌≤◌, ◌<◌}
use native.Mathlib.Omega.{arith}
use Rattle.std.specs.Prelude.{◌≡◌, Bool, true, false}
use Rattle.windows.specs.Windows.{one, misses_in}

pub one_small : (t : Bool) → one t ≤ 1
one_small true = omega arith
one_small false = omega arith

module _ (miss : ℕ → Bool) where
  pub none_yet : (s : ℕ) → 0 ≡ misses_in miss s (s - s)
  unfolding misses_in
  none_yet s = let z : s - s ≡ 0 = omega arith in rw z

  -- one more job at the end
  pub one_more : (k s : ℕ) → misses_in miss s (suc k) ≡ misses_in miss s k + one (miss (s + k))
  unfolding misses_in
  one_more zero s = let e : s + 0 ≡ s = omega arith in rw e (omega arith)
  one_more (suc k) s =
      let e : suc s + k ≡ s + suc k = omega arith in
      let f = one_more k (suc s) in
      let g = rw e at f in
      omega arith

  -- Of the jobs from s up to before j: one more, job j, enters,
  pub enters : (s j : ℕ) → s ≤ j → misses_in miss s (j + 1 - s) ≡ misses_in miss s (j - s) + one (miss j)
  enters s j h =
      let e : j + 1 - s ≡ suc (j - s) = omega arith in
      let g : s + (j - s) ≡ j = omega arith in
      rw e (rw g at (one_more (j - s) s))

  -- and the first, job s, leaves.
  pub leaves : (s j : ℕ) → s < j → misses_in miss s (j - s) ≡ one (miss s) + misses_in miss (s + 1) (j - (s + 1))
  unfolding misses_in
  leaves s j h =
      let e : j - s ≡ suc (j - (s + 1)) = omega arith in
      let g : s + 1 ≡ suc s = omega arith in
      rw e (rw g)

  -- more jobs, no fewer misses
  pub grows : (s n m : ℕ) → n ≤ m → misses_in miss s n ≤ misses_in miss s m
  unfolding misses_in
  grows s zero m h = omega arith
  grows s (suc n) zero h = absurd (omega arith)
  grows s (suc n) (suc m) h = omega (arith, grows (suc s) n m (omega arith))

  pub at_most : (k s : ℕ) → misses_in miss s k ≤ k
  unfolding misses_in
  at_most zero s = omega arith
  at_most (suc k) s = omega (arith, one_small (miss s), at_most k (suc s))
