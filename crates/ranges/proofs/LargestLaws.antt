-- The largest of a figure over successive numbers: no number of the range has more, one has as much; in parts, and where the figure stands still.
use Prim.Native.Nat.{ℕ, zero, suc, ◌+◌, ◌-◌, ◌≤◌, ◌<◌, max}
use native.Mathlib.Omega.{arith}
use Rattle.std.proofs.Common.{zero-add, suc-add, ap, ◌∙◌}
use Rattle.std.proofs.Math.Nat.{le-max_left, le-max_right}
use Rattle.std.proofs.Math.Decide.{dec_lt, dec_le}
use Rattle.std.specs.Prelude.{◌≡◌}
use Rattle.std.proofs.Math.Path.{refl}
use Rattle.ranges.specs.Largest.{largest}

-- f has its largest among the n numbers from s on
pub record Reached (f : ℕ → ℕ) (s n : ℕ) : Type 0 where
  pub number : ℕ
  pub low : s ≤ number
  pub high : number < s + n
  pub is : f number ≡ largest f s n

module _ (f : ℕ → ℕ) where
  -- Of no numbers it is 0.
  pub largest_none : (s : ℕ) → largest f s 0 ≡ 0
  unfolding largest
  largest_none s = refl

  -- No number of the range has more,
  pub largest_top : (n s x : ℕ) → s ≤ x → x < s + n → f x ≤ largest f s n
  unfolding largest
  largest_top zero s x a b = absurd (omega arith)
  largest_top (suc n) s x a b = elim (dec_lt s x) [
    | yes h ↦ omega (arith, largest_top n (suc s) x h (omega arith), le-max_right (f s) (largest f (suc s) n))
    | no h ↦ let e : x ≡ s = omega arith in rw e (le-max_left (f s) (largest f (suc s) n))
  ]

  -- and one has as much.
  pub reached : (n s : ℕ) → 1 ≤ n → Reached f s n
  unfolding largest
  reached zero s h = absurd (omega arith)
  reached (suc zero) s h = record { number = s; low = omega arith; high = omega arith; is = omega arith }
  reached (suc (suc n)) s h = go (reached (suc n) (suc s) (omega arith))
    where
      go : Reached f (suc s) (suc n) → Reached f s (suc (suc n))
      go r = elim (dec_le (largest f (suc s) (suc n)) (f s)) [
        | yes g ↦ record { number = s; low = omega arith; high = omega arith; is = omega arith }
        | no g ↦ record { number = r.number; low = omega (arith, r.low); high = omega (arith, r.high); is = r.is ∙ omega arith }
      ]

  -- In two parts,
  pub largest_parts : (n m s : ℕ) → largest f s (n + m) ≡ max (largest f s n) (largest f (s + n) m)
  unfolding largest
  largest_parts zero m s = let e : s + 0 ≡ s = omega arith in rw (e, zero-add) (omega arith)
  largest_parts (suc n) m s =
      let e : s + suc n ≡ suc s + n = omega arith in
      rw (suc-add, e) (omega (arith, largest_parts n m (suc s)))

  -- of one number,
  pub largest_one : (s : ℕ) → largest f s 1 ≡ f s
  unfolding largest
  largest_one s = omega arith

  -- with one number more,
  pub largest_next : (n s : ℕ) → largest f s (n + 1) ≡ max (largest f s n) (f (s + n))
  largest_next n s = largest_parts n 1 s ∙ ap (max (largest f s n)) (largest_one (s + n))

  -- of some of the numbers, which have no more than all,
  pub largest_some : (k n s : ℕ) → k ≤ n → largest f s k ≤ largest f s n
  largest_some k n s h =
      let e : n ≡ k + (n - k) = omega arith in
      rw e (rw (largest_parts k (n - k) s) (le-max_left (largest f s k) (largest f (s + k) (n - k))))

  -- of the numbers from s up to before t, with t as one more,
  pub largest_more : (s t : ℕ) → s ≤ t → largest f s (t + 1 - s) ≡ max (largest f s (t - s)) (f t)
  unfolding largest
  largest_more s t h =
      let e : t + 1 - s ≡ t - s + 1 = omega arith in
      let g : s + (t - s) ≡ t = omega arith in
      rw e (largest_parts (t - s) 1 s ∙ rw g (omega arith))

  -- and where the figure stands still.
  pub largest_still : (v n s : ℕ) → 1 ≤ n → ((t : ℕ) → s ≤ t → t < s + n → f t ≡ v) → largest f s n ≡ v
  unfolding largest
  largest_still v zero s h e = absurd (omega arith)
  largest_still v (suc zero) s h e = omega (arith, e s (omega arith) (omega arith))
  largest_still v (suc (suc n)) s h e =
      omega (arith, e s (omega arith) (omega arith), largest_still v (suc n) (suc s) (omega arith) (λ t a b. e t (omega arith) (omega arith)))

  -- A stretch from t to below u on which f is v, and what is left up to `end` after it; u may lie past `end`.
  pub largest_step : (v t u end : ℕ) → t < end → t < u → ((x : ℕ) → t ≤ x → x < u → f x ≡ v)
      → largest f t (end - t) ≡ max v (largest f u (end - u))
  largest_step v t u end a b still = elim (dec_le u end) [
    | yes h ↦
        let e : end - t ≡ u - t + (end - u) = omega arith in
        let g : t + (u - t) ≡ u = omega arith in
        let p = largest_parts (u - t) (end - u) t in
        let q = largest_still v (u - t) t (omega arith) (λ x c d. still x c (omega arith)) in
        rw e (p ∙ rw (g, q))
    | no h ↦
        let z : end - u ≡ 0 = omega arith in
        let q = largest_still v (end - t) t (omega arith) (λ x c d. still x c (omega arith)) in
        rw (z, q, largest_none u) (omega arith)
  ]
