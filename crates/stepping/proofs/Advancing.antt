-- One place's move, as the code makes it.
use Prim.Native.Nat.{ℕ, ◌+◌, ◌-◌, ◌*◌, ◌/◌, ◌%◌, ◌^◌, ◌≤◌}
use native.Mathlib.Omega.{arith}
use native.Mathlib.Nat.{mul-le-mul_right, div-mul-le_self, div-le_self, div-add-mod'}
use mathlib.Core.Path.{◌≡◌, ap, ◌∙◌}
use mathlib.Core.List.{List}
use lib.ListN.{set}
use Rattle.stepping.proofs.Reciprocal.{whole_periods}
use Rattle.stepping.specs.OnePlace.{period_at, factor_at, shift_at, job_at, rest_at, Advanced, Roomy}

module _ (r s : List ℕ) (i ticks : ℕ) (k : Roomy r s i ticks) where
  abbrev z : ℕ
  z = rest_at s i + ticks

  abbrev jobs : ℕ
  jobs = z * factor_at r i / 2 ^ shift_at r i

  pub whole : jobs ≡ z / period_at r i
  whole = whole_periods (period_at r i) (factor_at r i) (shift_at r i) z k.reciprocal k.ticks_small

  pub product_small : z * factor_at r i ≤ 1000000000000000000
  product_small =
      let h : z ≤ 16777216 = omega (arith, k.ticks_small) in
      omega (arith, mul-le-mul_right (factor_at r i) h, k.reciprocal.fits)

  pub moved_small : jobs * period_at r i ≤ z
  moved_small = rw whole (div-mul-le_self z (period_at r i))

  pub jobs_small : jobs ≤ z
  jobs_small = rw whole (div-le_self z (period_at r i))

  left : z - jobs * period_at r i ≡ z % period_at r i
  left = rw whole (omega (arith, div-add-mod' z (period_at r i)))

  pub advanced : Advanced r i ticks s (set (set s (2 * i) (job_at s i + jobs)) (2 * i + 1) (z - jobs * period_at r i)) (jobs * period_at r i)
  advanced = record {
    stored = ap (λ (x : ℕ). set (set s (2 * i) (job_at s i + jobs)) (2 * i + 1) x) left ∙ ap (λ (x : ℕ). set (set s (2 * i) (job_at s i + x)) (2 * i + 1) (z % period_at r i)) whole;
    is = ap (λ (x : ℕ). x * period_at r i) whole;
  }
