-- Whole periods without a division: a factor and a shift that were made once for a period (Granlund and Montgomery, "Division by Invariant Integers using Multiplication", 1994).
use Rattle.std.specs.Prelude.{ℕ, suc, ◌+◌, ◌*◌, ◌/◌, ◌^◌, ◌≤◌, ◌<◌, ◌≡◌}
use Rattle.std.proofs.Common.{arith, mul_assoc, mul-add, mul_right_comm, suc-mul, mul-le-mul_left, mul-le-mul_right, lt_of_mul-lt-mul_right, div-mul-le_self, div-lt_iff_lt-mul, lt-suc_self, add-one, sym, ◌∙◌, subst}
use Rattle.std.proofs.Math.Nat.{div-eq_of_lt-le}
use Rattle.stepping.specs.Reciprocal.{Reciprocal}

module _ (t f P z : ℕ) (pos : 1 ≤ t) (low : P ≤ f * t) (high : f * t ≤ P + t) (small : z * t < P) where
  -- z / t * P ≤ z / t * (f * t) ≤ z * f
  not_above : z / t * P ≤ z * f
  not_above =
      let a : z / t * P ≤ z / t * (f * t) = mul-le-mul_left (z / t) low in
      let b : z / t * (f * t) ≡ z / t * t * f = sym (mul_assoc (z / t) f t) ∙ mul_right_comm (z / t) f t in
      omega (arith, a, b, mul-le-mul_right f (div-mul-le_self z t))

  -- z * f * t ≤ z * P + z * t < z * P + P ≤ suc (z / t) * P * t
  not_below : z * f < suc (z / t) * P
  not_below =
      lt_of_mul-lt-mul_right t
      (let a : z * f * t ≤ z * P + z * t = omega (arith, mul_assoc z f t, mul-le-mul_left z high, mul-add z P t) in
      let b : suc z * P ≤ suc (z / t) * t * P = mul-le-mul_right P ((div-lt_iff_lt-mul pos).0 (lt-suc_self (z / t))) in
      let c : suc (z / t) * P * t ≡ suc (z / t) * t * P = mul_right_comm (suc (z / t)) P t in
      omega (arith, a, b, c, suc-mul z P))

  quotient : (z * f) / P ≡ z / t
  quotient = div-eq_of_lt-le P not_above (subst (λ (x : ℕ). z * f < x * P) (sym (add-one (z / t))) not_below)

-- The product with the factor, shifted, is the number of whole periods.
pub whole_periods : (t f s z : ℕ) → Reciprocal t f s → z < 16777216 → (z * f) / 2 ^ s ≡ z / t
whole_periods t f s z r h =
    let a : suc z * t ≤ 16777216 * t = mul-le-mul_right t h in
    quotient t f (2 ^ s) z r.some r.low r.high (omega (arith, a, suc-mul z t, r.near, r.some))
