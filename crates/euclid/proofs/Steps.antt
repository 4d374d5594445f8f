-- Euclid's equations, as the recursive function has them.
use Prim.Native.Nat.{ℕ, zero, suc, ◌%◌, ◌≤◌, ◌<◌}
use native.Mathlib.Omega.{arith}
use native.Mathlib.Nat.{mod-lt}
use mathlib.Core.Path.{◌≡◌, refl}
use Rattle.euclid.specs.Divisor.{euclid, gcd_of}

-- further divisions change nothing
euclid_enough : (k l a b : ℕ) → b ≤ k → b ≤ l → euclid k a b ≡ euclid l a b
unfolding euclid
euclid_enough zero zero a b h g = refl
euclid_enough zero (suc l) a zero h g = refl
euclid_enough zero (suc l) a (suc b) h g = omega arith
euclid_enough (suc k) zero a zero h g = refl
euclid_enough (suc k) zero a (suc b) h g = omega arith
euclid_enough (suc k) (suc l) a zero h g = refl
euclid_enough (suc k) (suc l) a (suc b) h g =
    let m : a % suc b < suc b = mod-lt a {m = suc b} (omega arith) in
    euclid_enough k l (suc b) (a % suc b) (omega arith) (omega arith)

pub gcd_zero : (a : ℕ) → gcd_of a 0 ≡ a
unfolding gcd_of euclid
gcd_zero a = refl

pub gcd_step : (a b : ℕ) → (b ≡ 0 → ⊥) → gcd_of a b ≡ gcd_of b (a % b)
unfolding gcd_of euclid
gcd_step a zero h = absurd (h refl)
gcd_step a (suc b) h =
    let m : a % suc b < suc b = mod-lt a {m = suc b} (omega arith) in
    euclid_enough b (a % suc b) (suc b) (a % suc b) (omega arith) (omega arith)
