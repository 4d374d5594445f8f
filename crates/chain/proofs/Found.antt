-- What an answer says of the number that it was made of, a position or 0.
use Rattle.std.specs.Prelude.{ℕ, zero, suc, ◌≤◌, ◌≡◌, refl, None, Option, Some}
use Rattle.std.proofs.Common.{arith}
use Rattle.chain.specs.Checks.{found}

pub some_found : (n p : ℕ) → n ≡ p → 1 ≤ p → Some p ≡ found n
some_found n zero e h = absurd (omega arith)
some_found n (suc p) e h = rw e

pub none_found : (n : ℕ) → n ≡ 0 → ◌≡◌ {A = Option ℕ} None (found n)
none_found n e = rw e

pub found_some : (n p : ℕ) → Some p ≡ found n → (n ≡ p) × (1 ≤ p)
found_some zero p e = absurd cc
found_some (suc n) p e = let k : suc n ≡ p = cc in (k, omega (arith, k))

pub found_none : (n : ℕ) → ◌≡◌ {A = Option ℕ} None (found n) → n ≡ 0
found_none zero e = refl
found_none (suc n) e = absurd cc
