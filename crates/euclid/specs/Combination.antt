-- Bezout's law: the greatest common divisor of two numbers is a multiple of the one less a multiple of the other, either way round (`divisor_left`, `divisor_right`).
use Rattle.std.specs.Prelude.{ℕ, zero, suc, ◌+◌, ◌*◌, ◌/◌, ◌%◌, ◌≤◌, ◌≡◌, refl}
use Rattle.std.proofs.Common.{arith, mod-lt, div-add-mod', add-mul, mul_assoc, ap}
use Rattle.euclid.specs.Divisor.{euclid, gcd_of}

-- g is u times a less v times b
pub record Less (a b g : ℕ) : Type 0 where
  pub u : ℕ
  pub v : ℕ
  pub is : u * a ≡ v * b + g

-- one division on: what holds of b and the rest holds of a and b, the other way round
module _ (a b q r g : ℕ) (e : q * b + r ≡ a) where
  more_left : Less r b g → Less a b g
  more_left k = record {
    u = k.u;
    v = k.v + k.u * q;
    is = omega (arith, k.is, ap (λ (x : ℕ). k.u * x) e, add-mul k.v (k.u * q) b, mul_assoc k.u q b);
  }

  more_right : Less b r g → Less b a g
  more_right k = record {
    u = k.u + k.v * q;
    v = k.v;
    is = omega (arith, k.is, ap (λ (x : ℕ). k.v * x) e, add-mul k.u (k.v * q) b, mul_assoc k.v q b);
  }

both : (n a b : ℕ) → b ≤ n → 1 ≤ a → 1 ≤ b → (Less a b (euclid n a b)) × (Less b a (euclid n a b))
unfolding euclid
both zero a b low pos some = absurd (omega arith)
both (suc n) a zero low pos some = absurd (omega arith)
both (suc n) a (suc b) low pos some =
    go (a / suc b) (a % suc b) (omega (arith, div-add-mod' a (suc b))) (omega (arith, mod-lt a {m = suc b} (omega arith))) (λ r f. both n (suc b) (suc r) f (omega arith) (omega arith))
  where
    -- nothing is left: the divisor is b
    last : (n : ℕ) → euclid n (suc b) 0 ≡ suc b
    last zero = refl
    last (suc n) = refl

    go : (q r : ℕ) → q * suc b + r ≡ a → r ≤ n → ((r : ℕ) → suc r ≤ n → (Less (suc b) (suc r) (euclid n (suc b) (suc r))) × (Less (suc r) (suc b) (euclid n (suc b) (suc r))))
        → (Less a (suc b) (euclid n (suc b) r)) × (Less (suc b) a (euclid n (suc b) r))
    go zero zero e f on = absurd (omega arith)
    go (suc q) zero e f on =
        rw (last n)
        (record { u = 1; v = q; is = omega arith }, record { u = 1; v = 0; is = omega arith })
    go q (suc r) e f on =
        let ih = on r f in
        (more_left a (suc b) q (suc r) (euclid n (suc b) (suc r)) e ih.1, more_right a (suc b) q (suc r) (euclid n (suc b) (suc r)) e ih.0)

module _ (a b : ℕ) (pos : 1 ≤ a) (some : 1 ≤ b) where
  pub divisor_left : Less a b (gcd_of a b)
  unfolding gcd_of
  divisor_left = (both b a b (omega arith) pos some).0

  pub divisor_right : Less b a (gcd_of a b)
  unfolding gcd_of
  divisor_right = (both b a b (omega arith) pos some).1
