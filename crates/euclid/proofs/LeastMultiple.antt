-- Laws of the divisor and the multiple: Euclid's rule gives the greatest common divisor (`gcd_left`, `gcd_right`, `gcd_greatest`),
-- and the multiple built on it is the least common one (`lcm_left`, `lcm_right`, `lcm_least`).
use Rattle.std.specs.Prelude.{ℕ, zero, suc, ◌-◌, ◌*◌, ◌/◌, ◌%◌, ◌≤◌, ◌≡◌}
use Rattle.std.specs.Int.{◌∣◌}
use Rattle.std.proofs.Common.{arith, mod-lt, mul_comm, div-add-mod', le-div_iff_mul-le, mul-pos, mul-le-mul_left, sym, ap, subst}
use Rattle.std.proofs.Math.Nat.{dvd_refl, dvd-zero, dvd-mod_iff, dvd-mul_left, dvd-mul_left_of_dvd, dvd-sub, div-mul_cancel, dvd_of_mul-dvd-mul_right, mul-dvd-mul_right, mul-dvd-mul_left, pos_of_dvd_of_pos, le_of_dvd}
use Rattle.euclid.specs.Divisor.{euclid, gcd_of, lcm_of}

euclid_divides : (n a b : ℕ) → b ≤ n → (euclid n a b ∣ a) × (euclid n a b ∣ b)
unfolding euclid
euclid_divides zero a b l = let e : 0 ≡ b = omega arith in (dvd_refl a, subst (λ (x : ℕ). a ∣ x) e (dvd-zero a))
euclid_divides (suc n) a zero l = (dvd_refl a, dvd-zero a)
euclid_divides (suc n) a (suc b) l =
    let ih = euclid_divides n (suc b) (a % suc b) (omega (arith, mod-lt a {m = suc b} (omega arith))) in
    ((dvd-mod_iff (euclid n (suc b) (a % suc b)) ih.0).0 ih.1, ih.0)

pub gcd_left : (a b : ℕ) → gcd_of a b ∣ a
unfolding gcd_of
gcd_left a b = (euclid_divides b a b (omega arith)).0

pub gcd_right : (a b : ℕ) → gcd_of a b ∣ b
unfolding gcd_of
gcd_right a b = (euclid_divides b a b (omega arith)).1

-- what divides m times both divides m times their divisor
euclid_multiples : (d m n a b : ℕ) → d ∣ m * a → d ∣ m * b → d ∣ m * euclid n a b
unfolding euclid
euclid_multiples d m zero a b p q = p
euclid_multiples d m (suc n) a zero p q = p
euclid_multiples d m (suc n) a (suc b) p q =
    euclid_multiples d m n (suc b) (a % suc b) q (subst (λ (x : ℕ). d ∣ x) e (dvd-sub d p (dvd-mul_left_of_dvd d q (a / suc b))))
  where
    e : m * a - a / suc b * (m * suc b) ≡ m * (a % suc b)
    e = omega (arith, ap (λ (x : ℕ). m * x) (div-add-mod' a (suc b)))

-- every common divisor divides it
pub gcd_greatest : (d a b : ℕ) → d ∣ a → d ∣ b → d ∣ gcd_of a b
unfolding gcd_of
gcd_greatest d a b p q =
    let one : (x : ℕ) → x ≡ 1 * x = λ x. omega arith in
    subst (λ (x : ℕ). d ∣ x) (sym (one (euclid b a b)))
    (euclid_multiples d 1 b a b (subst (λ (x : ℕ). d ∣ x) (one a) p) (subst (λ (x : ℕ). d ∣ x) (one b) q))

pub gcd_pos : (a b : ℕ) → 1 ≤ a → 1 ≤ gcd_of a b
gcd_pos a b h = pos_of_dvd_of_pos (gcd_left a b) h

pub lcm_left : (a b : ℕ) → a ∣ lcm_of a b
unfolding lcm_of
lcm_left a b =
    let g : ℕ = gcd_of a b in
    let e : b / g * a ≡ a / g * b = omega (arith, ap (λ (x : ℕ). b / g * x) (div-mul_cancel g (gcd_left a b)), ap (λ (x : ℕ). a / g * x) (div-mul_cancel g (gcd_right a b))) in
    subst (λ (x : ℕ). a ∣ x) e (dvd-mul_left a (b / g))

pub lcm_right : (a b : ℕ) → b ∣ lcm_of a b
unfolding lcm_of
lcm_right a b = dvd-mul_left b (a / gcd_of a b)

-- every common multiple is a multiple of it
pub lcm_least : (a b m : ℕ) → 1 ≤ a → a ∣ m → b ∣ m → lcm_of a b ∣ m
unfolding lcm_of gcd_of
lcm_least a b m h p q =
    let g : ℕ = gcd_of a b in
    let e : a * b ≡ a / g * b * g = omega (arith, ap (λ (x : ℕ). x * b) (div-mul_cancel g (gcd_left a b))) in
    let d : a * b ∣ m * g = euclid_multiples (a * b) m b a b (subst (λ (x : ℕ). a * b ∣ x) (mul_comm a m) (mul-dvd-mul_left b a q)) (mul-dvd-mul_right a p b) in
    dvd_of_mul-dvd-mul_right (a / g * b) (gcd_pos a b h) (subst (λ (x : ℕ). x ∣ m * g) e d)

pub lcm_pos : (a b : ℕ) → 1 ≤ a → 1 ≤ b → 1 ≤ lcm_of a b
unfolding lcm_of
lcm_pos a b h k = mul-pos ((le-div_iff_mul-le (gcd_pos a b h)).1 (omega (arith, le_of_dvd h (gcd_left a b)))) k

-- it is no smaller than the first number
pub lcm_ge : (a b : ℕ) → 1 ≤ b → a ≤ lcm_of a b
unfolding lcm_of
lcm_ge a b h =
    let g : gcd_of a b ≤ b = le_of_dvd h (gcd_right a b) in
    omega (arith, div-mul_cancel (gcd_of a b) (gcd_left a b), mul-le-mul_left (a / gcd_of a b) g)
