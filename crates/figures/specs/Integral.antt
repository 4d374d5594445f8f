-- The integral of a figure of time that falls by one within each tick, and what it comes to. No table is mentioned.
-- Time between whole ticks is told by finer clocks: u / n ticks are u ticks of a clock that is n times finer.
use Rattle.std.specs.Prelude.{◌≡◌, refl}
use Rattle.std.proofs.Common.{sym, ap, ◌∙◌, mul_assoc, mul-le-mul_left, mod-lt, div-add-mod'}
use Prim.Native.Nat.{ℕ, zero, suc, ◌+◌, ◌-◌, ◌*◌, ◌/◌, ◌%◌, ◌≤◌, ◌<◌}
use Rattle.std.proofs.Math.Nat.{mul-zero, mul-add}
use Rattle.std.proofs.Math.Decide.{dec_le}
use native.Mathlib.Omega.{arith}
use Rattle.figures.specs.Ticks.{total}
use Rattle.figures.specs.Folding.{total_add, total_same}

-- A figure of time: f n u is n times the figure at u / n ticks, its value in ticks of the clock that is n times finer.
abbrev pub Timed : Type 0
Timed = ℕ → ℕ → ℕ

-- Within each tick from s on the figure falls by one: it is g t at the beginning of tick t, and i n-ths of a tick later it is i n-ths less.
abbrev pub Falls : Timed → (ℕ → ℕ) → ℕ → Type 0
Falls f g s = (n t i : ℕ) → s ≤ t → i < n → f n (n * t + i) + i ≡ n * g t

-- `doubled` is twice the integral of f over the H ticks from s on. Since f falls, its value at the beginning of an n-th of a tick is the greatest
-- there, and one less is what it nears at the end. However fine the clock: the sum of the greatest values is not below the integral, and the sum of
-- the others is not above. A value counts n-ths of a tick and stands for an n-th of a tick, hence n × n.
-- The two sums come as near to each other as one likes, so no two numbers are the integral: `only_one`.
pub record Integral (f : Timed) (g : ℕ → ℕ) (s H doubled : ℕ) : Type 0 where
  pub falls : Falls f g s
  pub over : (n : ℕ) → 1 ≤ n → n * n * doubled ≤ 2 * total (f n) (n * s) (n * H)
  pub under : (n : ℕ) → 1 ≤ n → 2 * total (λ u. f n u - 1) (n * s) (n * H) ≤ n * n * doubled

-- Twice the area of a tick whose figure is v: v at its beginning, and v - 1, which it nears at its end.
abbrev pub tick_area : ℕ → ℕ
tick_area v = v + (v - 1)

-- ---- sums of a figure h that is at least 1 at each of n ticks

less_one : (h : ℕ → ℕ) (n s : ℕ) → ((t : ℕ) → s ≤ t → t < s + n → 1 ≤ h t) → total (λ t. h t - 1) s n + n ≡ total h s n
unfolding total
less_one h zero s p = omega arith
less_one h (suc n) s p = omega (arith, p s (omega arith) (omega arith), less_one h n (suc s) (λ t a b. p t (omega arith) (omega arith)))

pub tick_areas : (h : ℕ → ℕ) (n s : ℕ) → ((t : ℕ) → s ≤ t → t < s + n → 1 ≤ h t) → total (λ t. tick_area (h t)) s n + n ≡ 2 * total h s n
unfolding total
tick_areas h zero s p = omega arith
tick_areas h (suc n) s p = omega (arith, p s (omega arith) (omega arith), tick_areas h n (suc s) (λ t a b. p t (omega arith) (omega arith)))

-- n values that fall by one from n + c
pub falling : (v n k c : ℕ) → v ≡ k + n + c → 2 * total (λ i. v - i) k n ≡ n * (n + c + (c + 1))
unfolding total
falling v zero k c e = omega arith
falling v (suc n) k c e = omega (arith, falling v n (suc k) c (omega arith))

-- ---- one integral

less_at_most : (h : ℕ → ℕ) (n s : ℕ) → total h s n ≤ total (λ t. h t - 1) s n + n
unfolding total
less_at_most h zero s = omega arith
less_at_most h (suc n) s = omega (arith, less_at_most h n (suc s))

module _ (f : Timed) (g : ℕ → ℕ) (s H : ℕ) where
  at_most : (a b : ℕ) → Integral f g s H a → Integral f g s H b → a ≤ b
  at_most a b p q = elim (dec_le a b) [
    | yes h ↦ h
    | no h ↦
        let n : ℕ = 2 * H + 1 in
        omega (arith, p.over n (omega arith), q.under n (omega arith), less_at_most (f n) (n * H) (n * s), mul-le-mul_left {m = b + 1} {n = a} (n * n) (omega arith))
  ]

  pub only_one : (a b : ℕ) → Integral f g s H a → Integral f g s H b → a ≡ b
  only_one a b p q = omega (arith, at_most a b p q, at_most b a q p)

-- ---- the integral of a figure that falls within each tick

-- one tick with v at its beginning, n-th by n-th
tick_sum : (n v : ℕ) → 1 ≤ v → 2 * total (λ i. n * v - i) 0 n ≡ n * n * tick_area v + n
tick_sum n zero h = absurd (omega arith)
tick_sum n (suc w) h = go (n * n) (n * w) refl (sym (mul_assoc n n w)) (omega arith) ∙ ap (λ (x : ℕ). n * n * x + n) {x = 2 * w + 1} {y = tick_area (suc w)} (omega arith)
  where
    go : (square c : ℕ) → square ≡ n * n → n * c ≡ square * w → n * suc w ≡ n + c → 2 * total (λ i. n * suc w - i) 0 n ≡ square * (2 * w + 1) + n
    go square c p q e = omega (arith, falling (n * suc w) n 0 c (omega arith))

module _ (f : Timed) (g : ℕ → ℕ) where
  -- at the beginning of a tick it is at least 1
  falls_some : (s : ℕ) → Falls f g s → (t : ℕ) → s ≤ t → 1 ≤ g t
  falls_some s falls t h = omega (arith, falls 2 t 1 h (omega arith))

  -- the sum on a finer clock
  finer_sum : (n H s : ℕ) → Falls f g s → 2 * total (f n) (n * s) (n * H) ≡ n * n * total (λ t. tick_area (g t)) s H + n * H
  unfolding total
  finer_sum n zero s falls = rw (mul-zero n, mul-zero (n * n)) (omega arith)
  finer_sum n (suc H) s falls =
      let e : n * suc H ≡ n + n * H = omega arith in
      let k : n * s + n ≡ n * suc s = omega arith in
      let here : total (f n) (n * s) n ≡ total (λ i. n * g s - i) 0 n
      = total_same (f n) (λ i. n * g s - i) n (n * s) 0 (λ i h. omega (arith, falls n s i (omega arith) h)) in
      let rest = rw k at (total_add (f n) n (n * H) (n * s)) in
      rw e (omega (arith, here, rest, mul-add (n * n) (tick_area (g s)) (total (λ t. tick_area (g t)) (suc s) H), tick_sum n (g s) (falls_some s falls s (omega arith)), finer_sum n H (suc s) (λ m t i l h. falls m t i (omega arith) h)))

  -- and each value there is at least 1
  finer_some : (n s : ℕ) → 1 ≤ n → Falls f g s → (u : ℕ) → n * s ≤ u → 1 ≤ f n u
  finer_some n s pos falls u h =
      let t : ℕ = u / n in
      let i : ℕ = u % n in
      let l : i < n = mod-lt u pos in
      let e : n * t + i ≡ u = omega (arith, div-add-mod' u n) in
      let k : s ≤ t = elim (dec_le s t) [ yes a ↦ a | no a ↦ omega (arith, mul-le-mul_left {m = suc t} {n = s} n (omega arith)) ] in
      let v : f n u + i ≡ n * g t = rw e at (falls n t i k l) in
      omega (arith, v, l, mul-le-mul_left n (falls_some s falls t k))

  -- Twice the integral is the sum of the areas tick by tick.
  pub falls_integral : (s H : ℕ) → Falls f g s → Integral f g s H (total (λ t. tick_area (g t)) s H)
  falls_integral s H falls = record {
    falls = falls;
    over = λ n h. omega (arith, finer_sum n H s falls);
    under = λ n h. omega (arith, finer_sum n H s falls, less_one (f n) (n * H) (n * s) (λ u a b. finer_some n s h falls u a));
  }
