-- Laws of a fold over successive ticks: it splits, it depends only on the figures, and the sum is one; so the same of sums.
use Rattle.std.specs.Prelude.{◌≡◌}
use Rattle.std.proofs.Math.Path.{refl, ap}
use Rattle.std.proofs.Common.{◌∙◌, zero-add, arith}
use Prim.Native.Nat.{ℕ, zero, suc, ◌+◌, ◌≤◌, ◌<◌}
use Rattle.std.proofs.Math.Nat.{add-zero, add-suc, suc-add}
use Rattle.figures.specs.Ticks.{ticks, total}

module _ {S : Type 0} (step : S → ℕ → S) where
  -- first n ticks, then m
  pub ticks_add : (f : ℕ → ℕ) (n m s : ℕ) (z : S) → ticks step f s (n + m) z ≡ ticks step f (s + n) m (ticks step f s n z)
  unfolding ticks
  ticks_add f zero m s z = rw (zero-add, add-zero)
  ticks_add f (suc n) m s z = rw (suc-add n m, add-suc s n, ← (suc-add s n)) (ticks_add f n m (suc s) (step z (f s)))

  -- equal figures, from s on and from t on
  pub ticks_same : (f g : ℕ → ℕ) (n s t : ℕ) (z : S) → ((i : ℕ) → i < n → f (s + i) ≡ g (t + i)) → ticks step f s n z ≡ ticks step g t n z
  unfolding ticks
  ticks_same f g zero s t z h = refl
  ticks_same f g (suc n) s t z h =
      let e : f s ≡ g t = rw (add-zero s, add-zero t) at (h 0 (omega arith)) in
      ap (λ (v : ℕ). ticks step f (suc s) n (step z v)) e
      ∙ ticks_same f g n (suc s) (suc t) (step z (g t)) (λ i l. rw (suc-add s i, suc-add t i, ← (add-suc s i), ← (add-suc t i)) (h (suc i) (omega arith)))

-- a tick whose figure is v adds w v
abbrev pub adding : (ℕ → ℕ) → ℕ → ℕ → ℕ
adding w z v = z + w v

-- the sum is the fold that adds
pub total_ticks : (w f : ℕ → ℕ) (n s z : ℕ) → ticks (adding w) f s n z ≡ z + total (λ t. w (f t)) s n
unfolding ticks total
total_ticks w f zero s z = omega arith
total_ticks w f (suc n) s z = total_ticks w f n (suc s) (z + w (f s)) ∙ omega arith

abbrev plain : ℕ → ℕ → ℕ
plain = adding (λ v. v)

pub total_add : (f : ℕ → ℕ) (n m s : ℕ) → total f s (n + m) ≡ total f s n + total f (s + n) m
total_add f n m s =
    omega (arith, total_ticks (λ v. v) f (n + m) s 0, ticks_add plain f n m s 0, total_ticks (λ v. v) f m (s + n) (ticks plain f s n 0), total_ticks (λ v. v) f n s 0)

pub total_same : (f g : ℕ → ℕ) (n s t : ℕ) → ((i : ℕ) → i < n → f (s + i) ≡ g (t + i)) → total f s n ≡ total g t n
total_same f g n s t h = omega (arith, total_ticks (λ v. v) f n s 0, total_ticks (λ v. v) g n t 0, ticks_same plain f g n s t 0 h)

-- H ticks of a figure that repeats every H ticks have one sum, wherever they begin
pub total_round : (f : ℕ → ℕ) (H s k : ℕ) → ((t : ℕ) → s ≤ t → f (t + H) ≡ f t) → total f (s + k) H ≡ total f s H
total_round f H s k again =
    let e : total f s (k + H) ≡ total f s (H + k) = ap (total f s) (omega arith) in
    let later : total f (s + H) k ≡ total f s k = total_same f f k (s + H) s (λ i h. ap f {x = s + H + i} {y = s + i + H} (omega arith) ∙ again (s + i) (omega arith)) in
    omega (arith, e, later, total_add f k H s, total_add f H k s)
