-- The ranges by which nothing overflows: each link, its gap included, and each job add at most 5,001,000 ticks.
use Prim.Native.Nat.{ℕ, zero, suc, ◌+◌, ◌-◌, ◌*◌, ◌≤◌, ◌<◌}
use native.Mathlib.Omega.{arith}
use Rattle.std.proofs.Math.Path.{◌≡◌, refl, sym}
use Rattle.std.proofs.Common.{ap}
use Rattle.std.specs.Prelude.{List, length, None, Option, Some}
use Rattle.task.specs.declared.Place.{Place}
use Rattle.task.specs.declared.Job.{Job}
use Rattle.task.specs.Jobs.{read_of, write_of, Limited}
use Rattle.task.specs.Links.{backward_link}
use Rattle.task.proofs.LinkLaws.{forward_later, forward_soon, backward_earlier}
use Rattle.chain.specs.Chains.{at, forward_by, backward_by, on_latest}
use Rattle.chain.specs.Checks.{Sound}

module _ (l : List Place) where
  -- a way forward ends soon,
  pub forward_range : (p n j : ℕ) → ((i : ℕ) → i ≤ p + n → Limited (at l i)) → write_of (at l (p + n)) (forward_by l p n j) ≤ write_of (at l p) j + 5001000 * n
  unfolding forward_by
  forward_range p zero j w = let e : p + 0 ≡ p = omega arith in rw e (omega arith)
  forward_range p (suc n) j w =
      omega (arith, forward_soon (at l (p + n)) (at l (p + suc n)) (w (p + suc n) (omega arith)) (forward_by l p n j), (w (p + suc n) (omega arith)).duration_max, (w (p + n) (omega arith)).gap_max, forward_range p n j (λ i h. w i (omega arith)))

  -- and no earlier than it begins.
  pub forward_after : (p n j : ℕ) → ((i : ℕ) → i ≤ p + n → Limited (at l i)) → write_of (at l p) j ≤ write_of (at l (p + n)) (forward_by l p n j)
  unfolding forward_by
  forward_after p zero j w = let e : p + 0 ≡ p = omega arith in rw e (omega arith)
  forward_after p (suc n) j w =
      omega (arith, forward_later (at l (p + n)) (at l (p + suc n)) (w (p + suc n) (omega arith)).period_pos (forward_by l p n j), forward_after p n j (λ i h. w i (omega arith)))

  -- A way backward reads no later than it begins.
  pub backward_before : (p n m : ℕ) → ((i : ℕ) → i ≤ p + n → Limited (at l i)) → (j : Job) → backward_by l p n m ≡ Some j → read_of (at l p) j.0 ≤ read_of (at l (p + n)) m
  unfolding backward_by on_latest
  backward_before p zero m w j e =
      let z : p + 0 ≡ p = omega arith in
      let i : ◌≡◌ {A = Job} (record { 0 = m }) j = cc in
      rw (z, sym (ap (λ (x : Job). x.0) i)) (omega arith)
  backward_before p (suc n) m w j e =
      go (backward_link (at l (p + n)) (at l (p + suc n)) m) refl e (λ k. backward_before p n k (λ i h. w i (omega arith)) j)
    where
      go : (q : Option Job) → backward_link (at l (p + n)) (at l (p + suc n)) m ≡ q → on_latest q (backward_by l p n) ≡ Some j
          → ((k : ℕ) → backward_by l p n k ≡ Some j → read_of (at l p) j.0 ≤ read_of (at l (p + n)) k) → read_of (at l p) j.0 ≤ read_of (at l (p + suc n)) m
      go None h f ih = absurd (let x : ◌≡◌ {A = ℕ} 0 1 = cc in omega arith)
      go (Some k) h f ih =
          omega (arith, backward_earlier (at l (p + n)) (at l (p + suc n)) (w (p + n) (omega arith)).period_pos m k h, ih k.0 f)

-- ---- of a chain that passes the checks 8 and 5

module _ (l : List Place) (ok : Sound l) where
  upto : (p : ℕ) → p < length l → (i : ℕ) → i ≤ p → Limited (at l i)
  upto p h i g = ok.each i (omega arith)

  -- from place p to place q
  module _ (p q : ℕ) (low : p ≤ q) (high : q < length l) where
    between : (i : ℕ) → i ≤ p + (q - p) → Limited (at l i)
    between i g = ok.each i (omega arith)

    pub forward_fits : (j : ℕ) → write_of (at l q) (forward_by l p (q - p) j) ≤ write_of (at l p) j + 55011000
    forward_fits j =
        let e : p + (q - p) ≡ q = omega arith in
        let f = forward_range l p (q - p) j between in
        let g = rw e at f in
        omega (arith, ok.few)

    pub forward_late : (j : ℕ) → write_of (at l p) j ≤ write_of (at l q) (forward_by l p (q - p) j)
    forward_late j =
        let e : p + (q - p) ≡ q = omega arith in
        let f = forward_after l p (q - p) j between in
        rw e at f

    pub backward_fits : (m : ℕ) (j : Job) → backward_by l p (q - p) m ≡ Some j → read_of (at l p) j.0 ≤ read_of (at l q) m
    backward_fits m j h =
        let e : p + (q - p) ≡ q = omega arith in
        let f = backward_before l p (q - p) m between j h in
        rw e at f
