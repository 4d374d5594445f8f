-- Forward and backward along a chain are the two halves of one rule (`galois`), whatever the number of places; both can be cut at a place
-- (`forward_cut`, `backward_cut`). Each law is one induction over the links, from the law of a link.
use Rattle.std.specs.Prelude.{ℕ, zero, suc, ◌+◌, ◌≤◌, ◌≡◌, refl, ◌↔◌, List, None, Option, Some}
use Rattle.std.proofs.Common.{arith}
use Rattle.task.specs.declared.Job.{Job}
use Rattle.task.specs.declared.Place.{Place}
use Rattle.task.specs.Links.{forward_link, backward_link}
use Rattle.task.proofs.LinkLaws.{AtLeast, link}
use Rattle.chain.specs.Chains.{at, forward_by, on_latest, backward_by}

-- Every period up to place p is at least 1.
abbrev pub Periods : List Place → ℕ → Type 0
Periods l p = (i : ℕ) → i ≤ p → 1 ≤ (at l i).period

-- The chain law: forward from j comes to m or earlier exactly when backward from m there is a job, j or later.
pub galois : (l : List Place) (p n : ℕ) → Periods l (p + n) → (j m : ℕ) → (forward_by l p n j ≤ m) ↔ AtLeast (backward_by l p n m) j
unfolding forward_by backward_by on_latest
galois l p zero pos j m = (λ h. h, λ h. h)
galois l p (suc n) pos j m =
    go (backward_link (at l (p + n)) (at l (p + suc n)) m)
    (link (at l (p + n)) (at l (p + suc n)) (pos (p + n) (omega arith)) (pos (p + suc n) (omega arith)) (forward_by l p n j) m)
    (galois l p n (λ i h. pos i (omega arith)) j)
  where
    go : (q : Option Job) → (forward_link (at l (p + n)) (at l (p + suc n)) (forward_by l p n j) ≤ m) ↔ AtLeast q (forward_by l p n j)
        → ((k : ℕ) → (forward_by l p n j ≤ k) ↔ AtLeast (backward_by l p n k) j)
        → (forward_link (at l (p + n)) (at l (p + suc n)) (forward_by l p n j) ≤ m) ↔ AtLeast (on_latest q (backward_by l p n)) j
    go None a ih = a
    go (Some k) a ih = (λ h. (ih k.0).0 (a.0 h), λ h. a.1 ((ih k.0).1 h))

-- The cut law: a way forward in two parts,
pub forward_cut : (l : List Place) (p a n j : ℕ) → forward_by l p (a + n) j ≡ forward_by l (p + a) n (forward_by l p a j)
unfolding forward_by
forward_cut l p a zero j = let e : a + 0 ≡ a = omega arith in rw e
forward_cut l p a (suc n) j =
    let e : a + suc n ≡ suc (a + n) = omega arith in
    let f : p + suc (a + n) ≡ p + a + suc n = omega arith in
    let g : p + (a + n) ≡ p + a + n = omega arith in
    rw (e, f, g, forward_cut l p a n j)

-- and a way backward in two parts.
pub backward_cut : (l : List Place) (p a n m : ℕ) → backward_by l p (a + n) m ≡ on_latest (backward_by l (p + a) n m) (backward_by l p a)
unfolding backward_by on_latest
backward_cut l p a zero m = let e : a + 0 ≡ a = omega arith in rw e
backward_cut l p a (suc n) m =
    let e : a + suc n ≡ suc (a + n) = omega arith in
    let f : p + suc (a + n) ≡ p + a + suc n = omega arith in
    let g : p + (a + n) ≡ p + a + n = omega arith in
    rw (e, f, g) (go (backward_link (at l (p + a + n)) (at l (p + a + suc n)) m) (backward_cut l p a n))
  where
    go : (q : Option Job) → ((k : ℕ) → backward_by l p (a + n) k ≡ on_latest (backward_by l (p + a) n k) (backward_by l p a))
        → on_latest q (backward_by l p (a + n)) ≡ on_latest (on_latest q (backward_by l (p + a) n)) (backward_by l p a)
    go None ih = refl
    go (Some k) ih = ih k.0
