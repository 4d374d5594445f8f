-- A flat list that is filled a task at a time: the front that is filled holds the first tasks.
use Prim.Native.Nat.{ℕ, suc, ◌+◌, ◌*◌, ◌≤◌, ◌<◌}
use native.Mathlib.Omega.{arith}
use native.Mathlib.Decide.{dec_lt}
use native.Mathlib.Numerals.{add-one}
use mathlib.Core.Path.{◌≡◌, refl, sym, ap, ◌∙◌}
use mathlib.Core.List.{List, [], ◌∷◌, ◌++◌, append_assoc}
use lib.ListN.{length, set, take, get_or, length-set}
use lib.Seq.{take_all, take-suc-set, length-take-le}
use borrow.Author.Tests.{le-ltb, lt-ltb}
use Rattle.task.specs.declared.Task.{Task}
use Rattle.chain.specs.declared.Chain.{Chain}
use Rattle.chain.specs.Chains.{zero_task}
use Rattle.chain.specs.Flat.{flat_of, task_fields, flat_chain, flat_length, given_in, length_flat, flat_more}
use Rattle.chain.specs.StandsFor.{StandsFor, front_stands}

module _ (list : List ℕ) (k x y z : ℕ) (h : k + 3 ≤ length list) where
  three_stores : take (k + 3) (set (set (set list k x) (k + 1) y) (k + 2) z) ≡ take k list ++ (x ∷ y ∷ z ∷ [])
  three_stores =
      let a : k + 1 ≡ suc k = omega arith in
      let b : k + 2 ≡ suc (suc k) = omega arith in
      let c : k + 3 ≡ suc (suc (suc k)) = omega arith in
      rw (a, b, c)
      (take-suc-set (set (set list k x) (suc k) y) (suc (suc k)) z (omega (arith, length-set list k x, length-set (set list k x) (suc k) y))
      ∙ ap (λ (r : List ℕ). r ++ (z ∷ [])) (take-suc-set (set list k x) (suc k) y (omega (arith, length-set list k x)) ∙ ap (λ (r : List ℕ). r ++ (y ∷ [])) (take-suc-set list k x (omega arith)))
      ∙ append_assoc (take k list ++ (x ∷ [])) (y ∷ []) (z ∷ []) ∙ append_assoc (take k list) (x ∷ []) (y ∷ z ∷ []))

pub flat_none : (l : List Task) (list : List ℕ) → take (3 * 0) list ≡ flat_chain (take 0 l)
unfolding flat_of
flat_none l list = refl

pub flat_turn : (l : List Task) (list : List ℕ) (i : ℕ) → i < length l → 3 * i + 3 ≤ length list → take (3 * i) list ≡ flat_chain (take i l)
    → take (3 * (i + 1)) (set (set (set list (3 * i) (get_or l i zero_task).period) (3 * i + 1) (get_or l i zero_task).duration) (3 * i + 2) (get_or l i zero_task).phase) ≡ flat_chain (take (i + 1) l)
flat_turn l list i h g e =
    let n : 3 * (i + 1) ≡ 3 * i + 3 = omega arith in
    ap (λ (x : ℕ). take x (set (set (set list (3 * i) (get_or l i zero_task).period) (3 * i + 1) (get_or l i zero_task).duration) (3 * i + 2) (get_or l i zero_task).phase)) n
    ∙ three_stores list (3 * i) (get_or l i zero_task).period (get_or l i zero_task).duration (get_or l i zero_task).phase g ∙ ap (λ (r : List ℕ). r ++ task_fields (get_or l i zero_task)) e ∙ sym (flat_more task_fields 3 (λ x. refl) zero_task l i h) ∙ ap (λ (x : ℕ). flat_chain (take x l)) (sym (add-one i))

-- the list is filled
pub flat_end : (l : List Task) (list : List ℕ) (i : ℕ) → length l ≤ i → length list ≤ 3 * i → take (3 * i) list ≡ flat_chain (take i l) → list ≡ flat_chain l
flat_end l list i h g e = sym (take_all (3 * i) list g) ∙ e ∙ ap flat_chain (take_all i l h)

-- stores leave the length
pub kept : (l : List ℕ) (n i j k a b c : ℕ) → length l ≡ n → length (set (set (set l i a) j b) k c) ≡ n
kept l n i j k a b c h = simp length-set h

-- ---- how much of it is lent

pub long_length : (n : ℕ) → 12 < n → 0 ≡ flat_length n
long_length n h = rw (lt-ltb 12 n h)

pub short_length : (n : ℕ) → n ≤ 12 → 3 * n ≡ flat_length n
short_length n h = rw (le-ltb 12 n h)

-- what is known of the lent front of a chain's flat list
pub record Lent (c : Chain) (list : List ℕ) (n : ℕ) : Type 0 where
  pub inside : n ≤ length list
  pub long : n ≡ length (take n list)
  pub stands : StandsFor c.gap (given_in (take n list)) c

pub lent : (c : Chain) → length c.tasks ≡ 12 → (list : List ℕ) → list ≡ flat_chain c.tasks → (n : ℕ) → n ≡ flat_length c.places → Lent c list n
lent c twelve list filled n cut =
    let all : length list ≡ 3 * length c.tasks = ap length filled ∙ length_flat task_fields 3 (λ x. refl) c.tasks in
    let inside : n ≤ length list = elim (dec_lt 12 c.places) [
      | yes u ↦ omega (arith, long_length c.places u)
      | no u ↦ omega (arith, short_length c.places (omega arith))
    ] in
    record { inside = inside; long = sym (length-take-le n list inside); stands = front_stands c twelve list filled n cut }
