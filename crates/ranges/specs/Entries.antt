-- A list from a rule, as the entries of an array, and the sum of a list.
use Prim.Native.Nat.{ℕ, zero, suc, ◌+◌, ◌≤◌, ◌<◌}
use native.Mathlib.Omega.{arith}
use Rattle.std.specs.Prelude.{◌≡◌, length, get_or, take}
use Rattle.std.proofs.Math.Path.{refl, ap}
use Rattle.std.proofs.Common.{sym, ◌∙◌, ext_get_or}
use mathlib.Core.List.{List, [], ◌∷◌, ◌++◌, map}

-- f at p, p + 1, and so on, n in all.
unfoldable pub entries : {A : Type 0} → (ℕ → A) → ℕ → ℕ → List A
entries f p zero = []
entries f p (suc n) = f p ∷ entries f (suc p) n

-- All entries of a list together.
unfoldable pub sum : List ℕ → ℕ
sum [] = 0
sum (x ∷ l) = x + sum l

-- two rules that agree at the first k numbers have the same first k entries
pub entries_front : {A : Type 0} (f g : ℕ → A) (k p n : ℕ) → ((i : ℕ) → p ≤ i → i < p + k → f i ≡ g i) → take k (entries f p n) ≡ take k (entries g p n)
unfolding entries
entries_front f g zero p n h = refl
entries_front f g (suc k) p zero h = refl
entries_front f g (suc k) p (suc n) h =
    ap (λ (x : _). x ∷ take k (entries f (suc p) n)) (h p (omega arith) (omega arith)) ∙ ap (λ (l : List _). g p ∷ l) (entries_front f g k (suc p) n (λ i a b. h i (omega arith) (omega arith)))

-- and so what another rule makes of them
pub map_front : {A B : Type 0} (h : A → B) (f g : ℕ → A) (k p n : ℕ) → ((i : ℕ) → p ≤ i → i < p + k → h (f i) ≡ h (g i)) → map h (take k (entries f p n)) ≡ map h (take k (entries g p n))
unfolding entries
map_front h f g zero p n e = refl
map_front h f g (suc k) p zero e = refl
map_front h f g (suc k) p (suc n) e =
    ap (λ (x : _). x ∷ map h (take k (entries f (suc p) n))) (e p (omega arith) (omega arith)) ∙ ap (λ (l : List _). h (g p) ∷ l) (map_front h f g k (suc p) n (λ i a b. e i (omega arith) (omega arith)))

module _ {A : Type 0} (f : ℕ → A) where
  pub entries_length : (p n : ℕ) → length (entries f p n) ≡ n
  unfolding entries
  entries_length p zero = refl
  entries_length p (suc n) = ap suc (entries_length (suc p) n)

  module _ (d : A) where
    entries_from : (p n i : ℕ) → i < n → get_or (entries f p n) i d ≡ f (p + i)
    unfolding entries
    entries_from p zero i h = absurd (omega arith)
    entries_from p (suc n) zero h = let e : p + 0 ≡ p = omega arith in rw e
    entries_from p (suc n) (suc i) h = let e : p + suc i ≡ suc p + i = omega arith in rw e (entries_from (suc p) n i (omega arith))

    pub entries_at : (n i : ℕ) → i < n → get_or (entries f 0 n) i d ≡ f i
    entries_at n i h = let e : 0 + i ≡ i = omega arith in entries_from 0 n i h ∙ ap f e

    -- a list whose entries follow the rule
    pub entries_are : (l : List A) (n : ℕ) → length l ≡ n → ((i : ℕ) → i < n → f i ≡ get_or l i d) → entries f 0 n ≡ l
    entries_are l n e each = ext_get_or d (entries f 0 n) l (entries_length 0 n ∙ sym e) (λ i h. entries_at n i (omega (arith, entries_length 0 n)) ∙ each i (omega (arith, entries_length 0 n)))

  -- one entry more
  pub entries_more : (p n : ℕ) → entries f p (suc n) ≡ entries f p n ++ (f (p + n) ∷ [])
  unfolding entries
  entries_more p zero = let e : p + 0 ≡ p = omega arith in rw e
  entries_more p (suc n) =
      let e : suc p + n ≡ p + suc n = omega arith in
      let h = entries_more (suc p) n in
      ap (λ (l : List A). f p ∷ l) (rw e at h)

-- two rules that agree have the same entries
pub entries_same : {A : Type 0} (f g : ℕ → A) (p n : ℕ) → ((i : ℕ) → p ≤ i → i < p + n → f i ≡ g i) → entries f p n ≡ entries g p n
unfolding entries
entries_same f g p zero h = refl
entries_same f g p (suc n) h = rw (h p (omega arith) (omega arith), entries_same f g (suc p) n (λ i a b. h i (omega arith) (omega arith)))

-- the sum with one entry more
pub entries_sum : (f : ℕ → ℕ) (p n : ℕ) → sum (entries f p (suc n)) ≡ sum (entries f p n) + f (p + n)
unfolding entries sum
entries_sum f p zero = let e : p + 0 ≡ p = omega arith in rw e (omega arith)
entries_sum f p (suc n) = let e : p + suc n ≡ suc p + n = omega arith in rw e (omega (arith, entries_sum f (suc p) n))
