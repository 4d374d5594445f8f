-- Lists as arrays: entries past a list have one value, and storing at the list's end makes it one longer.
use Prim.Native.Nat.{ℕ, zero, suc, ◌+◌, ◌≤◌, ◌<◌}
use Rattle.std.proofs.Common.{arith, add-one, sym, ◌∙◌, length-take-le}
use Rattle.std.specs.Prelude.{◌≡◌, length, get_or, set, take, replicate}
use Rattle.std.proofs.Math.Path.{refl, ap}
use mathlib.Core.List.{List, [], ◌∷◌, ◌++◌, map}
use Rattle.std.proofs.lemmas.List.{length-map}
use Rattle.schedule.specs.Schedules.{padded}

module _ {A : Type 0} (d : A) where
  pub padded_none : (n : ℕ) → padded n d [] ≡ replicate n d
  unfolding padded
  padded_none zero = refl
  padded_none (suc n) = ap (λ (l : List A). d ∷ l) (padded_none n)

  pub padded_set : (n : ℕ) (l : List A) (i : ℕ) (x : A) → length l ≡ i → i < n → set (padded n d l) i x ≡ padded n d (l ++ (x ∷ []))
  unfolding padded
  padded_set zero l i x e h = absurd (omega arith)
  padded_set (suc n) [] zero x e h = refl
  padded_set (suc n) [] (suc i) x e h = absurd (omega arith)
  padded_set (suc n) (y ∷ l) zero x e h = absurd (omega arith)
  padded_set (suc n) (y ∷ l) (suc i) x e h = ap (λ (r : List A). y ∷ r) (padded_set n l i x (omega arith) (omega arith))

  pub padded_same : (n : ℕ) (l : List A) → length l < n → padded n d l ≡ padded n d (l ++ (d ∷ []))
  unfolding padded
  padded_same zero l h = absurd (omega arith)
  padded_same (suc n) [] h = refl
  padded_same (suc n) (y ∷ l) h = ap (λ (r : List A). y ∷ r) (padded_same n l (omega arith))

  pub padded_whole : (n : ℕ) (l : List A) → n ≤ length l → padded n d l ≡ l
  unfolding padded
  padded_whole zero l h = refl
  padded_whole (suc n) [] h = absurd (omega arith)
  padded_whole (suc n) (x ∷ l) h = ap (λ (r : List A). x ∷ r) (padded_whole n l (omega arith))

  pub length_padded : (n : ℕ) (l : List A) → length l ≤ n → length (padded n d l) ≡ n
  unfolding padded
  length_padded zero [] h = refl
  length_padded zero (x ∷ l) h = absurd (omega arith)
  length_padded (suc n) [] h = ap suc (length_padded n [] (omega arith))
  length_padded (suc n) (x ∷ l) h = ap suc (length_padded n l (omega arith))

  pub take_padded : (n : ℕ) (l : List A) → length l ≤ n → take (length l) (padded n d l) ≡ l
  unfolding padded
  take_padded n [] h = refl
  take_padded zero (x ∷ l) h = absurd (omega arith)
  take_padded (suc n) (x ∷ l) h = ap (λ (r : List A). x ∷ r) (take_padded n l (omega arith))

  -- an entry of the array is that of the list, and d past it; e is never had
  pub padded_at : (n : ℕ) (l : List A) (i : ℕ) (e : A) → i < n → get_or (padded n d l) i e ≡ get_or l i d
  unfolding padded
  padded_at zero l i e h = absurd (omega arith)
  padded_at (suc n) [] zero e h = refl
  padded_at (suc n) [] (suc i) e h = padded_at n [] i e (omega arith)
  padded_at (suc n) (x ∷ l) zero e h = refl
  padded_at (suc n) (x ∷ l) (suc i) e h = padded_at n l i e (omega arith)

-- an entry of a list taken over through f, whatever stands for the entries past the end
pub map_at : {A B : Type 0} (f : A → B) (l : List A) (i : ℕ) (d : A) (e : B) → i < length l → get_or (map f l) i e ≡ f (get_or l i d)
map_at f [] i d e h = absurd (omega arith)
map_at f (x ∷ l) zero d e h = refl
map_at f (x ∷ l) (suc i) d e h = map_at f l i d e (omega arith)

-- one entry more of a list that is taken over through f
map_more : {A B : Type 0} (f : A → B) (l : List A) (i : ℕ) (a : A) → i < length l → map f (take (suc i) l) ≡ map f (take i l) ++ (f (get_or l i a) ∷ [])
map_more f [] i a h = absurd (omega arith)
map_more f (x ∷ l) zero a h = refl
map_more f (x ∷ l) (suc i) a h = ap (λ (r : List _). f x ∷ r) (map_more f l i a (omega arith))

module _ {A B : Type 0} (f : A → B) (a : A) (b : B) where
  pub store_more : (n : ℕ) (l : List A) (i : ℕ) → i < length l → i < n → set (padded n b (map f (take i l))) i (f (get_or l i a)) ≡ padded n b (map f (take (i + 1) l))
  store_more n l i h g =
      padded_set b n (map f (take i l)) i (f (get_or l i a)) (length-map (take i l) f ∙ length-take-le i l (omega arith)) g
      ∙ ap (padded n b) (sym (map_more f l i a h)) ∙ ap (λ (k : ℕ). padded n b (map f (take k l))) (sym (add-one i))

  -- where the entry is the value past the list there is nothing to store
  pub leave_more : (n : ℕ) (l : List A) (i : ℕ) → i < length l → i < n → f (get_or l i a) ≡ b → padded n b (map f (take i l)) ≡ padded n b (map f (take (i + 1) l))
  leave_more n l i h g e =
      let k : length (map f (take i l)) ≡ i = length-map (take i l) f ∙ length-take-le i l (omega arith) in
      padded_same b n (map f (take i l)) (omega arith)
      ∙ ap (λ (x : B). padded n b (map f (take i l) ++ (x ∷ []))) (sym e)
      ∙ ap (padded n b) (sym (map_more f l i a h)) ∙ ap (λ (k : ℕ). padded n b (map f (take k l))) (sym (add-one i))
