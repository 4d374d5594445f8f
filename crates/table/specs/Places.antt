-- A table by places: what a loop over the places of the two lists needs, and one step of the test of well-formed.
use Rattle.std.specs.Prelude.{◌≡◌, refl, List, [], ◌∷◌, ℕ, zero, suc, ◌+◌, ◌≤◌, ◌<◌, length, get_or, take, drop}
use Rattle.std.proofs.Common.{ap, add-one, arith, lt-ltb, le-ltb}
use Rattle.std.proofs.Math.Decide.{dec_lt}
use Rattle.table.specs.Anchors.{Anchor, anchor, anchors, first_start, next}
use Rattle.table.specs.WellFormed.{◌and◌, fitting, spaced, next_start}

-- what the lists hold from g on is no part of the table
pub anchors_take : (s v : List ℕ) (g : ℕ) → anchors (take g s) (take g v) g ≡ anchors s v g
unfolding anchors
anchors_take s v zero = refl
anchors_take [] v (suc g) = refl
anchors_take (a ∷ s) [] (suc g) = refl
anchors_take (a ∷ s) (b ∷ v) (suc g) = ap (λ (l : List Anchor). anchor a b ∷ l) (anchors_take s v g)

pub anchors_end : (s v : List ℕ) (g : ℕ) → drop g (anchors s v g) ≡ []
unfolding anchors
anchors_end s v zero = refl
anchors_end [] v (suc g) = refl
anchors_end (a ∷ s) [] (suc g) = refl
anchors_end (a ∷ s) (b ∷ v) (suc g) = anchors_end s v g

anchors_suc : (s v : List ℕ) (g i : ℕ) → i < g → g ≤ length s → g ≤ length v
    → drop i (anchors s v g) ≡ anchor (get_or s i 0) (get_or v i 0) ∷ drop (suc i) (anchors s v g)
unfolding anchors
anchors_suc s v zero i h p q = absurd (omega arith)
anchors_suc [] v (suc g) i h p q = absurd (omega arith)
anchors_suc (a ∷ s) [] (suc g) i h p q = absurd (omega arith)
anchors_suc (a ∷ s) (b ∷ v) (suc g) zero h p q = refl
anchors_suc (a ∷ s) (b ∷ v) (suc g) (suc i) h p q = anchors_suc s v g i (omega arith) (omega arith) (omega arith)

-- two lists that hold at least g entries
module _ (s v : List ℕ) (g : ℕ) (p : g ≤ length s) (q : g ≤ length v) where
  -- the anchors from place i on
  pub anchors_at : (i : ℕ) → i < g → drop i (anchors s v g) ≡ anchor (get_or s i 0) (get_or v i 0) ∷ drop (i + 1) (anchors s v g)
  anchors_at i h = rw add-one (anchors_suc s v g i h p q)

  pub anchors_first : 0 < g → anchors s v g ≡ anchor (get_or s 0 0) (get_or v 0 0) ∷ drop 1 (anchors s v g)
  anchors_first h = anchors_suc s v g 0 h p q

  pub first_at : 0 < g → first_start (anchors s v g) ≡ get_or s 0 0
  first_at h = rw (anchors_first h)

  pub next_at : (limit i : ℕ) → i < g → next limit (drop (i + 1) (anchors s v g)) ≡ next_start s g limit i
  next_at limit i h = elim (dec_lt (i + 1) g) [
    | yes k ↦ rw (lt-ltb (i + 1) g k, anchors_at (i + 1) k)
    | no k ↦ let e : i + 1 ≡ g = omega arith in rw (le-ltb (i + 1) g (omega arith), e, anchors_end s v g)
  ]

  -- one step of the test of well-formed, and its end
  pub spaced_at : (limit i : ℕ) → i < g
      → spaced limit (drop i (anchors s v g)) ≡ (fitting (get_or s i 0) (next_start s g limit i) (get_or v i 0) and spaced limit (drop (i + 1) (anchors s v g)))
  unfolding spaced
  spaced_at limit i h = rw (anchors_at i h, next_at limit i h)

pub spaced_end : (s v : List ℕ) (g limit i : ℕ) → i ≡ g → spaced limit (drop i (anchors s v g)) ≡ spaced limit []
spaced_end s v g limit i e = rw (e, anchors_end s v g)

-- the start after a place that is not the last, and after the last
pub next_inner : (s : List ℕ) (g limit i : ℕ) → i + 1 < g → next_start s g limit i ≡ get_or s (i + 1) 0
next_inner s g limit i h = rw (lt-ltb (i + 1) g h)

pub next_last : (s : List ℕ) (g limit i : ℕ) → i + 1 ≡ g → next_start s g limit i ≡ limit
next_last s g limit i h = rw (le-ltb (i + 1) g (omega arith))
