-- The loop that looks for the longest period finds the place that the definition names.
use Prim.Native.Nat.{ℕ, ◌+◌, ◌≤◌, ◌<◌, max}
use native.Mathlib.Omega.{arith}
use native.Mathlib.Decide.{dec_lt, dec_le}
use mathlib.Core.Path.{◌≡◌, refl, sym, ◌∙◌}
use mathlib.Core.Bool.{cond}
use mathlib.Core.List.{List, [], ◌∷◌}
use lib.Dec.{ltb, leb}
use lib.ListN.{length, drop}
use borrow.Author.Tests.{lt-ltb, le-ltb, le-leb, lt-leb, eq-eqb}
use Rattle.task.specs.declared.Place.{Place}
use Rattle.chain.specs.Chains.{at, zero_place}
use Rattle.chain.proofs.Front.{rest_cons, rest_end}
use Rattle.schedule.specs.Schedules.{position_of}
use Rattle.schedule.specs.Numbers.{position_here, position_past}
use Rattle.latency.specs.LongestPlace.{longest_period, longest_place, periods, first_longest, later_longer}

-- what the loop ends with, b being the longest period so far, p its place, and i the number of tasks before l
unfoldable pub pick : ℕ → ℕ → ℕ → List Place → ℕ
pick b p i [] = p
pick b p i (t ∷ l) = cond (ltb b t.period) (pick t.period (i + 1) (i + 1) l) (pick b p (i + 1) l)

-- the first of the periods in l that is longer than b and longest, or p where none is longer
abbrev found : ℕ → ℕ → ℕ → List Place → ℕ
found b p i l = cond (leb (longest_period l) b) p (i + position_of (longest_period l) (periods l) + 1)

module _ (t : Place) (l : List Place) where
  longest_longer : (b p i : ℕ) → b < t.period → found t.period (i + 1) (i + 1) l ≡ found b p i (t ∷ l)
  longest_longer b p i h = elim (dec_le (longest_period l) t.period) [
    | yes k ↦
        rw (first_longest t l k, le-leb (longest_period l) t.period k, lt-leb t.period b h, position_here t.period t.period (periods l) refl) (omega arith)
    | no k ↦
        rw (
          later_longer t l (omega arith),
          lt-leb (longest_period l) t.period (omega arith),
          lt-leb (longest_period l) b (omega arith),
          position_past (longest_period l) t.period (periods l) (λ e. omega arith),
        )
        (omega arith)
  ]

  longest_not : (b p i : ℕ) → t.period ≤ b → found b p (i + 1) l ≡ found b p i (t ∷ l)
  longest_not b p i h = elim (dec_le (longest_period l) b) [
    | yes k ↦ rw (le-leb (longest_period l) b k, le-leb (longest_period (t ∷ l)) b (bound k))
    | no k ↦
        rw (
          later_longer t l (omega arith),
          lt-leb (longest_period l) b (omega arith),
          position_past (longest_period l) t.period (periods l) (λ e. omega arith),
        )
        (omega arith)
  ]
    where
      bound : longest_period l ≤ b → longest_period (t ∷ l) ≤ b
      bound k = elim (dec_le (longest_period l) t.period) [
        | yes q ↦ omega (arith, first_longest t l q)
        | no q ↦ omega (arith, later_longer t l (omega arith))
      ]

pick_found : (l : List Place) (b p i : ℕ) → pick b p i l ≡ found b p i l
unfolding pick longest_period
pick_found [] b p i = sym (rw (le-leb 0 b (omega arith)))
pick_found (t ∷ l) b p i = elim (dec_lt b t.period) [
  | yes h ↦ rw (lt-ltb b t.period h) (pick_found l t.period (i + 1) (i + 1) ∙ longest_longer t l b p i h)
  | no h ↦ rw (le-ltb b t.period (omega arith)) (pick_found l b p (i + 1) ∙ longest_not t l b p i (omega arith))
]

all_zero : (l : List Place) → longest_period l ≤ 0 → position_of (longest_period l) (periods l) ≡ 0
unfolding longest_period position_of
all_zero [] h = refl
all_zero (t ∷ l) h = let e : t.period ≡ max t.period (longest_period l) = omega arith in rw (eq-eqb t.period (max t.period (longest_period l)) e)

pub pick_all : (l : List Place) → longest_place l ≡ pick 0 1 0 l
unfolding longest_place
pick_all l = sym (pick_found l 0 1 0 ∙ go)
  where
    go : found 0 1 0 l ≡ position_of (longest_period l) (periods l) + 1
    go = elim (dec_le (longest_period l) 0) [
      | yes h ↦ rw (le-leb (longest_period l) 0 h, all_zero l h)
      | no h ↦ rw (lt-leb (longest_period l) 0 (omega arith)) (omega arith)
    ]

-- ---- one turn

module _ (l : List Place) (i : ℕ) where
  pub pick_longer : (b p : ℕ) → i < length l → b < (at l i).period → pick b p i (drop i l) ≡ pick (at l i).period (i + 1) (i + 1) (drop (i + 1) l)
  unfolding pick
  pick_longer b p h k = rw (rest_cons l i zero_place h, lt-ltb b (at l i).period k)

  pub pick_not : (b p : ℕ) → i < length l → (at l i).period ≤ b → pick b p i (drop i l) ≡ pick b p (i + 1) (drop (i + 1) l)
  unfolding pick
  pick_not b p h k = rw (rest_cons l i zero_place h, le-ltb b (at l i).period k)

  pub pick_end : (b p : ℕ) → length l ≤ i → pick b p i (drop i l) ≡ p
  unfolding pick
  pick_end b p h = rw (rest_end l i h)
