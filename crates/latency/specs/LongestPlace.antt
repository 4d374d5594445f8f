-- Document 01: the cut "at the longest period (lowest place among equals)". That its place is inside the chain, no place has a longer period, and each lower place has a shorter one is `longest_place_holds`.
use Rattle.std.specs.Prelude.{ℕ, zero, suc, ◌+◌, ◌-◌, ◌≤◌, ◌<◌, max, ◌≡◌, refl, List, [], ◌∷◌, map, length}
use native.Mathlib.Omega.{arith}
use Rattle.std.proofs.Math.Decide.{dec_le}
use Rattle.task.specs.declared.Place.{Place}
use Rattle.chain.specs.Chains.{at}
use Rattle.schedule.specs.Schedules.{position_of}
use Rattle.schedule.specs.Numbers.{position_here, position_past}

abbrev pub periods : List Place → List ℕ
periods = map (λ (t : Place). t.period)

-- The longest period of a chain,
unfoldable pub longest_period : List Place → ℕ
longest_period [] = 0
longest_period (t ∷ l) = max t.period (longest_period l)

-- and its place, counted from 1; the lowest place among equals.
unfoldable pub longest_place : List Place → ℕ
longest_place l = position_of (longest_period l) (periods l) + 1

module _ (t : Place) (l : List Place) where
  pub first_longest : longest_period l ≤ t.period → longest_period (t ∷ l) ≡ t.period
  unfolding longest_period
  first_longest h = omega arith

  pub later_longer : t.period < longest_period l → longest_period (t ∷ l) ≡ longest_period l
  unfolding longest_period
  later_longer h = omega arith

none_longer : (l : List Place) (i : ℕ) → i < length l → (at l i).period ≤ longest_period l
unfolding longest_period
none_longer [] i h = absurd (omega arith)
none_longer (t ∷ l) zero h = omega arith
none_longer (t ∷ l) (suc i) h = omega (arith, none_longer l i (omega arith))

some_task : (l : List Place) → 0 < longest_period l → 1 ≤ length l
unfolding longest_period
some_task [] h = absurd (omega arith)
some_task (t ∷ l) h = omega arith

-- q is the first place with period n, counted from 0
abbrev First : List Place → ℕ → ℕ → Type 0
First l n q = (q < length l) × ((at l q).period ≡ n) × ((i : ℕ) → i < q → (at l i).period < n)

first : (l : List Place) → 1 ≤ length l → First l (longest_period l) (position_of (longest_period l) (periods l))
first [] h = absurd (omega arith)
first (t ∷ l) h = elim (dec_le (longest_period l) t.period) [
  | yes k ↦ rw (first_longest t l k, position_here t.period t.period (periods l) refl) (omega arith, refl, λ i g. absurd (omega arith))
  | no k ↦
      rw (later_longer t l (omega arith), position_past (longest_period l) t.period (periods l) (λ e. omega arith))
      (later (omega arith) (first l (some_task l (omega arith))))
]
  where
    later : t.period < longest_period l → First l (longest_period l) (position_of (longest_period l) (periods l))
        → First (t ∷ l) (longest_period l) (suc (position_of (longest_period l) (periods l)))
    later k f = (omega (arith, f.0), f.1, before)
      where
        before : (i : ℕ) → i < suc (position_of (longest_period l) (periods l)) → (at (t ∷ l) i).period < longest_period l
        before zero g = k
        before (suc i) g = f.2 i (omega arith)

-- Place p, counted from 1, has the longest period and is the lowest that has.
pub record Longest (l : List Place) (p : ℕ) : Type 0 where
  pub some : 1 ≤ p
  pub inside : p ≤ length l
  pub longest : (i : ℕ) → i < length l → (at l i).period ≤ (at l (p - 1)).period
  pub lowest : (i : ℕ) → i + 1 < p → (at l i).period < (at l (p - 1)).period

pub longest_place_holds : (l : List Place) → 1 ≤ length l → Longest l (longest_place l)
unfolding longest_place
longest_place_holds l h =
    let q = position_of (longest_period l) (periods l) in
    let f = first l h in
    let z : q + 1 - 1 ≡ q = omega arith in
    record {
      some = omega arith;
      inside = omega (arith, f.0);
      longest = λ i g. rw (z, f.1) (none_longer l i g);
      lowest = λ i g. rw (z, f.1) (f.2 i (omega arith));
    }

-- The period there is the longest.
pub longest_is : (l : List Place) → 1 ≤ length l → (at l (longest_place l - 1)).period ≡ longest_period l
unfolding longest_place
longest_is l h =
    let q = position_of (longest_period l) (periods l) in
    let z : q + 1 - 1 ≡ q = omega arith in
    rw z (first l h).1
