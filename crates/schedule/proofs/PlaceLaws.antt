-- The task at a place of a schedule's chain, found by its number.
use Prim.Native.Nat.{ℕ, zero, suc, ◌≤◌, ◌<◌}
use native.Mathlib.Omega.{arith}
use native.Mathlib.Decide.{dec_lt}
use mathlib.Core.Path.{◌≡◌, refl, sym, ap, ◌∙◌}
use mathlib.Core.List.{List, [], ◌∷◌, map}
use lib.ListN.{length, get_or, take, length-map}
use Rattle.std.specs.Prelude.{eqb, position, None, Option, Some}
use lib.Seq.{get_or-take, take_all, length-take-le}
use borrow.Author.Tests.{lt-ltb, le-ltb}
use Rattle.chain.specs.Chains.{zero_task}
use Rattle.schedule.specs.declared.NumberedTask.{NumberedTask}
use Rattle.schedule.specs.Schedules.{number_of, least, position_of, task_numbered, zero_numbered}
use Rattle.schedule.specs.Numbers.{task_position, position_some, position_lost}

pub least_le : (k n i : ℕ) → i ≡ least k n → i ≤ n
least_le k n i e = elim (dec_lt k n) [
  | yes h ↦ let q : i ≡ k = e ∙ rw (lt-ltb k n h) refl in omega arith
  | no h ↦ let q : i ≡ n = e ∙ rw (le-ltb k n (omega arith)) refl in omega arith
]

-- no more of a list can be taken than it has
pub take_least : {A : Type 0} (l : List A) (k n i : ℕ) → length l ≡ n → i ≡ least k n → take i l ≡ take k l
take_least l k n i long e = elim (dec_lt k n) [
  | yes h ↦ let q : i ≡ k = e ∙ rw (lt-ltb k n h) refl in rw q
  | no h ↦
      let q : i ≡ n = e ∙ rw (le-ltb k n (omega arith)) refl in
      take_all i l (omega arith) ∙ sym (take_all k l (omega arith))
]

pub map_take : {A B : Type 0} (f : A → B) (n : ℕ) (l : List A) → map f (take n l) ≡ take n (map f l)
map_take f zero l = refl
map_take f (suc n) [] = refl
map_take {B = B} f (suc n) (x ∷ l) = ap (λ (r : List B). f x ∷ r) (map_take f n l)

past_end : {A : Type 0} (l : List A) (i : ℕ) (d : A) → length l ≤ i → get_or l i d ≡ d
past_end [] i d h = refl
past_end (x ∷ l) zero d h = absurd (omega arith)
past_end (x ∷ l) (suc i) d h = past_end l i d (omega arith)

-- n is looked for among the first `count` numbers; k is the schedule's own count
module _ (ts : List NumberedTask) (k count n : ℕ) (long : length ts ≡ 32) (few : count ≡ least k 32) where
  numbered : (at : ℕ) → at ≡ position_of n (take count (map number_of ts)) → (get_or (take count ts) at zero_numbered).task ≡ task_numbered (take k ts) n
  numbered at is =
      ap (λ (i : ℕ). (get_or (take count ts) i zero_numbered).task) (is ∙ ap (position_of n) (sym (map_take number_of count ts)))
      ∙ task_position (take count ts) n
      ∙ ap (λ (l : List NumberedTask). task_numbered l n) (take_least ts k 32 count long few)

  counted : length (take count (map number_of ts)) ≡ count
  counted = length-take-le count (map number_of ts) (omega (arith, length-map ts number_of, least_le k 32 count few))

  pub place_found : (at : ℕ) → Some at ≡ position (λ m. eqb m n) (take count (map number_of ts)) → (at < count) × ((get_or ts at zero_numbered).task ≡ task_numbered (take k ts) n)
  place_found at e =
      let found = position_some n (take count (map number_of ts)) at e in
      let h : at < count = omega (arith, found.1, counted) in
      (h, ap (λ (t : NumberedTask). t.task) (sym (get_or-take count ts at zero_numbered h)) ∙ numbered at found.0)

  pub place_lost : ◌≡◌ {A = Option ℕ} None (position (λ m. eqb m n) (take count (map number_of ts))) → task_numbered (take k ts) n ≡ zero_task
  place_lost e =
      let at : ℕ = position_of n (take count (map number_of ts)) in
      let past : count ≤ at = omega (arith, position_lost n (take count (map number_of ts)) e, counted) in
      sym (numbered at refl) ∙ ap (λ (t : NumberedTask). t.task)
      (past_end (take count ts) at zero_numbered (omega (arith, length-take-le count ts (omega (arith, least_le k 32 count few)))))
