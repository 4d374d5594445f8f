-- The numbers of tasks: a number is known exactly where it has a position, and its task stands there.
use Rattle.std.specs.Prelude.{ℕ, suc, ◌+◌, ◌≤◌, ◌<◌, ◌≡◌, refl, Bool, true, false, not, cond, List, [], ◌∷◌, map, eqb, ltb, length, get_or, position, is_some, None, Option, Some}
use Rattle.std.specs.List.{position_or_len}
use Rattle.std.proofs.Common.{arith, sym, eq-eqb, ne_eqb, ltb-true, ltb-false}
use Rattle.schedule.specs.declared.NumberedTask.{NumberedTask}
use Rattle.schedule.specs.Schedules.{number_of, position_of, known, task_numbered, zero_numbered}

pub known_position : (l : List ℕ) (n : ℕ) → position_of n l < length l → known l n ≡ true
unfolding position_of known
known_position [] n h = absurd (omega arith)
known_position (m ∷ l) n h = go (eqb m n) h (known_position l n)
  where
    go : (b : Bool) → cond b 0 (suc (position_of n l)) < suc (length l) → (position_of n l < length l → known l n ≡ true) → cond b true (known l n) ≡ true
    go true h k = refl
    go false h k = k (omega arith)

pub unknown_position : (l : List ℕ) (n : ℕ) → length l ≤ position_of n l → known l n ≡ false
unfolding position_of known
unknown_position [] n h = refl
unknown_position (m ∷ l) n h = go (eqb m n) h (unknown_position l n)
  where
    go : (b : Bool) → suc (length l) ≤ cond b 0 (suc (position_of n l)) → (length l ≤ position_of n l → known l n ≡ false) → cond b true (known l n) ≡ false
    go true h k = absurd (omega arith)
    go false h k = k (omega arith)

-- The task with a number stands at the number's position; past the end there are zeros.
pub task_position : (ts : List NumberedTask) (n : ℕ) → (get_or ts (position_of n (map number_of ts)) zero_numbered).task ≡ task_numbered ts n
unfolding position_of task_numbered
task_position [] n = refl
task_position (t ∷ ts) n = go (eqb t.number n) (task_position ts n)
  where
    go : (b : Bool) → (get_or ts (position_of n (map number_of ts)) zero_numbered).task ≡ task_numbered ts n
        → (get_or (t ∷ ts) (cond b 0 (suc (position_of n (map number_of ts)))) zero_numbered).task ≡ cond b t.task (task_numbered ts n)
    go true k = refl
    go false k = k

-- ---- a search from the front

pub position_here : (n m : ℕ) (l : List ℕ) → m ≡ n → position_of n (m ∷ l) ≡ 0
unfolding position_of
position_here n m l e = rw (eq-eqb m n e)

pub position_past : (n m : ℕ) (l : List ℕ) → (m ≡ n → ⊥) → position_of n (m ∷ l) ≡ suc (position_of n l)
unfolding position_of
position_past n m l e = rw (ne_eqb m n e)

pub position_none : (n : ℕ) → position_of n [] ≡ 0
unfolding position_of
position_none n = refl

-- ---- std's word for that search, `position`, which answers an Option

position_or_len_is : (n : ℕ) (l : List ℕ) → position_or_len (λ m. eqb m n) l ≡ position_of n l
unfolding position_of
position_or_len_is n [] = refl
position_or_len_is n (m ∷ l) = go (eqb m n) (position_or_len_is n l)
  where
    go : (b : Bool) → position_or_len (λ m. eqb m n) l ≡ position_of n l → cond (not b) (1 + position_or_len (λ m. eqb m n) l) 0 ≡ cond b 0 (suc (position_of n l))
    go true k = refl
    go false k = omega (arith, k)

module _ (n : ℕ) (l : List ℕ) where
  pub position_some : (i : ℕ) → Some i ≡ position (λ m. eqb m n) l → (i ≡ position_of n l) × (i < length l)
  position_some i e = go (ltb (position_or_len (λ m. eqb m n) l) (length l)) refl e
    where
      go : (b : Bool) → ltb (position_or_len (λ m. eqb m n) l) (length l) ≡ b → Some i ≡ cond b (Some (position_or_len (λ m. eqb m n) l)) None → (i ≡ position_of n l) × (i < length l)
      go true k h =
          let same : i ≡ position_or_len (λ m. eqb m n) l = cc in
          (omega (arith, same, position_or_len_is n l), omega (arith, same, ltb-true _ _ k))
      go false k h = absurd cc

  pub position_lost : ◌≡◌ {A = Option ℕ} None (position (λ m. eqb m n) l) → length l ≤ position_of n l
  position_lost e = go (ltb (position_or_len (λ m. eqb m n) l) (length l)) refl e
    where
      go : (b : Bool) → ltb (position_or_len (λ m. eqb m n) l) (length l) ≡ b → ◌≡◌ {A = Option ℕ} None (cond b (Some (position_or_len (λ m. eqb m n) l)) None) → length l ≤ position_of n l
      go true k h = absurd cc
      go false k h = omega (arith, ltb-false _ _ k, position_or_len_is n l)

  -- a number is known exactly where the search finds it
  pub search_known : is_some (position (λ m. eqb m n) l) ≡ known l n
  search_known = go (position (λ m. eqb m n) l) refl
    where
      go : (o : Option ℕ) → o ≡ position (λ m. eqb m n) l → is_some o ≡ known l n
      go (Some i) e = let k = position_some i e in sym (known_position l n (omega (arith, k.0, k.1)))
      go None e = sym (unknown_position l n (position_lost e))
