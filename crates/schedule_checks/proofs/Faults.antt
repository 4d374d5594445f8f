-- The lowest fault of a schedule, looked for from the front, and what each check leads to.
use Rattle.std.specs.Prelude.{eqb, position, is_some, Ok, Err, None, Option, Some}
use Prim.Native.Nat.{ℕ, zero, suc, ◌+◌, ◌≤◌, ◌<◌}
use native.Mathlib.Omega.{arith}
use mathlib.Core.Path.{◌≡◌, refl, sym, ap, ◌∙◌}
use mathlib.Core.Bool.{true, false}
use mathlib.Core.List.{List, [], ◌∷◌, map}
use borrow.Author.Tests.{le-leb, lt-leb, ne_eqb}
use Rattle.refusal.specs.declared.Refusal.{Refusal}
use Rattle.refusal.specs.Refusals.{refusal, none}
use Rattle.task.specs.Jobs.{gap_limit}
use Rattle.chain.specs.Checks.{found}
use Rattle.chain.proofs.Found.{found_some, found_none}
use Rattle.schedule.specs.declared.NumberedTask.{NumberedTask}
use Rattle.schedule.specs.declared.Schedule.{Schedule}
use Rattle.schedule.specs.Schedules.{number_of, tasks_in, chains_in, task_rule}
use Rattle.schedule.specs.Numbers.{search_known}
use Rattle.schedule_checks.specs.Checks.{counts_right, first_fault, first_unknown, or_else, unknown_place, fault_at, after_gap, fault_of, passed}

-- ---- 5, from the front

pub fault_past : (p b : ℕ) (t : NumberedTask) (ts : List NumberedTask) → task_rule b t ≡ true → first_fault p b (t ∷ ts) ≡ first_fault (p + 1) t.number ts
unfolding first_fault
fault_past p b t ts h = rw h

pub fault_here : (p b : ℕ) (t : NumberedTask) (ts : List NumberedTask) → task_rule b t ≡ false → first_fault p b (t ∷ ts) ≡ p
unfolding first_fault
fault_here p b t ts h = rw h

pub fault_none : (p b : ℕ) → first_fault p b [] ≡ 0
unfolding first_fault
fault_none p b = refl

-- ---- 6, from the front; the search finds the number, or it does not

pub unknown_past : (p : ℕ) (ns : List ℕ) (n : ℕ) (l : List ℕ) → is_some (position (λ m. eqb m n) ns) ≡ true → first_unknown p ns (n ∷ l) ≡ first_unknown (p + 1) ns l
unfolding first_unknown
unknown_past p ns n l h = rw (sym (search_known n ns) ∙ h)

pub unknown_here : (p : ℕ) (ns : List ℕ) (n : ℕ) (l : List ℕ) → is_some (position (λ m. eqb m n) ns) ≡ false → first_unknown p ns (n ∷ l) ≡ p
unfolding first_unknown
unknown_here p ns n l h = rw (sym (search_known n ns) ∙ h)

pub unknown_none : (p : ℕ) (ns : List ℕ) → first_unknown p ns [] ≡ 0
unfolding first_unknown
unknown_none p ns = refl

-- ---- 6, chain by chain

pub chains_past : (ns ch : List ℕ) (chs : List (List ℕ)) → is_some (found (first_unknown 1 ns ch)) ≡ false → unknown_place ns (ch ∷ chs) ≡ unknown_place ns chs
unfolding unknown_place
chains_past ns ch chs h = go (first_unknown 1 ns ch) h
  where
    go : (p : ℕ) → is_some (found p) ≡ false → or_else p (unknown_place ns chs) ≡ unknown_place ns chs
    go zero h = refl
    go (suc p) h = absurd (let z : ◌≡◌ {A = ℕ} 0 1 = cc in omega arith)

pub chains_here : (ns ch : List ℕ) (chs : List (List ℕ)) → is_some (found (first_unknown 1 ns ch)) ≡ true → unknown_place ns (ch ∷ chs) ≡ first_unknown 1 ns ch
unfolding unknown_place
chains_here ns ch chs h = go (first_unknown 1 ns ch) h
  where
    go : (p : ℕ) → is_some (found p) ≡ true → or_else p (unknown_place ns chs) ≡ p
    go zero h = absurd (let z : ◌≡◌ {A = ℕ} 0 1 = cc in omega arith)
    go (suc p) h = refl

pub chains_none : (ns : List ℕ) → unknown_place ns [] ≡ 0
unfolding unknown_place
chains_none ns = refl

-- ---- the judge

module _ (s : Schedule) where
  -- what is left after 8 and the tasks, and after the gap too
  abbrev unknown : Refusal
  unknown = fault_at 6 (unknown_place (map number_of (tasks_in s)) (chains_in s)) none

  abbrev after_tasks : Refusal
  after_tasks = after_gap s.gap unknown

  pub counts_wrong : counts_right s ≡ false → refusal 8 0 ≡ fault_of s
  unfolding fault_of
  counts_wrong h = rw h

  module _ (right : counts_right s ≡ true) where
    counted : fault_at 5 (first_fault 1 0 (tasks_in s)) after_tasks ≡ fault_of s
    unfolding fault_of
    counted = rw right

    fault_there : (k n : ℕ) (r : Refusal) → (n ≡ 0 → ⊥) → refusal k n ≡ fault_at k n r
    fault_there k zero r g = absurd (g refl)
    fault_there k (suc n) r g = refl

    pub task_fault : (t : ℕ) → Some t ≡ found (first_fault 1 0 (tasks_in s)) → refusal 5 t ≡ fault_of s
    task_fault t e = let p = found_some _ t e in fault_there 5 t after_tasks (λ z. omega (arith, p.1)) ∙ ap (λ (n : ℕ). fault_at 5 n after_tasks) (sym p.0) ∙ counted

    module _ (none_there : ◌≡◌ {A = Option ℕ} None (found (first_fault 1 0 (tasks_in s)))) where
      tasks_right : after_tasks ≡ fault_of s
      tasks_right = ap (λ (n : ℕ). fault_at 5 n after_tasks) (sym (found_none _ none_there)) ∙ counted

      pub gap_fault : gap_limit < s.gap → refusal 5 0 ≡ fault_of s
      unfolding after_gap
      gap_fault h = rw (lt-leb s.gap gap_limit h) at tasks_right

      module _ (permitted : s.gap ≤ gap_limit) where
        gap_right : unknown ≡ fault_of s
        unfolding after_gap
        gap_right = rw (le-leb s.gap gap_limit permitted) at tasks_right

        pub place_fault : (p : ℕ) → Some p ≡ found (unknown_place (map number_of (tasks_in s)) (chains_in s)) → refusal 6 p ≡ fault_of s
        place_fault p e = let u = found_some _ p e in fault_there 6 p none (λ z. omega (arith, u.1)) ∙ ap (λ (n : ℕ). fault_at 6 n none) (sym u.0) ∙ gap_right

        pub all_right_holds : ◌≡◌ {A = Option ℕ} None (found (unknown_place (map number_of (tasks_in s)) (chains_in s))) → refusal 0 0 ≡ fault_of s
        all_right_holds e = ap (λ (n : ℕ). fault_at 6 n none) (sym (found_none _ e)) ∙ gap_right

-- what the check answers of a refusal that was found, and of none
module _ (s : Schedule) where
  pub was_refused : (number place : ℕ) (r : Refusal) → r ≡ refusal number place → 1 ≤ number → refusal number place ≡ fault_of s → Err r ≡ passed (fault_of s)
  was_refused number place r e some is =
      let k : passed (refusal number place) ≡ Err (refusal number place) = rw (ne_eqb number 0 (λ z. omega arith)) in
      ap (λ (x : Refusal). Err x) e ∙ sym k ∙ ap passed is

  pub not_refused : refusal 0 0 ≡ fault_of s → Ok tt ≡ passed (fault_of s)
  not_refused is = ap passed is
