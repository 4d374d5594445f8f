-- Order 1 of document 02: "An analysis from a schedule first checks 8 (number of chains too), 5 and 6 as in writing, chains in order, 6 with the position in its chain.
-- A chain number not in the schedule is then refused with 16". Order 5: "A call given a gap above 1,000 refuses it as 5 at place 0, after the tasks."
-- One judge of a schedule, and one choice of a chain.
use Rattle.std.specs.Prelude.{ℕ, zero, suc, ◌+◌, Bool, true, false, cond, ◌&&◌, List, [], ◌∷◌, map, leb, eqb, Ok, Err, Result}
use Rattle.refusal.specs.declared.Refusal.{Refusal}
use Rattle.refusal.specs.Refusals.{refusal, none}
use Rattle.task.specs.Jobs.{gap_limit}
use Rattle.chain.specs.declared.Chain.{Chain}
use Rattle.schedule.specs.declared.NumberedTask.{NumberedTask}
use Rattle.schedule.specs.declared.Route.{Route}
use Rattle.schedule.specs.declared.Schedule.{Schedule}
use Rattle.schedule.specs.Schedules.{number_of, tasks_in, routes_in, chains_in, task_rule, known, chain_at}

-- A count from 1 to its limit.
unfoldable pub count_right : ℕ → ℕ → Bool
count_right n limit = leb 1 n && leb n limit

-- Each chain has 1 to 12 places.
unfoldable pub places_right : List Route → Bool
places_right [] = true
places_right (r ∷ rs) = cond (count_right r.count 12) (places_right rs) false

-- 8: task count, number of chains or number of places outside its limits.
unfoldable pub counts_right : Schedule → Bool
counts_right s = cond (count_right s.count 32) (cond (count_right s.chains 4) (places_right (routes_in s)) false) false

-- 5: the lowest position of a task outside its rule, the first task of the list standing at position p and `before` being the number of the task before it;
-- 0 where there is none. Where a number is not above the one before, it is the later task.
unfoldable pub first_fault : ℕ → ℕ → List NumberedTask → ℕ
first_fault p before [] = 0
first_fault p before (t ∷ ts) = cond (task_rule before t) (first_fault (p + 1) t.number ts) p

-- 6: the lowest position of a chain whose number no task has, the first of the list standing at position p; 0 where there is none.
unfoldable pub first_unknown : ℕ → List ℕ → List ℕ → ℕ
first_unknown p numbers [] = 0
first_unknown p numbers (n ∷ l) = cond (known numbers n) (first_unknown (p + 1) numbers l) p

-- A position that was found, or else what comes after.
abbrev pub or_else : ℕ → ℕ → ℕ
or_else zero q = q
or_else (suc p) q = suc p

-- Chains in order: the position in the first chain that has one.
unfoldable pub unknown_place : List ℕ → List (List ℕ) → ℕ
unknown_place numbers [] = 0
unknown_place numbers (ch ∷ chs) = or_else (first_unknown 1 numbers ch) (unknown_place numbers chs)

-- A refusal with this number at that position, or else r.
abbrev pub fault_at : ℕ → ℕ → Refusal → Refusal
fault_at number zero r = r
fault_at number (suc p) r = refusal number (suc p)

-- Order 5: a gap above 1,000 is refused as 5 at place 0, or else r.
unfoldable pub after_gap : ℕ → Refusal → Refusal
after_gap g r = cond (leb g gap_limit) r (refusal 5 0)

-- 8; 5, lowest task, and after the tasks the gap; 6, lowest position in the first chain with a fault. Number 0 at place 0 where there is none.
unfoldable pub fault_of : Schedule → Refusal
fault_of s =
    cond (counts_right s)
    (fault_at 5 (first_fault 1 0 (tasks_in s))
    (after_gap s.gap
    (fault_at 6 (unknown_place (map number_of (tasks_in s)) (chains_in s)) none)))
    (refusal 8 0)

-- What a check answers by that: nothing, or the refusal.
abbrev pub passed : Refusal → Result (Unit {0}) Refusal
passed r = cond (eqb r.number 0) (Ok tt) (Err r)

-- Then 16, a chain number that is not in the schedule.
unfoldable pub choice_of : Schedule → ℕ → Refusal
choice_of s n = cond (eqb (fault_of s).number 0) (cond (count_right n s.chains) none (refusal 16 0)) (fault_of s)

-- The chain with the number n, or the refusal.
unfoldable pub chosen_of : Schedule → ℕ → Result Chain Refusal
chosen_of s n = cond (eqb (choice_of s n).number 0) (Ok (chain_at s n)) (Err (choice_of s n))

-- What an analysis from a schedule answers: the refusal of the choice, or else the answer of the chain that was chosen.
unfoldable pub after_choice : {A : Type 0} → Schedule → ℕ → (Refusal → A) → (Chain → A) → A
after_choice s n refused answer = cond (eqb (choice_of s n).number 0) (answer (chain_at s n)) (refused (choice_of s n))
