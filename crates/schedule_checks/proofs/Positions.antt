-- The number and the position of a schedule's refusal are small.
use Rattle.std.specs.Prelude.{ℕ, zero, suc, ◌+◌, ◌≤◌, ◌≡◌, refl, Bool, true, false, cond, List, [], ◌∷◌, map, leb, eqb, length}
use Rattle.std.proofs.Common.{arith, length-take}
use Rattle.refusal.specs.declared.Refusal.{Refusal}
use Rattle.refusal.specs.Refusals.{refusal, none}
use Rattle.task.specs.Jobs.{gap_limit}
use Rattle.schedule.specs.declared.NumberedTask.{NumberedTask}
use Rattle.schedule.specs.declared.Route.{Route}
use Rattle.schedule.specs.declared.Schedule.{Schedule}
use Rattle.schedule.specs.Schedules.{number_of, tasks_in, places_of, routes_in, chains_in, task_rule, known}
use Rattle.schedule_checks.specs.Checks.{count_right, places_right, counts_right, first_fault, first_unknown, or_else, unknown_place, fault_at, after_gap, fault_of, choice_of}
use Rattle.schedule_checks.proofs.SoundSchedule.{placed_cons, counted}

pub record SmallFault (r : Refusal) : Type 0 where
  pub number : r.number ≤ 16
  pub place : r.place ≤ 100

-- a choice between what a list has further on and a position p
further : (b : Bool) (n p m : ℕ) → n ≤ p + 1 + m → cond b n p ≤ p + suc m
further true n p m h = omega arith
further false n p m h = omega arith

fault_low : (p before : ℕ) (ts : List NumberedTask) → first_fault p before ts ≤ p + length ts
unfolding first_fault
fault_low p before [] = omega arith
fault_low p before (t ∷ ts) = further (task_rule before t) (first_fault (p + 1) t.number ts) p (length ts) (fault_low (p + 1) t.number ts)

unknown_low : (p : ℕ) (ns ch : List ℕ) → first_unknown p ns ch ≤ p + length ch
unfolding first_unknown
unknown_low p ns [] = omega arith
unknown_low p ns (n ∷ ch) = further (known ns n) (first_unknown (p + 1) ns ch) p (length ch) (unknown_low (p + 1) ns ch)

either_low : (p q m : ℕ) → p ≤ m → q ≤ m → or_else p q ≤ m
either_low zero q m a b = b
either_low (suc p) q m a b = a

place_low : (ns : List ℕ) (rs : List Route) → places_right rs ≡ true → unknown_place ns (map places_of rs) ≤ 13
unfolding unknown_place
place_low ns [] h = omega arith
place_low ns (r ∷ rs) h =
    let k = placed_cons r rs h in
    either_low (first_unknown 1 ns (places_of r)) (unknown_place ns (map places_of rs)) 13 (omega (arith, unknown_low 1 ns (places_of r), length-take r.count r.places, k.1)) (place_low ns rs k.2)

after_small : (k p : ℕ) (r : Refusal) → k ≤ 16 → p ≤ 100 → SmallFault r → SmallFault (fault_at k p r)
after_small k zero r a b h = h
after_small k (suc p) r a b h = record { number = a; place = b }

gap_small : (g : ℕ) (r : Refusal) → SmallFault r → SmallFault (after_gap g r)
unfolding after_gap
gap_small g r h = go (leb g gap_limit)
  where
    go : (b : Bool) → SmallFault (cond b r (refusal 5 0))
    go true = h
    go false = record { number = omega arith; place = omega arith }

pub fault_small : (s : Schedule) → SmallFault (fault_of s)
unfolding fault_of
fault_small s = go (counts_right s) refl
  where
    go : (b : Bool) → counts_right s ≡ b
        → SmallFault (cond b (fault_at 5 (first_fault 1 0 (tasks_in s)) (after_gap s.gap (fault_at 6 (unknown_place (map number_of (tasks_in s)) (chains_in s)) none))) (refusal 8 0))
    go false e = record { number = omega arith; place = omega arith }
    go true e =
        let k = counted s e in
        after_small 5 (first_fault 1 0 (tasks_in s)) _ (omega arith) (omega (arith, fault_low 1 0 (tasks_in s), length-take s.count s.tasks, k.few))
        (gap_small s.gap _
        (after_small 6 (unknown_place (map number_of (tasks_in s)) (chains_in s)) none (omega arith) (omega (arith, place_low (map number_of (tasks_in s)) (routes_in s) k.placed)) (record { number = omega arith; place = omega arith })))

pub choice_small : (s : Schedule) (n : ℕ) → SmallFault (choice_of s n)
unfolding choice_of
choice_small s n = go (eqb (fault_of s).number 0) (count_right n s.chains)
  where
    go : (a b : Bool) → SmallFault (cond a (cond b none (refusal 16 0)) (fault_of s))
    go true true = record { number = omega arith; place = omega arith }
    go true false = record { number = omega arith; place = omega arith }
    go false b = fault_small s
