-- Every refusal of the bookings of two chains fits one number.
use Rattle.std.specs.Prelude.{Err, Ok, Result}
use Prim.Native.Nat.{ℕ, ◌≤◌, ◌<◌}
use native.Mathlib.Omega.{arith}
use mathlib.Core.Bool.{Bool, true, false, cond}
use mathlib.Core.List.{List}
use lib.Dec.{leb, ltb, eqb}
use Rattle.refusal.specs.declared.Refusal.{Refusal}
use Rattle.bookings.specs.declared.Bookings.{Bookings}
use Rattle.refusal.specs.Refusals.{refusal}
use Rattle.task.specs.declared.Place.{Place}
use Rattle.chain.specs.declared.Chain.{Chain}
use Rattle.chain.specs.Checks.{verdict_of}
use Rattle.chain.proofs.CheckLaws.{SmallVerdict, verdict_small}
use Rattle.schedule.specs.declared.Schedule.{Schedule}
use Rattle.schedule.specs.Schedules.{chain_at}
use Rattle.schedule_checks.specs.Checks.{choice_of, after_choice}
use Rattle.schedule_checks.proofs.Positions.{choice_small}
use Rattle.timing.specs.Answers.{upper_tick}
use Rattle.bookings.specs.Bookings.{pair_warm, common_verdict, after_both, both_at, bookings_after, bookings_of}
use Rattle.from_schedule.specs.Answers.{bookings_from}

-- what `code` asks of a refusal
abbrev pub SmallBookings : Result Bookings Refusal → Type 0
SmallBookings (Ok b) = Unit {0}
SmallBookings (Err r) = (r.number < 256) × (r.place ≤ 1000000000)

-- ---- of two chains

common_small : (h : ℕ) → SmallVerdict (common_verdict h)
unfolding common_verdict
common_small h = go (leb h 60000000)
  where
    go : (x : Bool) → SmallVerdict (cond x (Ok h) (Err (refusal 7 0)))
    go true = tt
    go false = (omega arith, omega arith, omega arith)

both_small : (v w : Result ℕ Refusal) (h : ℕ) → SmallVerdict v → SmallVerdict w → SmallVerdict (after_both v w h)
both_small (Err r) w h a b = a
both_small (Ok n) (Err r) h a b = b
both_small (Ok n) (Ok m) h a b = common_small h

after_small : (l m : List Place) (t : ℕ) (v : Result ℕ Refusal) → SmallVerdict v → SmallBookings (bookings_after l m t v)
unfolding bookings_after
after_small l m t (Err r) s = (s.0, omega (arith, s.1))
after_small l m t (Ok h) s = go (ltb t (pair_warm l m)) (ltb upper_tick t)
  where
    go : (x y : Bool) → SmallBookings (cond x (Err (refusal 12 0)) (cond y (Err (refusal 13 0)) (both_at l m t)))
    go true y = (omega arith, omega arith)
    go false true = (omega arith, omega arith)
    go false false = tt

pair_small : (c d : Chain) (t : ℕ) → SmallBookings (bookings_of c d t)
pair_small c d t = after_small _ _ t _ (both_small (verdict_of c) (verdict_of d) _ (verdict_small c) (verdict_small d))

-- ---- of a schedule: what a choice of a chain answers is small where each chain's answer is

chosen_small : (s : Schedule) (n : ℕ) (answer : Chain → Result Bookings Refusal) → ((c : Chain) → SmallBookings (answer c)) → SmallBookings (after_choice s n Err answer)
unfolding after_choice
chosen_small s n answer h = go (eqb (choice_of s n).number 0)
  where
    go : (x : Bool) → SmallBookings (cond x (answer (chain_at s n)) (Err (choice_of s n)))
    go true = h (chain_at s n)
    go false = let k = choice_small s n in (omega (arith, k.number), omega (arith, k.place))

pub from_small : (s : Schedule) (first second t : ℕ) → SmallBookings (bookings_from s first second t)
from_small s first second t = chosen_small s first _ (λ c. chosen_small s second _ (λ d. pair_small c d t))
