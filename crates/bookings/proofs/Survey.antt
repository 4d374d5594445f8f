-- Presses that two chains book, computed from the definitions: tasks (4, 4, 0) and (6, 6, 0) beside task (10, 3, 5).
-- The later warm-up is tick 5 and the common hyperperiod 60; the bookings lie furthest apart, 14 ticks, for a press at 24.
use Rattle.std.specs.Prelude.{ℕ, ◌≡◌, refl, List, [], ◌∷◌, replicate, Err, Result, Ok}
use Rattle.refusal.specs.declared.Refusal.{Refusal}
use Rattle.bookings.specs.declared.Bookings.{Bookings}
use Rattle.task.specs.declared.Task.{Task}
use Rattle.task.specs.Jobs.{within_limits}
use Rattle.task.specs.Links.{earliest_from, latest_over, forward_link, backward_link}
use Rattle.euclid.specs.Divisor.{euclid, gcd_of, lcm_of}
use Rattle.chain.specs.declared.Chain.{Chain}
use Rattle.chain.specs.Chains.{zero_task, forward_by, on_latest, backward_by}
use Rattle.chain.specs.Hyperperiod.{hyper_from}
use Rattle.chain.specs.Checks.{first_fault, hyper_verdict, after_gap, verdict_for}
use Rattle.ranges.specs.Least.{least_from}
use Rattle.timing.specs.WarmUp.{warm_last, warm_at, warm_tick}
use Rattle.ranges.specs.Largest.{largest}
use Rattle.bookings.specs.Bookings.{booking_at, apart_at, greatest_apart, common_verdict, bookings_after, bookings_of}

abbrev task : ℕ → ℕ → ℕ → Task
task t d f = record { period = t; duration = d; phase = f }

abbrev first : Chain
first = record { tasks = task 4 4 0 ∷ task 6 6 0 ∷ replicate 10 zero_task; places = 2; gap = 0 }

abbrev second : Chain
second = record { tasks = task 10 3 5 ∷ replicate 11 zero_task; places = 1; gap = 0 }

-- An answer as plain numbers: of a refusal its number and its place, of a success 0, later, earlier, difference and greatest.
abbrev told : Result Bookings Refusal → List ℕ
told (Ok b) = 0 ∷ b.later.0 ∷ b.earlier.0 ∷ b.difference ∷ b.greatest ∷ []
told (Err r) = r.number ∷ r.place ∷ []

abbrev press : ℕ → List ℕ
press t = told (bookings_of first second t)

unfoldable pub computed : List (List ℕ)
computed = press 4 ∷ press 5 ∷ press 8 ∷ press 12 ∷ press 24 ∷ press 1000000000000 ∷ press 1000000000001 ∷ []

abbrev pub said : List (List ℕ)
said =
    (12 ∷ 0 ∷ [])
    ∷ (0 ∷ 18 ∷ 18 ∷ 0 ∷ 14 ∷ [])
    ∷ (0 ∷ 24 ∷ 18 ∷ 6 ∷ 14 ∷ [])
    ∷ (0 ∷ 30 ∷ 18 ∷ 12 ∷ 14 ∷ [])
    ∷ (0 ∷ 42 ∷ 28 ∷ 14 ∷ 14 ∷ [])
    ∷ (0 ∷ 1000000000014 ∷ 1000000000008 ∷ 6 ∷ 14 ∷ [])
    ∷ (13 ∷ 0 ∷ [])
    ∷ []

pub survey : computed ≡ said
unfolding computed within_limits earliest_from latest_over forward_link backward_link euclid gcd_of lcm_of forward_by on_latest backward_by hyper_from first_fault hyper_verdict after_gap verdict_for least_from warm_last warm_at warm_tick largest booking_at apart_at greatest_apart common_verdict bookings_after
survey = refl
