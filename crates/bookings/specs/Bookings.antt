-- Order 1 of document 02, "A new answer": the booking of a press by each of two chains, their difference, the greatest such difference, and what the call answers.
use Rattle.std.specs.Prelude.{ℕ, ◌-◌, max, min, cond, List, leb, ltb, Err, Ok, Result}
use Rattle.refusal.specs.declared.Refusal.{Refusal}
use Rattle.refusal.specs.Refusals.{refusal}
use Rattle.task.specs.declared.Task.{Task}
use Rattle.task.specs.declared.Place.{Place}
use Rattle.task.specs.declared.Tick.{Tick}
use Rattle.task.specs.Jobs.{write_of}
use Rattle.task.specs.Links.{earliest_after}
use Rattle.euclid.specs.Divisor.{lcm_of}
use Rattle.chain.specs.declared.Chain.{Chain}
use Rattle.chain.specs.Chains.{placed, tasks_of, at, last_place, walk}
use Rattle.chain.specs.Hyperperiod.{hyper_of}
use Rattle.chain.specs.Checks.{verdict_of, verdict_in}
use Rattle.timing.specs.WarmUp.{warm_tick}
use Rattle.timing.specs.Answers.{upper_tick}
use Rattle.ranges.specs.Largest.{largest}
use Rattle.bookings.specs.declared.Bookings.{Bookings}

-- The booking of a press at tick t: "last write of the forward walk". The delay at t is this less t (`delay_booking` in Stretches).
unfoldable pub booking_at : List Place → ℕ → ℕ
booking_at l t = write_of (at l (last_place l)) (walk l (earliest_after (at l 0) t))

-- How far two ticks lie apart: the later less the earlier.
abbrev pub apart_of : ℕ → ℕ → ℕ
apart_of x y = max x y - min x y

-- The difference of the two bookings of a press at t.
unfoldable pub apart_at : List Place → List Place → ℕ → ℕ
apart_at l m t = apart_of (booking_at l t) (booking_at m t)

-- The later of the two warm-up ticks.
abbrev pub pair_warm : List Place → List Place → ℕ
pair_warm l m = max (warm_tick l) (warm_tick m)

-- The common hyperperiod of two chains.
abbrev pub pair_hyper : List Place → List Place → ℕ
pair_hyper l m = lcm_of (hyper_of l) (hyper_of m)

-- "The greatest such difference over one common hyperperiod of ticks from the later warm-up".
-- That a press has it, and that none has more over all time, is `apart_reached` and `apart_of_all` in EveryPress.
unfoldable pub greatest_apart : List Place → List Place → ℕ
greatest_apart l m = largest (apart_at l m) (pair_warm l m) (pair_hyper l m)

-- 7 where the common hyperperiod is above its limit, or else accepted with it.
unfoldable pub common_verdict : ℕ → Result ℕ Refusal
common_verdict h = cond (leb h 60000000) (Ok h) (Err (refusal 7 0))

-- "Its checks run": the first chain's own, the second's own, 7 for the common hyperperiod h;
abbrev pub after_both : Result ℕ Refusal → Result ℕ Refusal → ℕ → Result ℕ Refusal
after_both (Err r) w h = Err r
after_both (Ok a) (Err r) h = Err r
after_both (Ok a) (Ok b) h = common_verdict h

-- here of two lists of tasks, each with its gap. (The two chains of a schedule have the schedule's one gap.)
unfoldable pub pair_verdict : ℕ → List Task → ℕ → List Task → Result ℕ Refusal
pair_verdict g l k m = after_both (verdict_in g l) (verdict_in k m) (pair_hyper (placed g l) (placed k m))

-- The two bookings and the two differences that the call answers.
abbrev pub both_booked : Tick → Tick → ℕ → ℕ → Result Bookings Refusal
both_booked later earlier difference greatest = Ok (record { later = later; earlier = earlier; difference = difference; greatest = greatest })

-- The answer where nothing refuses: the later and the earlier booking, their difference, and the greatest.
abbrev pub both_at : List Place → List Place → ℕ → Result Bookings Refusal
both_at l m t = both_booked (record { 0 = max (booking_at l t) (booking_at m t) }) (record { 0 = min (booking_at l t) (booking_at m t) }) (apart_at l m t) (greatest_apart l m)

-- then 12, a tick before either warm-up; 13, a tick above the upper tick.
unfoldable pub bookings_after : List Place → List Place → ℕ → Result ℕ Refusal → Result Bookings Refusal
bookings_after l m t (Err r) = Err r
bookings_after l m t (Ok h) =
    cond (ltb t (pair_warm l m)) (Err (refusal 12 0)) (cond (ltb upper_tick t) (Err (refusal 13 0)) (both_at l m t))

-- What the call answers of two lists of tasks with their gaps,
abbrev pub bookings_in : ℕ → List Task → ℕ → List Task → ℕ → Result Bookings Refusal
bookings_in g l k m t = bookings_after (placed g l) (placed k m) t (pair_verdict g l k m)

-- and of two chains.
abbrev pub bookings_of : Chain → Chain → ℕ → Result Bookings Refusal
bookings_of c d t = bookings_after (tasks_of c) (tasks_of d) t (after_both (verdict_of c) (verdict_of d) (pair_hyper (tasks_of c) (tasks_of d)))
