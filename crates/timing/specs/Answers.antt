-- Document 01, "Refusals, call by call": what warm-up, walking and ageing answer, refusals included.
use Rattle.std.specs.Prelude.{ℕ, cond, List, ltb, length, Err, Ok, Result}
use Rattle.refusal.specs.declared.Refusal.{Refusal}
use Rattle.refusal.specs.Refusals.{refusal}
use Rattle.task.specs.declared.Task.{Task}
use Rattle.task.specs.declared.Place.{Place}
use Rattle.task.specs.declared.Job.{Job}
use Rattle.chain.specs.declared.Chain.{Chain}
use Rattle.timing.specs.declared.WarmUp.{WarmUp}
use Rattle.chain.specs.Chains.{placed, tasks_of}
use Rattle.ranges.specs.Entries.{entries}
use Rattle.timing.specs.WarmUp.{warm_at, warm_tick}
use Rattle.timing.specs.Delay.{delay_at, first_aged, age_at}
use Rattle.chain.specs.Checks.{verdict_of, verdict_in}

abbrev job : ℕ → Job
job n = record { 0 = n }

-- The upper tick.
abbrev pub upper_tick : ℕ
upper_tick = 1000000000000

-- W1 to Wn, and 0 in the array's entries past the places.
abbrev pub warm_entry : List Place → ℕ → Job
warm_entry l p = cond (ltb p (length l)) (job (warm_at l p)) (job 0)

abbrev pub warm_entries : List Place → List Job
warm_entries l = entries (warm_entry l) 0 12

-- Warm-up answers W1 to Wn, x0 and H, or a refusal alone.
unfoldable pub warm_up_after : List Place → Result ℕ Refusal → Result WarmUp Refusal
warm_up_after l (Ok h) = Ok (record { jobs = warm_entries l; tick = record { 0 = warm_tick l }; hyperperiod = h })
warm_up_after l (Err r) = Err r

abbrev pub warm_up_of : Chain → Result WarmUp Refusal
warm_up_of c = warm_up_after (tasks_of c) (verdict_of c)

-- The same of a gap and a list of tasks, one for each place; so below for walking and ageing.
abbrev pub warm_up_in : ℕ → List Task → Result WarmUp Refusal
warm_up_in g l = warm_up_after (placed g l) (verdict_in g l)

-- A span of ticks that is asked for at tick t and known from tick `from` on: 12, tick too early; 13, tick above the upper tick.
unfoldable pub span_after : Result ℕ Refusal → ℕ → ℕ → ℕ → Result ℕ Refusal
span_after (Ok h) from t span =
    cond (ltb t from) (Err (refusal 12 0)) (cond (ltb upper_tick t) (Err (refusal 13 0)) (Ok span))
span_after (Err r) from t span = Err r

-- Walking: the delay at tick t.
abbrev delay_after : List Place → Result ℕ Refusal → ℕ → Result ℕ Refusal
delay_after l v t = span_after v (warm_tick l) t (delay_at l t)

abbrev pub delay_of : Chain → ℕ → Result ℕ Refusal
delay_of c t = delay_after (tasks_of c) (verdict_of c) t

abbrev pub delay_in : ℕ → List Task → ℕ → Result ℕ Refusal
delay_in g l t = delay_after (placed g l) (verdict_in g l) t

-- Ageing: the age at tick z.
abbrev age_after : List Place → Result ℕ Refusal → ℕ → Result ℕ Refusal
age_after l v z = span_after v (first_aged l) z (age_at l z)

abbrev pub age_of : Chain → ℕ → Result ℕ Refusal
age_of c z = age_after (tasks_of c) (verdict_of c) z

abbrev pub age_in : ℕ → List Task → ℕ → Result ℕ Refusal
age_in g l z = age_after (placed g l) (verdict_in g l) z

-- The check of a tick t that is asked for, as `span_after` has it, where answers are known from tick `from` on.
abbrev pub tick_checked : ℕ → ℕ → Result (Unit {0}) Refusal
tick_checked t from = cond (ltb t from) (Err (refusal 12 0)) (cond (ltb upper_tick t) (Err (refusal 13 0)) (Ok tt))
