-- Document 02, order 9: "Given a schedule, a chain, a task number and a bound, answer the smallest phase from 0 to period − 1 with which the chain's greatest latency is at most the bound, or `none`
-- exactly when there is no such phase." That the answer is that phase, and `none` exactly where there is none, is said in Smallest.
use Rattle.std.specs.Prelude.{ℕ, Bool, cond, List, map, ltb, leb, eqb, Err, None, Ok, Option, Result, Some}
use Rattle.refusal.specs.declared.Refusal.{Refusal}
use Rattle.refusal.specs.Refusals.{refusal}
use Rattle.ranges.specs.Least.{least_from}
use Rattle.task.specs.declared.Task.{Task}
use Rattle.chain.specs.declared.Chain.{Chain}
use Rattle.chain.specs.Chains.{tasks_of}
use Rattle.chain.specs.Checks.{verdict_of}
use Rattle.schedule.specs.declared.NumberedTask.{NumberedTask}
use Rattle.schedule.specs.declared.Schedule.{Schedule}
use Rattle.schedule.specs.Schedules.{tasks_in, places_of, routes_in, known, task_numbered, route_numbered, chain_at}
use Rattle.schedule_checks.specs.Checks.{after_choice}
use Rattle.latency.specs.Latency.{greatest_latency}

-- A task with phase F.
abbrev pub phased : ℕ → Task → Task
phased F a = record { period = a.period; duration = a.duration; phase = F }

-- A schedule's task, with phase F where it has this number.
abbrev pub with_phase : ℕ → ℕ → NumberedTask → NumberedTask
with_phase number F t = cond (eqb t.number number) (record { number = t.number; task = phased F t.task }) t

-- The schedule whose task with this number has phase F. "Every place filled by that task moves." (Entries past the count are changed too, which are no part of a schedule.)
abbrev pub moved : Schedule → ℕ → ℕ → Schedule
moved s number F = record { tasks = map (with_phase number F) s.tasks; routes = s.routes; count = s.count; chains = s.chains; gap = s.gap }

-- Phase F is one "with which the chain's greatest latency is at most the bound", chain n of the schedule.
abbrev pub keeps_bound : Schedule → ℕ → ℕ → ℕ → ℕ → Bool
keeps_bound s n number bound F = leb (greatest_latency (tasks_of (chain_at (moved s number F) n))) bound

-- A search of the phases from 0 to period − 1 that ended at F: it ended before the period, or there is none.
abbrev pub found_at : ℕ → ℕ → Result (Option ℕ) Refusal
found_at period F = cond (ltb F period) (Ok (Some F)) (Ok None)

-- The smallest phase from 0 to period − 1 that passes a test, or none.
abbrev pub smallest_of : (ℕ → Bool) → ℕ → Result (Option ℕ) Refusal
smallest_of test period = found_at period (least_from test 0 period)

-- The period of the task with this number.
abbrev pub period_of : Schedule → ℕ → ℕ
period_of s number = (task_numbered (tasks_in s) number).period

-- The task numbers at the places of chain n.
abbrev pub places_at : Schedule → ℕ → List ℕ
places_at s n = places_of (route_numbered (routes_in s) n)

-- "After the chain's checks, a task not in the chain is refused with 19 and a period above 10,000 with 20."
unfoldable pub phase_after : Schedule → ℕ → ℕ → ℕ → Result ℕ Refusal → Result (Option ℕ) Refusal
phase_after s n number bound (Err r) = Err r
phase_after s n number bound (Ok h) =
    cond (known (places_at s n) number)
    (cond (leb (period_of s number) 10000) (smallest_of (keeps_bound s n number bound) (period_of s number)) (Err (refusal 20 0)))
    (Err (refusal 19 0))

-- The call. First the checks of an analysis from a schedule, orders 1 and 5: 8, 5 and 6 of the schedule, 16 of the chain number; then the chain's own, of which 7 is left.
abbrev pub phase_from : Schedule → ℕ → ℕ → ℕ → Result (Option ℕ) Refusal
phase_from s n number bound = after_choice s n Err (λ (c : Chain). phase_after s n number bound (verdict_of c))
