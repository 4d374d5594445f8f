-- Entries past a count are not looked at: of a schedule with bounds the judge says what it says of the same with zeros past its counts (`judged_cleared`).
use Rattle.std.specs.Prelude.{ℕ, ◌≡◌, refl, cond, List, [], ◌∷◌, map, leb, eqb}
use Rattle.std.proofs.Common.{sym, ap, ◌∙◌}
use Rattle.refusal.specs.declared.Refusal.{Refusal}
use Rattle.refusal.specs.Refusals.{refusal, none}
use Rattle.chain.specs.declared.Chain.{Chain}
use Rattle.chain.specs.Chains.{zero_task}
use Rattle.schedule.specs.declared.NumberedTask.{NumberedTask}
use Rattle.schedule.specs.declared.Route.{Route}
use Rattle.schedule.specs.declared.Schedule.{Schedule}
use Rattle.schedule.specs.Schedules.{tasks_in, places_of, count_of, routes_in, chains_in, chain_of, task_numbered, padded}
use Rattle.schedule_checks.specs.Checks.{fault_of}
use Rattle.schedule_checks.proofs.SameSchedule.{SameSchedule, fault_same}
use Rattle.bounded.specs.declared.Bounded.{Bounded}
use Rattle.bounded.specs.Bounded.{bounds_in, pairwise, cleared_schedule, cleared}
use Rattle.bounded.specs.Cleared.{BoundedArrays, cleared_same, bounds_stay}
use Rattle.promises.specs.Promises.{Judged, chains_of, hyper_refusal, checks_of, chain_latency, refused_with, judged_of}

-- the chains by what is looked at: the numbers of places and the task numbers of each
chains_by : ℕ → List NumberedTask → List ℕ → List (List ℕ) → List Chain
chains_by g ts [] chs = []
chains_by g ts (n ∷ ns) [] = []
chains_by g ts (n ∷ ns) (ch ∷ chs) = record { tasks = padded 12 zero_task (map (task_numbered ts) ch); places = n; gap = g } ∷ chains_by g ts ns chs

chains_by_holds : (g : ℕ) (ts : List NumberedTask) (rs : List Route) → map (chain_of g ts) rs ≡ chains_by g ts (map count_of rs) (map places_of rs)
unfolding chains_by
chains_by_holds g ts [] = refl
chains_by_holds g ts (r ∷ rs) = ap (λ (l : List Chain). chain_of g ts r ∷ l) (chains_by_holds g ts rs)

pub chains_same : (s t : Schedule) → SameSchedule s t → chains_of s ≡ chains_of t
chains_same s t e =
    chains_by_holds s.gap (tasks_in s) (routes_in s)
    ∙ ap (λ (g : ℕ). chains_by g (tasks_in s) (map count_of (routes_in s)) (chains_in s)) e.gap
    ∙ ap (λ (ts : List NumberedTask). chains_by t.gap ts (map count_of (routes_in s)) (chains_in s)) e.tasks
    ∙ ap (λ (ns : List ℕ). chains_by t.gap (tasks_in t) ns (chains_in s)) e.places
    ∙ ap (chains_by t.gap (tasks_in t) (map count_of (routes_in t))) e.numbers
    ∙ sym (chains_by_holds t.gap (tasks_in t) (routes_in t))

-- the judge by what is looked at
judged_by : Refusal → List Chain → List ℕ → Judged
judged_by f cs bs = by_checks (cond (eqb f.number 0) (hyper_refusal cs) f)
  where
    by_checks : Refusal → Judged
    by_checks r = cond (eqb r.number 0) (cond (pairwise leb (map chain_latency cs) bs) (record { refusal = none; latencies = padded 4 0 (map chain_latency cs) }) (refused_with (refusal 21 0))) (refused_with r)

judged_by_holds : (b : Bounded) → judged_of b ≡ judged_by (fault_of b.schedule) (chains_of b.schedule) (bounds_in b)
unfolding judged_of checks_of judged_by
judged_by_holds b = refl

pub judged_cleared : (b : Bounded) → BoundedArrays b → judged_of (cleared b) ≡ judged_of b
judged_cleared b a =
    let s = b.schedule in
    let same = cleared_same s a.schedule in
    judged_by_holds (cleared b)
    ∙ ap (λ (f : Refusal). judged_by f (chains_of (cleared_schedule s)) (bounds_in (cleared b))) (fault_same (cleared_schedule s) s same)
    ∙ ap (λ (cs : List Chain). judged_by (fault_of s) cs (bounds_in (cleared b))) (chains_same (cleared_schedule s) s same)
    ∙ ap (judged_by (fault_of s) (chains_of s)) (bounds_stay b a)
    ∙ sym (judged_by_holds b)
