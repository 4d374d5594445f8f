-- Default values, which a program knows field by field, are the zeros of the specifications.
use Rattle.std.proofs.Common.{ℕ, ◌≡◌, ◌∙◌, sym, ap, arith, List, replicate}
use Rattle.std.specs.Array.{AllOfLen}
use Rattle.std.proofs.lemmas.List.{same_lists, get_or-replicate, length-replicate}
use Rattle.task.specs.declared.Task.{Task}
use Rattle.chain.specs.Chains.{zero_task}
use Rattle.schedule.specs.declared.NumberedTask.{NumberedTask}
use Rattle.schedule.specs.declared.Route.{Route}
use Rattle.schedule.specs.declared.Schedule.{Schedule}
use Rattle.schedule.specs.Schedules.{zero_numbered, empty_route, empty_schedule}

-- an array of entries that are all one value
entries_same : {A : Type 0} (P : A → Type 0) (v : A) (xs : List A) (n : ℕ) → ((x : A) → P x → x ≡ v) → AllOfLen P xs n → xs ≡ replicate n v
entries_same P v xs n is all =
    let long = all.long in
    same_lists xs (replicate n v) (long ∙ sym (length-replicate n v)) (λ k d h. is _ (all.at k d (omega arith)) ∙ sym (get_or-replicate n k v d (omega arith)))

abbrev task_of : ℕ → ℕ → ℕ → Task
task_of period duration phase = record { period = period; duration = duration; phase = phase }

abbrev pub TaskZeros : Task → Type 0
TaskZeros t = (t.period ≡ 0) × ((t.duration ≡ 0) × (t.phase ≡ 0))

pub task_zeros : (t : Task) → TaskZeros t → t ≡ zero_task
task_zeros t h = ap (λ (x : ℕ). task_of x t.duration t.phase) h.0 ∙ ap (λ (x : ℕ). task_of 0 x t.phase) h.1.0 ∙ ap (task_of 0 0) h.1.1

abbrev numbered_of : ℕ → Task → NumberedTask
numbered_of number task = record { number = number; task = task }

abbrev pub NumberedZeros : NumberedTask → Type 0
NumberedZeros t = (t.number ≡ 0) × TaskZeros t.task

pub numbered_zeros : (t : NumberedTask) → NumberedZeros t → t ≡ zero_numbered
numbered_zeros t h = ap (λ (x : ℕ). numbered_of x t.task) h.0 ∙ ap (numbered_of 0) (task_zeros t.task h.1)

abbrev route_of : List ℕ → ℕ → Route
route_of places count = record { places = places; count = count }

abbrev pub RouteZeros : Route → Type 0
RouteZeros r = (AllOfLen (λ (x : ℕ). x ≡ 0) r.places 12) × (r.count ≡ 0)

pub route_zeros : (r : Route) → RouteZeros r → r ≡ empty_route
route_zeros r h = ap (λ (l : List ℕ). route_of l r.count) (entries_same (λ (x : ℕ). x ≡ 0) 0 r.places 12 (λ x e. e) h.0) ∙ ap (route_of (replicate 12 0)) h.1

abbrev schedule_of : List NumberedTask → List Route → ℕ → ℕ → ℕ → Schedule
schedule_of tasks routes count chains gap = record { tasks = tasks; routes = routes; count = count; chains = chains; gap = gap }

abbrev pub ScheduleZeros : Schedule → Type 0
ScheduleZeros s = (AllOfLen NumberedZeros s.tasks 32) × ((AllOfLen RouteZeros s.routes 4) × ((s.count ≡ 0) × ((s.chains ≡ 0) × (s.gap ≡ 0))))

pub schedule_zeros : (s : Schedule) → ScheduleZeros s → s ≡ empty_schedule
schedule_zeros s h =
    ap (λ (x : List NumberedTask). schedule_of x s.routes s.count s.chains s.gap) (entries_same NumberedZeros zero_numbered s.tasks 32 numbered_zeros h.0)
    ∙ ap (λ (x : List Route). schedule_of (replicate 32 zero_numbered) x s.count s.chains s.gap) (entries_same RouteZeros empty_route s.routes 4 route_zeros h.1.0)
    ∙ ap (λ (x : ℕ). schedule_of (replicate 32 zero_numbered) (replicate 4 empty_route) x s.chains s.gap) h.1.1.0
    ∙ ap (λ (x : ℕ). schedule_of (replicate 32 zero_numbered) (replicate 4 empty_route) 0 x s.gap) h.1.1.1.0
    ∙ ap (schedule_of (replicate 32 zero_numbered) (replicate 4 empty_route) 0 0) h.1.1.1.1
