-- Order 10 of document 02: a schedule with "its bound for each chain". "Bounds beyond the chain count are not looked at"; document 01: "Array entries past a count are no part of a schedule or chain."
-- So two such schedules are the same one where they are equal once zeros stand past their counts: exactly where they agree in all that counts (`agree_exactly` in Cleared).
use Rattle.std.specs.Prelude.{ℕ, Bool, true, false, cond, List, [], ◌∷◌, map, eqb, take, replicate}
use Rattle.schedule.specs.declared.NumberedTask.{NumberedTask}
use Rattle.schedule.specs.declared.Route.{Route}
use Rattle.schedule.specs.declared.Schedule.{Schedule}
use Rattle.schedule.specs.Schedules.{tasks_in, places_of, routes_in, padded, zero_numbered, empty_route, empty_schedule}
use Rattle.bounded.specs.declared.Bounded.{Bounded}

-- Zeros past the counts. The counts stay as they are, also where they are above what the arrays hold, so that schedules with other counts are other schedules.
abbrev pub cleared_route : Route → Route
cleared_route r = record { places = padded 12 0 (places_of r); count = r.count }

abbrev pub cleared_schedule : Schedule → Schedule
cleared_schedule s = record { tasks = padded 32 zero_numbered (tasks_in s); routes = padded 4 empty_route (map cleared_route (routes_in s)); count = s.count; chains = s.chains; gap = s.gap }

abbrev pub bounds_in : Bounded → List ℕ
bounds_in b = take b.schedule.chains b.bounds

abbrev pub cleared : Bounded → Bounded
cleared b = record { schedule = cleared_schedule b.schedule; bounds = padded 4 0 (bounds_in b) }

abbrev pub zero_bounded : Bounded
zero_bounded = record { schedule = empty_schedule; bounds = replicate 4 0 }

-- Two lists of one length whose entries pass a test two by two.
unfoldable pub pairwise : {A : Type 0} → (A → A → Bool) → List A → List A → Bool
pairwise f [] [] = true
pairwise f [] (y ∷ b) = false
pairwise f (x ∷ a) [] = false
pairwise f (x ∷ a) (y ∷ b) = cond (f x y) (pairwise f a b) false

-- Whether two are the same, entry by entry: exactly where they are equal (`same_exactly` in proofs/SameLaws).
unfoldable pub same_task : NumberedTask → NumberedTask → Bool
same_task a b =
    cond (eqb a.number b.number)
    (cond (eqb a.task.period b.task.period) (cond (eqb a.task.duration b.task.duration) (eqb a.task.phase b.task.phase) false) false)
    false

unfoldable pub same_route : Route → Route → Bool
same_route a b = cond (eqb a.count b.count) (pairwise eqb a.places b.places) false

unfoldable pub same_schedule : Schedule → Schedule → Bool
same_schedule a b =
    cond (eqb a.count b.count) (cond (eqb a.chains b.chains) (cond (eqb a.gap b.gap)
    (cond (pairwise same_task a.tasks b.tasks) (pairwise same_route a.routes b.routes) false) false) false) false

unfoldable pub same_bounded : Bounded → Bounded → Bool
same_bounded a b = cond (same_schedule a.schedule b.schedule) (pairwise eqb a.bounds b.bounds) false
