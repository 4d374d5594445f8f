-- A schedule as C gives it: the flat list number, T, D, F, .. of its tasks with their count, the list of its chains' task numbers, twelve entries a chain,
-- the list of their numbers of places with the count of chains, and the gap.
use Rattle.std.specs.Prelude.{ℕ, ◌+◌, ◌-◌, ◌*◌, ◌/◌, ◌%◌, cond, ◌&&◌, List, [], ◌∷◌, leb, eqb, length, get_or}
use Rattle.chain.specs.Flat.{flat_of}
use Rattle.ranges.specs.Entries.{entries}
use Rattle.schedule.specs.declared.NumberedTask.{NumberedTask}
use Rattle.schedule.specs.declared.Route.{Route}
use Rattle.schedule.specs.declared.Schedule.{Schedule}
use Rattle.schedule.specs.Schedules.{zero_numbered, no_route}

-- Task i of the list, zeros where the list does not hold it whole.
unfoldable pub numbered_at : List ℕ → ℕ → NumberedTask
numbered_at l i =
    cond (leb (4 * i + 4) (length l))
    (record { number = get_or l (4 * i) 0; task = record { period = get_or l (4 * i + 1) 0; duration = get_or l (4 * i + 2) 0; phase = get_or l (4 * i + 3) 0 } })
    zero_numbered

abbrev pub tasks_from : List ℕ → List NumberedTask
tasks_from l = entries (numbered_at l) 0 32

-- A list whose length is no multiple of four, or that holds fewer tasks than are counted, gives a schedule of no tasks, which 8 refuses.
unfoldable pub count_from : ℕ → ℕ → ℕ
count_from long count = cond (eqb (long % 4) 0 && leb count (long / 4)) count 0

-- A count, or none where a list of so many entries does not hold that many; so 8 there too.
unfoldable pub held_from : ℕ → ℕ → ℕ
held_from long count = cond (leb count long) count 0

-- The numbers of chain c, c from 0, stand from entry 12 c on; 0 past the list's end.
abbrev pub place_from : List ℕ → ℕ → ℕ → ℕ
place_from chains from i = get_or chains (from + i) 0

abbrev pub places_from : List ℕ → ℕ → List ℕ
places_from chains from = entries (place_from chains from) 0 12

-- How many places it has stands in entry c of the other list.
abbrev pub route_from : List ℕ → List ℕ → ℕ → Route
route_from chains places c = record { places = places_from chains (12 * c); count = held_from (length chains - 12 * c) (get_or places c 0) }

abbrev pub routes_from : List ℕ → List ℕ → List Route
routes_from chains places = entries (route_from chains places) 0 4

-- The schedule of the lists, their counts and the gap.
abbrev pub schedule_from : List ℕ → ℕ → List ℕ → List ℕ → ℕ → ℕ → Schedule
schedule_from tasks count chains places total gap = record {
  tasks = tasks_from tasks;
  routes = routes_from chains places;
  count = count_from (length tasks) count;
  chains = held_from (length places) total;
  gap = gap;
}

-- number, T, D, F of a schedule's task.
abbrev pub numbered_fields : NumberedTask → List ℕ
numbered_fields t = t.number ∷ t.task.period ∷ t.task.duration ∷ t.task.phase ∷ []

abbrev pub flat_tasks : List NumberedTask → List ℕ
flat_tasks ts = flat_of numbered_fields ts

-- Place i of chain c stands in entry 12 c + i.
abbrev pub place_in : List Route → ℕ → ℕ
place_in rs i = get_or (get_or rs (i / 12) no_route).places (i % 12) 0

abbrev pub flat_routes : List Route → List ℕ
flat_routes rs = entries (place_in rs) 0 48

-- The number of places of chain c stands in entry c.
abbrev pub count_in : List Route → ℕ → ℕ
count_in rs c = (get_or rs c no_route).count

abbrev pub route_counts : List Route → List ℕ
route_counts rs = entries (count_in rs) 0 4
