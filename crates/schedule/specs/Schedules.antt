-- Document 01, "Tasks and jobs" and "Schedule file", with orders 1 and 5 of document 02: the tasks of a schedule with their numbers, its chains, the tasks at their places, and its gap.
use Rattle.std.specs.Prelude.{ℕ, zero, suc, Bool, true, false, cond, ◌&&◌, List, [], ◌∷◌, map, ltb, leb, eqb, length, get_or, take, replicate}
use Rattle.task.specs.declared.Task.{Task}
use Rattle.task.specs.Jobs.{within_limits}
use Rattle.chain.specs.declared.Chain.{Chain}
use Rattle.chain.specs.Chains.{zero_task}
use Rattle.schedule.specs.declared.NumberedTask.{NumberedTask}
use Rattle.schedule.specs.declared.Route.{Route}
use Rattle.schedule.specs.declared.Schedule.{Schedule}

abbrev pub number_of : NumberedTask → ℕ
number_of t = t.number

-- The tasks of a schedule. Array entries past a count are no part of it.
abbrev pub tasks_in : Schedule → List NumberedTask
tasks_in s = take s.count s.tasks

-- Its chains: the task numbers at the places of each.
abbrev pub places_of : Route → List ℕ
places_of r = take r.count r.places

abbrev pub count_of : Route → ℕ
count_of r = r.count

abbrev pub routes_in : Schedule → List Route
routes_in s = take s.chains s.routes

abbrev pub chains_in : Schedule → List (List ℕ)
chains_in s = map places_of (routes_in s)

-- The rule of a task's number and values, `before` being the number of the task before it, 0 for the first task:
-- numbers from 1 to 65,535 that rise strictly, and a period, duration and phase inside their limits.
unfoldable pub task_rule : ℕ → NumberedTask → Bool
task_rule before t = ltb before t.number && (leb t.number 65535 && within_limits t.task)

-- Where a number stands first in a list, counted from 0; the list's length where it does not.
unfoldable pub position_of : ℕ → List ℕ → ℕ
position_of n [] = 0
position_of n (m ∷ l) = cond (eqb m n) 0 (suc (position_of n l))

-- A number is one of a list's, as of the numbers of tasks.
unfoldable pub known : List ℕ → ℕ → Bool
known [] n = false
known (m ∷ l) n = cond (eqb m n) true (known l n)

-- The lesser of two numbers.
abbrev pub least : ℕ → ℕ → ℕ
least m n = cond (ltb m n) m n

-- The task with a number; zeros where there is none.
unfoldable pub task_numbered : List NumberedTask → ℕ → Task
task_numbered [] n = zero_task
task_numbered (t ∷ l) n = cond (eqb t.number n) t.task (task_numbered l n)

-- A list as an array of n entries: what is past the list is d.
unfoldable pub padded : {A : Type 0} → ℕ → A → List A → List A
padded zero d l = l
padded (suc n) d [] = d ∷ padded n d []
padded (suc n) d (x ∷ l) = x ∷ padded n d l

-- The chain of a route among tasks: the tasks at its places. Order 5: a schedule has one gap, g, for every link of every chain.
abbrev pub chain_of : ℕ → List NumberedTask → Route → Chain
chain_of g ts r = record { tasks = padded 12 zero_task (map (task_numbered ts) (places_of r)); places = r.count; gap = g }

-- No chain: no places.
abbrev pub no_route : Route
no_route = record { places = []; count = 0 }

-- The chain with the number n, counted from 1; none where there is none.
unfoldable pub route_numbered : List Route → ℕ → Route
route_numbered rs zero = no_route
route_numbered rs (suc i) = get_or rs i no_route

abbrev pub chain_at : Schedule → ℕ → Chain
chain_at s n = chain_of s.gap (tasks_in s) (route_numbered (routes_in s) n)

abbrev pub zero_numbered : NumberedTask
zero_numbered = record { number = 0; task = zero_task }

-- The schedule of a list of tasks, a list of chains and a gap: zeros past the counts.
abbrev pub empty_route : Route
empty_route = record { places = replicate 12 0; count = 0 }

abbrev pub route_of : List ℕ → Route
route_of ch = record { places = padded 12 0 ch; count = length ch }

abbrev pub schedule_of : List NumberedTask → List (List ℕ) → ℕ → Schedule
schedule_of ts chs g = record { tasks = padded 32 zero_numbered ts; routes = padded 4 empty_route (map route_of chs); count = length ts; chains = length chs; gap = g }

-- A schedule of zeros.
abbrev pub empty_schedule : Schedule
empty_schedule = record { tasks = replicate 32 zero_numbered; routes = replicate 4 empty_route; count = 0; chains = 0; gap = 0 }
