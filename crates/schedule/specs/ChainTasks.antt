-- The tasks at the places of a route, and the route with a number.
use Rattle.std.specs.Prelude.{ℕ, zero, suc, ◌-◌, ◌≤◌, ◌≡◌, List, map, length, get_or, take}
use Rattle.std.proofs.Common.{arith, sym, ap, ◌∙◌, length-take, get_or-take, length-take-le}
use Rattle.std.proofs.lemmas.List.{length-map}
use Rattle.task.specs.declared.Task.{Task}
use Rattle.task.specs.Jobs.{place_of}
use Rattle.chain.specs.Chains.{given_of, tasks_of, zero_task}
use Rattle.schedule.specs.declared.NumberedTask.{NumberedTask}
use Rattle.schedule.specs.declared.Route.{Route}
use Rattle.schedule.specs.declared.Schedule.{Schedule}
use Rattle.schedule.specs.Schedules.{places_of, routes_in, task_numbered, no_route, route_numbered, chain_of, padded}
use Rattle.schedule.specs.Padding.{take_padded, length_padded}

-- chain n of a schedule stands in entry n - 1 of its array
pub route_there : (s : Schedule) (n : ℕ) → 1 ≤ n → n ≤ s.chains → route_numbered (routes_in s) n ≡ get_or s.routes (n - 1) no_route
unfolding route_numbered
route_there s zero low high = absurd (omega arith)
route_there s (suc i) low high = let e : suc i - 1 ≡ i = omega arith in rw e (get_or-take s.chains s.routes i no_route (omega arith))

-- `long` holds of every value of the type.
module _ (g : ℕ) (ts : List NumberedTask) (r : Route) (long : length r.places ≡ 12) where
  abbrev at_places : List Task
  at_places = map (task_numbered ts) (places_of r)

  pub chain_twelve : length (chain_of g ts r).tasks ≡ 12
  chain_twelve = length_padded zero_task 12 at_places (omega (arith, length-map (places_of r) (task_numbered ts), length-take r.count r.places))

  -- `few` is what 8 leaves
  module _ (few : r.count ≤ 12) where
    counted : length at_places ≡ r.count
    counted = length-map (places_of r) (task_numbered ts) ∙ length-take-le r.count r.places (omega arith)

    pub chain_tasks : given_of (chain_of g ts r) ≡ map (task_numbered ts) (places_of r)
    chain_tasks = ap (λ (k : ℕ). take k (padded 12 zero_task at_places)) (sym counted) ∙ take_padded zero_task 12 at_places (omega (arith, counted))

    pub chain_length : length (tasks_of (chain_of g ts r)) ≡ r.count
    chain_length = length-map (given_of (chain_of g ts r)) (place_of g) ∙ ap length chain_tasks ∙ counted
