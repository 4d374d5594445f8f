-- The arrays of a schedule, and those inside its routes, have their lengths, as owning the schedule tells.
use Prim.Native.Nat.{ℕ, zero, suc, ◌<◌}
use native.Mathlib.Omega.{arith}
use mathlib.Core.Path.{◌≡◌}
use mathlib.Core.List.{List, [], ◌∷◌}
use lib.ListN.{length, get_or}
use mir.Val.{Val}
use denote.Shadow.{shadow}
use denote.Array.{each}
use Rattle.schedule.specs.declared.Route.{Route}
use Rattle.schedule.specs.declared.Schedule.{Schedule}
use Rattle.schedule.specs.Schedules.{no_route}
use Rattle.schedule.specs.Arrays.{Arrays}
use Rattle.schedule.specs.contracts.Route as route
use Rattle.schedule.specs.contracts.Schedule as schedule

one_twelve : (r : Route) (vs : List Val) → shadow ((route.the_row).own_val r vs) → length r.places ≡ 12
one_twelve r vs s = s.1.1.0.1.0.1

each_twelve : (rs : List Route) (us : List Val) → shadow (each (route.the_row).Denot (route.the_row).own_val rs us) → (i : ℕ) → i < length rs → length (get_or rs i no_route).places ≡ 12
each_twelve [] us s i h = absurd (omega arith)
each_twelve (r ∷ rs) [] s i h = absurd s
each_twelve (r ∷ rs) (u ∷ us) s zero h = one_twelve r (u ∷ []) s.0
each_twelve (r ∷ rs) (u ∷ us) s (suc i) h = each_twelve rs us s.1 i (omega arith)

pub arrays : (s : Schedule) (vs : List Val) → shadow ((schedule.the_field).row.own_val ((schedule.the_field).into s) vs) → Arrays s
arrays s vs o =
    let n : length s.routes ≡ 4 = o.1.1.1.0.1.0.1 in
    record { tasks = o.1.1.0.1.0.1; routes = n; places = λ i h. each_twelve s.routes _ o.1.1.1.0.1.1 i (omega (arith, n)) }
