use Rattle.std.proofs.Common.{◌≡◌, map, drop}
use Rattle.schedule.specs.Schedules.{places_of}
use Rattle.schedule_checks.specs.Checks.{unknown_place}
use Rattle.schedule_checks.proofs.unknown_place.Given as goal

abbrev pub invariant-loop-route : goal.invariant-loop-route
invariant-loop-route l = unknown_place l.numbers (map places_of l.routes) ≡ unknown_place l.numbers (map places_of (drop l.route-index l.routes))
