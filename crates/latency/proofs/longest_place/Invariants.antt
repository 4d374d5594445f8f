use mathlib.Core.Path.{◌≡◌}
use lib.ListN.{length, drop}
use Rattle.chain.specs.Flat.{tasks_in}
use Rattle.latency.specs.LongestPlace.{longest_place}
use Rattle.latency.proofs.Longest.{pick}
use Rattle.latency.proofs.longest_place.Given as goal

abbrev pub invariant-loop-i : goal.invariant-loop-i
invariant-loop-i l = (l.i-end ≡ length (tasks_in l.gap l.tasks)) × (longest_place (tasks_in l.gap l.tasks) ≡ pick l.longest l.place l.i (drop l.i (tasks_in l.gap l.tasks)))
