use Prim.Native.Nat.{◌-◌, ◌≤◌, max}
use mathlib.Core.Path.{◌≡◌}
use Rattle.chain.specs.Flat.{tasks_in}
use Rattle.ranges.specs.Largest.{largest}
use Rattle.bookings.specs.Bookings.{apart_at}
use Rattle.bookings.specs.Stretches.{stretch_at}
use Rattle.bookings.proofs.greatest_apart.Given as goal

-- a and b are the stretches at t, and the largest of all is that of what is found and what is left
abbrev pub invariant-loop-t : goal.invariant-loop-t
invariant-loop-t l =
    (l.t.0 ≤ 1000000000000) × (l.a ≡ stretch_at (tasks_in l.gap1 l.first) l.t.0) × (l.b ≡ stretch_at (tasks_in l.gap2 l.second) l.t.0)
    × (largest (apart_at (tasks_in l.gap1 l.first) (tasks_in l.gap2 l.second)) l.initial.t.0 (l.end.0 - l.initial.t.0) ≡ max l.most (largest (apart_at (tasks_in l.gap1 l.first) (tasks_in l.gap2 l.second)) l.t.0 (l.end.0 - l.t.0)))

abbrev pub decreases-loop-t : goal.decreases-loop-t
decreases-loop-t l = l.end.0 - l.t.0
