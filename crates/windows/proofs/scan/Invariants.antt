use Prim.Native.Nat.{ℕ, ◌+◌, ◌-◌, ◌≤◌, ◌<◌}
use mathlib.Core.Path.{◌≡◌}
use Rattle.chain.specs.Flat.{tasks_in}
use Rattle.ranges.specs.Largest.{largest}
use Rattle.windows.specs.Windows.{misses, misses_in, window_of}
use Rattle.windows.specs.Scan.{Ring}
use Rattle.windows.proofs.scan.Given as goal

-- the jobs from s up to before j are counted, and after a turn they are below the goal
abbrev pub invariant-jobs : goal.invariant-jobs
invariant-jobs l =
    (l.s.0 ≤ l.j.0) × (l.j.0 ≤ l.s.0 + l.k) × (l.i < l.k) × Ring (misses (tasks_in l.gap l.tasks) l.b) l.k l.s.0 l.j.0 l.i l.flags × (l.count ≡ misses_in (misses (tasks_in l.gap l.tasks) l.b) l.s.0 (l.j.0 - l.s.0))
    × (l.initial.j.0 < l.j.0 → l.count < l.goal)

abbrev pub decreases-jobs : goal.decreases-jobs
decreases-jobs l = l.last.0 + l.k + 1 - l.j.0

-- the same, the window of s not being whole; and the windows before s are below the goal
abbrev pub invariant-starts : goal.invariant-starts
invariant-starts l =
    (l.initial.s.0 ≤ l.s.0) × (l.s.0 ≤ l.last.0 + 1) × (l.s.0 ≤ l.j.0) × (l.j.0 < l.s.0 + l.k) × (l.i < l.k) × Ring (misses (tasks_in l.gap l.tasks) l.b) l.k l.s.0 l.j.0 l.i l.flags
    × (l.count ≡ misses_in (misses (tasks_in l.gap l.tasks) l.b) l.s.0 (l.j.0 - l.s.0)) × ((x : ℕ) → l.initial.s.0 ≤ x → x < l.s.0 → window_of (tasks_in l.gap l.tasks) l.b l.k x < l.goal)
    × (l.most ≡ largest (window_of (tasks_in l.gap l.tasks) l.b l.k) l.initial.s.0 (l.s.0 - l.initial.s.0))

abbrev pub decreases-starts : goal.decreases-starts
decreases-starts l = l.last.0 + 1 - l.s.0
