-- The code's forms of the closed formulas, which never overflow, are those of the definitions.
use Rattle.std.specs.Prelude.{None, Some}
use Prim.Native.Nat.{ℕ, ◌+◌, ◌-◌, ◌/◌, ◌≤◌, ◌<◌}
use native.Mathlib.Omega.{arith}
use native.Mathlib.Nat.{add-div_right, div-eq_of_lt}
use mathlib.Core.Path.{◌≡◌, sym, ap, ◌∙◌}
use borrow.Author.Tests.{le-leb, lt-leb}
use Rattle.task.specs.declared.Task.{Task}
use Rattle.task.specs.declared.Place.{Place}
use lib.Dec.{leb}
use Rattle.task.specs.Jobs.{within_limits}
use Rattle.task.specs.Links.{earliest_from, latest_over}

module _ (a : Place) (pos : 1 ≤ a.period) where
  pub earliest_zero : (w : ℕ) → w ≤ a.phase → 0 ≡ earliest_from a w
  unfolding earliest_from
  earliest_zero w h = sym (div-eq_of_lt (omega arith))

  pub earliest_past : (w n : ℕ) → a.phase < w → n ≡ w - a.phase - 1 → n / a.period + 1 ≡ earliest_from a w
  unfolding earliest_from
  earliest_past w n h e =
      let s : w - a.phase + (a.period - 1) ≡ n + a.period = omega arith in
      sym (ap (λ (x : ℕ). x / a.period) s ∙ add-div_right n pos)

pub latest_none : (a : Place) (d z : ℕ) → z < a.phase + d → None ≡ latest_over a d z
unfolding latest_over
latest_none a d z h = rw (lt-leb (a.phase + d) z h)

pub latest_some : (a : Place) (d z n : ℕ) → a.phase + d ≤ z → n ≡ z - a.phase - d → Some (record { 0 = n / a.period }) ≡ latest_over a d z
unfolding latest_over
latest_some a d z n h e =
    let s : n ≡ z - (a.phase + d) = omega arith in
    rw (le-leb (a.phase + d) z h, s)

-- past the other four tests only the phase is left
pub phase_left : (a : Task) → 1 ≤ a.period → a.period ≤ 1000000 → 1 ≤ a.duration → a.duration ≤ 4000000 → leb a.phase 1000000 ≡ within_limits a
unfolding within_limits
phase_left a t u d e = rw (le-leb 1 a.period t, le-leb a.period 1000000 u, le-leb 1 a.duration d, le-leb a.duration 4000000 e)
