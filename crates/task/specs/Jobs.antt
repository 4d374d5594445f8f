-- Document 01, "Tasks and jobs", with order 5 of document 02: when a job reads and writes, when the next place can read what it wrote, and the limits of a task's values and of the gap.
-- Jobs are counted from 0.
use Rattle.std.specs.Prelude.{ℕ, ◌+◌, ◌*◌, ◌≤◌, Bool, ◌&&◌, leb}
use Rattle.task.specs.declared.Task.{Task}
use Rattle.task.specs.declared.Place.{Place}

-- A task at a place of a chain whose gap is g.
abbrev pub place_of : ℕ → Task → Place
place_of g a = record { period = a.period; duration = a.duration; phase = a.phase; gap = g }

-- Job j reads at F + j × T,
abbrev pub read_of : Place → ℕ → ℕ
read_of a j = a.phase + j * a.period

-- and writes at F + j × T + D.
abbrev pub write_of : Place → ℕ → ℕ
write_of a j = a.phase + j * a.period + a.duration

-- Order 5: a value becomes readable some ticks, the gap, after its write. Only a next place reads it, so the last write has none.
abbrev pub readable_of : Place → ℕ → ℕ
readable_of a j = write_of a j + a.gap

-- T is 1 to 1,000,000, D is 1 to 4,000,000, F is 0 to 1,000,000.
unfoldable pub within_limits : Task → Bool
within_limits a =
    leb 1 a.period && (leb a.period 1000000 && (leb 1 a.duration && (leb a.duration 4000000 && leb a.phase 1000000)))

-- The same as facts. `limits` and `limits_hold` in LinkLaws say that the two agree.
pub record Within (a : Task) : Type 0 where
  pub period_pos : 1 ≤ a.period
  pub period_max : a.period ≤ 1000000
  pub duration_pos : 1 ≤ a.duration
  pub duration_max : a.duration ≤ 4000000
  pub phase_max : a.phase ≤ 1000000

-- Order 5: the gap is 0 to 1,000 ticks.
abbrev pub gap_limit : ℕ
gap_limit = 1000

-- Both of a place, as facts.
pub record Limited (a : Place) : Type 0 where
  pub period_pos : 1 ≤ a.period
  pub period_max : a.period ≤ 1000000
  pub duration_pos : 1 ≤ a.duration
  pub duration_max : a.duration ≤ 4000000
  pub phase_max : a.phase ≤ 1000000
  pub gap_max : a.gap ≤ gap_limit
