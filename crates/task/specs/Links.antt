-- Document 01, "Chains", with order 5 of document 02: how a job at one place connects to a job at the next place, forward and backward.
use Rattle.std.specs.Prelude.{ℕ, ◌+◌, ◌-◌, ◌/◌, ◌≤◌, cond, leb, None, Option, Some}
use Rattle.task.specs.declared.Job.{Job}
use Rattle.task.specs.declared.Place.{Place}
use Rattle.task.specs.Jobs.{read_of, write_of, readable_of}

-- Order 5: a job connects to reads at or after write + gap. Here job j of place a to job k of the next place, b. Equal ticks connect.
-- Write + gap is `readable_of` in what follows.
abbrev pub Linked : Place → ℕ → Place → ℕ → Type 0
Linked a j b k = write_of a j + a.gap ≤ read_of b k

-- The earliest job that reads at or after tick w: (w − F) / T rounded up, and job 0 for w up to F.
-- That this quotient is that job is `earliest_reads` and `earliest_least` in LinkLaws.
unfoldable pub earliest_from : Place → ℕ → ℕ
earliest_from b w = (w - b.phase + (b.period - 1)) / b.period

-- The earliest job that reads strictly after tick t.
abbrev pub earliest_after : Place → ℕ → ℕ
earliest_after b t = earliest_from b (t + 1)

-- The latest job whose read is d ticks or more before tick z; there is none before F + d.
-- That this quotient is that job is `latest_over_holds` in LinkLaws.
unfoldable pub latest_over : Place → ℕ → ℕ → Option Job
latest_over a d z = cond (leb (a.phase + d) z) (Some (record { 0 = (z - (a.phase + d)) / a.period })) None

-- The latest job that writes at or before tick z; there is none before the write of job 0. That it is that job is `latest_is` in LinkLaws.
abbrev pub latest_by : Place → ℕ → Option Job
latest_by a z = latest_over a a.duration z

-- Forward: from job j of place a, the next place's earliest job that reads at or after that job's write and the gap.
-- `link_forward` in LinkLaws: it is the earliest job k with `Linked a j b k`.
unfoldable pub forward_link : Place → Place → ℕ → ℕ
forward_link a b j = earliest_from b (readable_of a j)

-- Backward: from job k of place b, the previous place's latest job that has written, the gap included, at or before that job's read; there may be none.
-- `link_backward` in LinkLaws: it is the latest job j with `Linked a j b k`.
unfoldable pub backward_link : Place → Place → ℕ → Option Job
backward_link a b k = latest_over a (a.duration + a.gap) (read_of b k)
