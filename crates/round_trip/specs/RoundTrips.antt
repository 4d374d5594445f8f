-- Demand 2: a schedule file has one spelling. Writing after reading returns the file (`write_after_read`), reading after writing returns the schedule
-- (`read_after_write`), and every file that reading accepts is the file of exactly one schedule: of the one that was read (`read_arrays`, `spelt_again`, `written_again`), and of no other (`one_schedule`).
use Rattle.std.specs.Prelude.{ℕ, ◌≡◌, length, Err, Ok, Result}
use mathlib.Core.List.{List}
use Rattle.refusal.specs.declared.Refusal.{Refusal}
use Rattle.schedule.specs.declared.Schedule.{Schedule}
use Rattle.schedule.specs.Schedules.{tasks_in, chains_in, schedule_of}
use Rattle.file_reader.specs.Reading.{read_file}
use Rattle.file_writer.specs.FileBytes.{file_bytes}
use Rattle.file_writer.specs.Writing.{left_bytes, length_verdict, written_of}

-- A schedule with zeros past its counts. Entries there are no part of a schedule.
abbrev pub cleared : Schedule → Schedule
cleared s = schedule_of (tasks_in s) (chains_in s) s.gap

-- What reading a file and writing it again answers: the refusal of reading, or 11 where the lent bytes are shorter than the file, or the file's length.
unfoldable pub rewritten_of : Result Schedule Refusal → ℕ → ℕ → Result ℕ Refusal
rewritten_of (Ok s) long lent = length_verdict long lent
rewritten_of (Err r) long lent = Err r

-- Reading a file and writing it again leaves the file itself, byte for byte, and past it what was there; a refusal leaves every byte.
pub record Rewrites (file old : List ℕ) (answer : Result ℕ Refusal) (new : List ℕ) : Type 0 where
  pub answers : answer ≡ rewritten_of (read_file file) (length file) (length old)
  pub leaves : new ≡ left_bytes answer file old

-- What writing a schedule and reading it again answers: the refusal of writing, or the schedule.
unfoldable pub reread_after : Schedule → Result ℕ Refusal → Result Schedule Refusal
reread_after s (Ok n) = Ok (cleared s)
reread_after s (Err r) = Err r

-- Writing a schedule and reading it again answers the schedule and leaves its file.
pub record Rereads (s : Schedule) (old : List ℕ) (answer : Result Schedule Refusal) (new : List ℕ) : Type 0 where
  pub answers : answer ≡ reread_after s (written_of s (length old))
  pub leaves : new ≡ left_bytes (written_of s (length old)) (file_bytes s) old
