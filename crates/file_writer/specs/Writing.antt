-- Document 01, "Refusals, call by call": what writing a file answers and leaves in the lent bytes.
use Rattle.std.specs.Prelude.{ℕ, ◌≡◌, cond, List, ◌++◌, leb, eqb, length, drop, Err, Ok, Result}
use Rattle.refusal.specs.declared.Refusal.{Refusal}
use Rattle.refusal.specs.Refusals.{refusal}
use Rattle.schedule.specs.declared.Schedule.{Schedule}
use Rattle.schedule_checks.specs.Checks.{fault_of}
use Rattle.file_writer.specs.FileBytes.{file_bytes}

-- 11: lent bytes shorter than the file. Writing answers the file's length.
unfoldable pub length_verdict : ℕ → ℕ → Result ℕ Refusal
length_verdict long lent = cond (leb long lent) (Ok long) (Err (refusal 11 0))

-- 8; 5, of the gap after the tasks; 6 of the schedule; 11.
unfoldable pub written_of : Schedule → ℕ → Result ℕ Refusal
written_of s lent = cond (eqb (fault_of s).number 0) (length_verdict (length (file_bytes s)) lent) (Err (fault_of s))

-- The lent bytes: the file, and past it what was there; a refusal leaves every byte.
abbrev pub left_bytes : Result ℕ Refusal → List ℕ → List ℕ → List ℕ
left_bytes (Ok n) file old = file ++ drop (length file) old
left_bytes (Err r) file old = old

-- What writing answers and leaves.
pub record Writes (s : Schedule) (old : List ℕ) (answer : Result ℕ Refusal) (new : List ℕ) : Type 0 where
  pub answers : answer ≡ written_of s (length old)
  pub leaves : new ≡ left_bytes (written_of s (length old)) (file_bytes s) old
