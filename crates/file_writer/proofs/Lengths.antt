-- How long each part of a file is.
use Rattle.std.specs.Prelude.{ℕ, zero, suc, ◌+◌, ◌*◌, ◌≡◌, refl, List, [], ◌∷◌, length}
use Rattle.std.proofs.Common.{arith, length-append}
use Rattle.little_endian.proofs.Spelling.{length_bytes}
use Rattle.schedule.specs.declared.NumberedTask.{NumberedTask}
use Rattle.file_writer.specs.FileBytes.{task_bytes, tasks_bytes, numbers_bytes, chain_bytes, chains_bytes, gap_bytes, end_bytes, file_of}

pub length_task : (t : NumberedTask) → length (task_bytes t) ≡ 18
unfolding task_bytes
length_task t = simp (length-append, length_bytes)

pub length_tasks : (ts : List NumberedTask) → length (tasks_bytes ts) ≡ 18 * length ts
unfolding tasks_bytes
length_tasks [] = refl
length_tasks (t ∷ ts) = simp (length-append, length_task) (omega (arith, length_tasks ts))

pub length_places : (ch : List ℕ) → length (numbers_bytes ch) ≡ 2 * length ch
unfolding numbers_bytes
length_places [] = refl
length_places (n ∷ ch) = simp (length-append, length_bytes) (omega (arith, length_places ch))

pub length_chain : (ch : List ℕ) → length (chain_bytes ch) ≡ 4 + 2 * length ch
unfolding chain_bytes
length_chain ch = simp (length-append, length_bytes) (omega (arith, length_places ch))

-- a gap has its record, a gap of 0 none
pub length_gap : (g : ℕ) → (g ≡ 0 → ⊥) → length (gap_bytes g) ≡ 6
unfolding gap_bytes
length_gap zero h = absurd (h refl)
length_gap (suc g) h = simp (length-append, length_bytes)

pub no_gap : (g : ℕ) → g ≡ 0 → gap_bytes g ≡ []
unfolding gap_bytes
no_gap g e = rw e

pub length_end : length end_bytes ≡ 4
unfolding end_bytes
length_end = simp (length-append, length_bytes)

pub length_file : (ts : List NumberedTask) (chs : List (List ℕ)) (g : ℕ) → length (file_of ts chs g) ≡ 18 * length ts + length (chains_bytes chs) + length (gap_bytes g) + 4
unfolding file_of
length_file ts chs g = simp (length-append, length_end) (omega (arith, length_tasks ts))
