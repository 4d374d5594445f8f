-- Document 01, "Schedule file", with orders 1 and 5 of document 02: the bytes of a schedule. Records of length (2 bytes, the whole record), kind (2 bytes), body; little-endian.
use Rattle.std.specs.Prelude.{ℕ, zero, suc, ◌+◌, ◌*◌, List, [], ◌∷◌, ◌++◌, length}
use Rattle.little_endian.specs.LittleEndian.{bytes_of}
use Rattle.schedule.specs.declared.NumberedTask.{NumberedTask}
use Rattle.schedule.specs.declared.Schedule.{Schedule}
use Rattle.schedule.specs.Schedules.{tasks_in, chains_in}

-- Kind 1, length 18: task number (2 bytes), T, D, F (4 bytes each).
unfoldable pub task_bytes : NumberedTask → List ℕ
task_bytes t =
    bytes_of 2 18 ++ (bytes_of 2 1
    ++ (bytes_of 2 t.number ++ (bytes_of 4 t.task.period ++ (bytes_of 4 t.task.duration ++ bytes_of 4 t.task.phase))))

unfoldable pub tasks_bytes : List NumberedTask → List ℕ
tasks_bytes [] = []
tasks_bytes (t ∷ ts) = task_bytes t ++ tasks_bytes ts

-- Numbers of 2 bytes each.
unfoldable pub numbers_bytes : List ℕ → List ℕ
numbers_bytes [] = []
numbers_bytes (n ∷ l) = bytes_of 2 n ++ numbers_bytes l

-- Kind 2, length 4 + 2 × places: the task numbers of a chain.
unfoldable pub chain_bytes : List ℕ → List ℕ
chain_bytes chain = bytes_of 2 (4 + 2 * length chain) ++ (bytes_of 2 2 ++ numbers_bytes chain)

unfoldable pub chains_bytes : List (List ℕ) → List ℕ
chains_bytes [] = []
chains_bytes (ch ∷ chs) = chain_bytes ch ++ chains_bytes chs

-- Order 5: "kind 4, length 6, 2-byte gap of 1 to 1,000, stands after the last chain ..; a gap of 0 is written by leaving it out".
unfoldable pub gap_bytes : ℕ → List ℕ
gap_bytes zero = []
gap_bytes (suc g) = bytes_of 2 6 ++ (bytes_of 2 4 ++ bytes_of 2 (suc g))

-- Kind 3, length 4: end.
unfoldable pub end_bytes : List ℕ
end_bytes = bytes_of 2 4 ++ bytes_of 2 3

-- First the tasks, then the chains, then the gap, then end, then nothing.
unfoldable pub file_of : List NumberedTask → List (List ℕ) → ℕ → List ℕ
file_of tasks chains gap = tasks_bytes tasks ++ (chains_bytes chains ++ (gap_bytes gap ++ end_bytes))

abbrev pub file_bytes : Schedule → List ℕ
file_bytes s = file_of (tasks_in s) (chains_in s) s.gap
