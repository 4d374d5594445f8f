-- Document 01, "Schedule file" and "Refusals, call by call", with orders 1 and 5 of document 02: reading a file, record by record, up to the first fault.
-- A record is judged on the bytes from its offset on, the numbers of the tasks before it, the number of chains before it, and the gap before it, 0 where none stands there.
use Rattle.std.specs.Prelude.{ℕ, zero, suc, ◌+◌, ◌-◌, ◌*◌, ◌/◌, Bool, true, false, cond, ◌&&◌, List, [], ◌∷◌, ◌++◌, map, ltb, leb, eqb, length, get_or, drop, Err, Ok, Result}
use Rattle.file_reader.specs.declared.Record.TheVariants.{Chain, End, Gap, Task}
use Rattle.file_reader.specs.declared.Record.{Record}
use Rattle.refusal.specs.declared.Refusal.{Refusal}
use Rattle.refusal.specs.Refusals.{refusal}
use Rattle.little_endian.specs.LittleEndian.{number_at}
use Rattle.task.specs.Jobs.{gap_limit}
use Rattle.schedule.specs.declared.NumberedTask.{NumberedTask}
use Rattle.schedule.specs.declared.Schedule.{Schedule}
use Rattle.schedule.specs.Schedules.{number_of, task_rule, known, padded, schedule_of}

-- ---- the fields of a record

-- Length (2 bytes, the whole record), kind (2 bytes), body.
abbrev pub length_field : List ℕ → ℕ
length_field l = number_at l 0 2

abbrev pub kind_field : List ℕ → ℕ
kind_field l = number_at l 2 2

-- Kind 1: task number (2 bytes), T, D, F (4 bytes each).
abbrev pub task_field : List ℕ → NumberedTask
task_field l = record { number = number_at l 4 2; task = record { period = number_at l 6 4; duration = number_at l 10 4; phase = number_at l 14 4 } }

-- n numbers of 2 bytes each, from an offset on.
unfoldable pub numbers_from : List ℕ → ℕ → ℕ → List ℕ
numbers_from l at zero = []
numbers_from l at (suc n) = number_at l at 2 ∷ numbers_from l (2 + at) n

-- Kind 2: the task numbers of the chain (2 bytes each).
abbrev pub chain_field : List ℕ → ℕ → List ℕ
chain_field l p = numbers_from l 4 p

-- The same as an array, zeros past the places.
abbrev pub chain_entries : List ℕ → ℕ → List ℕ
chain_entries l p = padded 12 0 (chain_field l p)

-- Order 5, kind 4: the gap (2 bytes).
abbrev pub gap_field : List ℕ → ℕ
gap_field l = number_at l 4 2

-- ---- one record

-- The number of the task before, or 0.
abbrev pub last_of : List ℕ → ℕ
last_of numbers = get_or numbers (length numbers - 1) 0

-- Every number is that of a task.
unfoldable pub all_known : List ℕ → List ℕ → Bool
all_known numbers [] = true
all_known numbers (n ∷ l) = cond (known numbers n) (all_known numbers l) false

-- Kind 1, length 18. 2: wrong length. 4: a task after a chain, or a 33rd task. 5: task number or value outside its rule.
unfoldable pub task_record : List ℕ → ℕ → List ℕ → Result Record ℕ
task_record numbers chains l =
    cond (eqb (length_field l) 18)
    (cond (eqb chains 0 && ltb (length numbers) 32)
    (cond (task_rule (last_of numbers) (task_field l)) (Ok (Task (task_field l))) (Err 5))
    (Err 4))
    (Err 2)

-- Kind 2, length 4 + 2 × places, for 1 to 12 places.
abbrev pub places_field : List ℕ → ℕ
places_field l = (length_field l - 4) / 2

-- 2: wrong length. 4: a fifth chain, chain first, or a chain after the gap. 6: unknown task in the chain.
unfoldable pub chain_record : List ℕ → ℕ → ℕ → List ℕ → Result Record ℕ
chain_record numbers chains gap l =
    cond (eqb (length_field l) (4 + 2 * places_field l) && (leb 1 (places_field l) && leb (places_field l) 12))
    (cond (ltb chains 4 && (leb 1 (length numbers) && eqb gap 0))
    (cond (all_known numbers (chain_field l (places_field l))) (Ok (Chain (places_field l))) (Err 6))
    (Err 4))
    (Err 2)

-- Kind 3, length 4. 2: wrong length. 4: end before the first chain.
unfoldable pub end_record : ℕ → ℕ → Result Record ℕ
end_record long chains = cond (eqb long 4) (cond (eqb chains 0) (Err 4) (Ok End)) (Err 2)

-- Order 5: "kind 4, length 6, 2-byte gap of 1 to 1,000, stands after the last chain, at most once; .. any other value is refused as 5 at the record's offset. Misplaced or twice is 4".
-- 2: wrong length. 4: a gap before the first chain, or a second one. 5: a value that is not 1 to 1,000. A task after the gap stands after a chain too, so it is 4.
unfoldable pub gap_record : ℕ → ℕ → List ℕ → Result Record ℕ
gap_record chains gap l =
    cond (eqb (length_field l) 6)
    (cond (leb 1 chains && eqb gap 0)
    (cond (leb 1 (gap_field l) && leb (gap_field l) gap_limit) (Ok (Gap (gap_field l))) (Err 5))
    (Err 4))
    (Err 2)

-- 3: unknown kind.
unfoldable pub kind_record : ℕ → List ℕ → ℕ → ℕ → List ℕ → Result Record ℕ
kind_record kind numbers chains gap l =
    cond (eqb kind 1) (task_record numbers chains l)
    (cond (eqb kind 2) (chain_record numbers chains gap l)
    (cond (eqb kind 3) (end_record (length_field l) chains)
    (cond (eqb kind 4) (gap_record chains gap l)
    (Err 3))))

-- 1: fewer than 4 bytes remain. 2: length below 4. 1: length runs past the file. Then by kind.
unfoldable pub record_of : List ℕ → ℕ → ℕ → List ℕ → Result Record ℕ
record_of numbers chains gap l =
    cond (ltb (length l) 4) (Err 1)
    (cond (ltb (length_field l) 4) (Err 2)
    (cond (ltb (length l) (length_field l)) (Err 1)
    (kind_record (kind_field l) numbers chains gap l)))

-- ---- the file

-- A refusal is the number of the fault and its offset.
abbrev pub refused_file : ℕ → ℕ → Result Schedule Refusal
refused_file number place = Err (refusal number place)

-- A file with no gap record has the gap 0.
abbrev pub accepted_file : List NumberedTask → List (List ℕ) → ℕ → Result Schedule Refusal
accepted_file tasks chains gap = Ok (schedule_of tasks chains gap)

-- Where reading goes after a record; `go` reads on from the next one. A byte after end is 4 at that byte.
unfoldable pub after_record : (List NumberedTask → List (List ℕ) → ℕ → ℕ → List ℕ → Result Schedule Refusal) → List NumberedTask → List (List ℕ) → ℕ → ℕ → List ℕ → Result Record ℕ → Result Schedule Refusal
after_record go tasks chains gap at l (Ok (Task t)) = go (tasks ++ (t ∷ [])) chains gap (at + 18) (drop 18 l)
after_record go tasks chains gap at l (Ok (Chain p)) = go tasks (chains ++ (chain_field l p ∷ [])) gap (at + (4 + 2 * p)) (drop (4 + 2 * p) l)
after_record go tasks chains gap at l (Ok (Gap g)) = go tasks chains g (at + 6) (drop 6 l)
after_record go tasks chains gap at l (Ok End) = cond (ltb 4 (length l)) (refused_file 4 (at + 4)) (accepted_file tasks chains gap)
after_record go tasks chains gap at l (Err k) = refused_file k at

-- Reading from a record on: the tasks, the chains and the gap before it, its offset, and the bytes from there on.
-- The first number is at least the number of these bytes, so enough for their records; at 0 no byte is left, and that is 1.
unfoldable pub read_from : ℕ → List NumberedTask → List (List ℕ) → ℕ → ℕ → List ℕ → Result Schedule Refusal
read_from zero tasks chains gap at l = refused_file 1 at
read_from (suc n) tasks chains gap at l = after_record (read_from n) tasks chains gap at l (record_of (map number_of tasks) (length chains) gap l)

-- Reading a file: from its first byte on.
abbrev pub read_file : List ℕ → Result Schedule Refusal
read_file l = read_from (length l) [] [] 0 0 l
