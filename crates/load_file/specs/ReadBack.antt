-- The file of a made-up chain: its schedule is sound (`sound_load`), reading the file gives that schedule (`load_read`), and its one chain is the chain that was made (`load_chain`).
-- So whoever reads it, chainreport or any call, has the chain of the seed; and the file has 20 bytes a place and 8 more (`file_length`).
use Rattle.std.specs.Prelude.{ℕ, zero, suc, ◌+◌, ◌*◌, ◌≤◌, ◌<◌, ◌≡◌, refl, true, Ok}
use Rattle.std.proofs.Common.{arith, sym, ◌∙◌, le-leb, lt-ltb, eq-eqb, ne_eqb}
use Rattle.std.proofs.Math.Decide.{dec_lt}
use Rattle.std.proofs.Math.Path.{ap}
use mathlib.Core.List.{List, [], ◌∷◌, ◌++◌, map, append-nil}
use Rattle.std.proofs.Math.ListN.{length}
use Rattle.task.specs.declared.Task.{Task}
use Rattle.task.proofs.LinkLaws.{limits_hold}
use Rattle.chain.specs.declared.Chain.{Chain}
use Rattle.chain.specs.Chains.{zero_task}
use Rattle.ranges.specs.Entries.{entries, entries_length}
use Rattle.schedule.specs.declared.NumberedTask.{NumberedTask}
use Rattle.schedule.specs.declared.Route.{Route}
use Rattle.schedule.specs.declared.Schedule.{Schedule}
use Rattle.schedule.specs.Schedules.{number_of, tasks_in, places_of, routes_in, chains_in, task_rule, known, task_numbered, padded, chain_of, route_numbered, chain_at, zero_numbered, route_of, schedule_of}
use Rattle.schedule.specs.Padding.{take_padded}
use Rattle.schedule_checks.specs.Checks.{first_fault, first_unknown}
use Rattle.schedule_checks.proofs.SoundSchedule.{SoundSchedule}
use Rattle.file_reader.specs.Reading.{read_file}
use Rattle.file_writer.specs.FileBytes.{chain_bytes, chains_bytes, gap_bytes, file_of, file_bytes}
use Rattle.file_writer.proofs.Lengths.{length_chain, length_file}
use Rattle.round_trip.specs.Right.{no_chain_holds, one_more, Right}
use Rattle.round_trip.specs.ReadAfterWrite.{read_of_file}
use Rattle.round_trip.proofs.RoundTrips.{routes_front, routes_back, right_sound}
use Rattle.load.specs.Load.{task_of, drawn_task, tasks_from, loaded}
use Rattle.load.proofs.Passes as passes
use Rattle.load_file.specs.LoadFile.{numbered_from, numbers_from, numbers_to, alone_of, file_of_load}

-- ---- tasks with the numbers from n on

numbers_of : (n : ℕ) (l : List Task) → map number_of (numbered_from n l) ≡ numbers_from n (length l)
unfolding numbered_from entries
numbers_of n [] = refl
numbers_of n (a ∷ l) = ap (λ (ns : List ℕ). n ∷ ns) (numbers_of (suc n) l)

pub numbered_length : (n : ℕ) (l : List Task) → length (numbered_from n l) ≡ length l
unfolding numbered_from
numbered_length n [] = refl
numbered_length n (a ∷ l) = ap suc (numbered_length (suc n) l)

-- each number is known,
knows : (n k m : ℕ) → n ≤ m → m < n + k → known (numbers_from n k) m ≡ true
unfolding entries known
knows n zero m h g = absurd (omega arith)
knows n (suc k) m h g = elim (dec_lt n m) [
  | yes e ↦ rw (ne_eqb n m (λ z. omega arith)) (knows (suc n) k m (omega arith) (omega arith))
  | no e ↦ rw (eq-eqb n m (omega arith))
]

knows_all : (n k p m j : ℕ) → n ≤ m → m + j ≤ n + k → first_unknown p (numbers_from n k) (numbers_from m j) ≡ 0
unfolding first_unknown entries
knows_all n k p m zero h g = refl
knows_all n k p m (suc j) h g = rw (knows n k m h (omega arith)) (knows_all n k (p + 1) (suc m) j (omega arith) (omega arith))

-- and has its task.
past_first : (x : NumberedTask) (ts : List NumberedTask) (n k : ℕ) → x.number < n → map (task_numbered (x ∷ ts)) (numbers_from n k) ≡ map (task_numbered ts) (numbers_from n k)
unfolding entries task_numbered
past_first x ts n zero h = refl
past_first x ts n (suc k) h = rw (ne_eqb x.number n (λ e. omega arith)) (ap (λ (l : List Task). task_numbered ts n ∷ l) (past_first x ts (suc n) k (omega arith)))

tasks_at : (n : ℕ) (l : List Task) → map (task_numbered (numbered_from n l)) (numbers_from n (length l)) ≡ l
unfolding numbered_from entries task_numbered
tasks_at n [] = refl
tasks_at n (a ∷ l) =
    rw (eq-eqb n n refl)
    (ap (λ (x : List Task). a ∷ x) (past_first (record { number = n; task = a }) (numbered_from (suc n) l) (suc n) (length l) (omega arith) ∙ tasks_at (suc n) l))

-- the tasks of a seed keep the rule
rule_kept : (k s n before p : ℕ) → before < n → n + k ≤ 65536 → first_fault p before (numbered_from n (tasks_from s k)) ≡ 0
unfolding tasks_from numbered_from first_fault task_rule drawn_task
rule_kept zero s n before p h g = refl
rule_kept (suc k) s n before p h g =
    rw (lt-ltb before n h, le-leb n 65535 (omega arith), limits_hold (task_of s) (passes.within s)) (rule_kept k (drawn_task s).state (suc n) n (p + 1) (omega arith) (omega arith))

-- ---- the file

module _ (seed places : ℕ) (low : 1 ≤ places) (high : places ≤ 12) where
  abbrev ts : List NumberedTask
  ts = numbered_from 1 (tasks_from seed places)

  abbrev ch : List ℕ
  ch = numbers_to places

  abbrev s : Schedule
  s = schedule_of ts (ch ∷ []) 0

  -- the schedule of the chain that was made
  pub alone : alone_of (loaded seed places) ≡ s
  alone =
      ap (λ (l : List Task). schedule_of (numbered_from 1 l) (ch ∷ []) 0) (passes.given seed places low high)

  task_count : length ts ≡ places
  task_count = numbered_length 1 (tasks_from seed places) ∙ passes.tasks_length places seed

  place_count : length ch ≡ places
  place_count = entries_length (λ i. i) 1 places

  numbers : map number_of ts ≡ ch
  numbers = numbers_of 1 (tasks_from seed places) ∙ ap numbers_to (passes.tasks_length places seed)

  right : Right ts (ch ∷ []) 0
  right = record {
    some = omega (arith, task_count);
    few = omega (arith, task_count);
    tasks_right = rule_kept places seed 1 0 1 (omega arith) (omega arith);
    chained = omega arith;
    few_chains = omega arith;
    placed = one_more {ch = ch} (omega (arith, place_count)) (omega (arith, place_count)) (rw numbers (knows_all 1 places 1 1 places (omega arith) (omega arith))) no_chain_holds;
    permitted = omega arith;
  }

  pub sound_load : SoundSchedule (alone_of (loaded seed places))
  sound_load = rw alone (right_sound ts (ch ∷ []) 0 right)

  -- its file
  spelt : file_of_load seed places ≡ file_of ts (ch ∷ []) 0
  spelt =
      ap file_bytes alone ∙ ap (λ (l : List NumberedTask). file_of l (chains_in s) 0) (take_padded zero_numbered 32 ts right.few)
      ∙ ap (λ (l : List (List ℕ)). file_of ts l 0) (routes_back ts (ch ∷ []) 0 right)

  pub file_length : length (file_of_load seed places) ≡ 20 * places + 8
  unfolding chains_bytes gap_bytes
  file_length =
      let e : length (chain_bytes ch ++ []) ≡ 4 + 2 * length ch = ap length (append-nil (chain_bytes ch)) ∙ length_chain ch in
      omega (arith, ap length spelt, length_file ts (ch ∷ []) 0, e, task_count, place_count)

  pub load_read : read_file (file_of_load seed places) ≡ Ok (alone_of (loaded seed places))
  load_read = ap read_file spelt ∙ read_of_file ts (ch ∷ []) 0 right ∙ ap Ok (sym alone)

  -- its one chain
  route : route_numbered (routes_in s) 1 ≡ route_of ch
  unfolding route_numbered
  route = ap (λ (rs : List Route). route_numbered rs 1) (routes_front ts (ch ∷ []) 0 right)

  tasks_there : map (task_numbered ts) (places_of (route_of ch)) ≡ tasks_from seed places
  tasks_there =
      ap (map (task_numbered ts)) (take_padded 0 12 ch (omega (arith, place_count)) ∙ ap numbers_to (sym (passes.tasks_length places seed)))
      ∙ tasks_at 1 (tasks_from seed places)

  pub load_chain : chain_at (alone_of (loaded seed places)) 1 ≡ loaded seed places
  load_chain =
      ap (λ (x : Schedule). chain_at x 1) alone
      ∙ ap (λ (r : Route). chain_of 0 (tasks_in s) r) route ∙ ap (λ (l : List NumberedTask). chain_of 0 l (route_of ch)) (take_padded zero_numbered 32 ts right.few)
      ∙ ap (λ (l : List Task). made l (length ch)) tasks_there ∙ ap (made (tasks_from seed places)) place_count
    where
      made : List Task → ℕ → Chain
      made l n = record { tasks = padded 12 zero_task l; places = n; gap = 0 }
