-- What a record is judged to be where its tests pass, kind by kind.
use Rattle.std.specs.Prelude.{Err, Ok}
use Prim.Native.Nat.{ℕ, ◌+◌, ◌*◌, ◌≤◌, ◌<◌}
use native.Mathlib.Omega.{arith}
use mathlib.Core.Path.{◌≡◌, sym}
use mathlib.Core.Bool.{Bool, cond}
use mathlib.Core.List.{List}
use lib.ListN.{length}
use borrow.Author.Tests.{lt-ltb, le-ltb, le-leb, eq-eqb, ne_eqb}
use Rattle.file_reader.specs.declared.Record.TheVariants.{Chain, Gap, Task}
use Rattle.task.specs.Jobs.{gap_limit}
use Rattle.schedule.specs.Schedules.{task_rule}
use Rattle.file_reader.specs.Reading.{length_field, kind_field, places_field, task_field, chain_field, gap_field, last_of, all_known, task_record, chain_record, end_record, gap_record, kind_record, record_of}

-- ---- a task record

module _ (ns : List ℕ) (p : ℕ) (l : List ℕ) (long : length_field l ≡ 18) where
  pub task_judged : p ≡ 0 → length ns < 32 → (b : Bool) → task_rule (last_of ns) (task_field l) ≡ b → cond b (Ok (Task (task_field l))) (Err 5) ≡ task_record ns p l
  unfolding task_record
  task_judged h g b e = rw (eq-eqb (length_field l) 18 long, eq-eqb p 0 h, lt-ltb (length ns) 32 g, e)

-- ---- a chain record

module _ (ns : List ℕ) (p g : ℕ) (l : List ℕ) (long : length_field l ≡ 4 + 2 * places_field l) (some : 1 ≤ places_field l) (few : places_field l ≤ 12) (room : p < 4) (tasks : 1 ≤ length ns) where
  pub chain_judged : g ≡ 0 → (b : Bool) → all_known ns (chain_field l (places_field l)) ≡ b → cond b (Ok (Chain (places_field l))) (Err 6) ≡ chain_record ns p g l
  unfolding chain_record
  chain_judged h b e =
      rw (eq-eqb (length_field l) (4 + 2 * places_field l) long, le-leb 1 (places_field l) some, le-leb (places_field l) 12 few, lt-ltb p 4 room, le-leb 1 (length ns) tasks, eq-eqb g 0 h, e)

-- ---- a gap record; the value that was read is n

module _ (p g : ℕ) (l : List ℕ) (long : length_field l ≡ 6) (chain : 1 ≤ p) (none : g ≡ 0) (n : ℕ) (is : n ≡ gap_field l) (some : 1 ≤ n) where
  pub gap_judged : n ≤ gap_limit → Ok (Gap n) ≡ gap_record p g l
  unfolding gap_record
  gap_judged h = rw (eq-eqb (length_field l) 6 long, le-leb 1 p chain, eq-eqb g 0 none, sym is, le-leb 1 n some, le-leb n gap_limit h)

-- ---- any record

module _ (ns : List ℕ) (p g : ℕ) (l : List ℕ) where
  pub record_kind : 4 ≤ length l → 4 ≤ length_field l → length_field l ≤ length l → kind_record (kind_field l) ns p g l ≡ record_of ns p g l
  unfolding record_of
  record_kind four h g = rw (le-ltb (length l) 4 four, le-ltb (length_field l) 4 h, le-ltb (length l) (length_field l) g)

  pub kind_task : (k : ℕ) → k ≡ 1 → task_record ns p l ≡ kind_record k ns p g l
  unfolding kind_record
  kind_task k h = rw (eq-eqb k 1 h)

  pub kind_chain : (k : ℕ) → k ≡ 2 → chain_record ns p g l ≡ kind_record k ns p g l
  unfolding kind_record
  kind_chain k h = rw (ne_eqb k 1 (λ e. omega arith), eq-eqb k 2 h)

  pub kind_end : (k : ℕ) → k ≡ 3 → end_record (length_field l) p ≡ kind_record k ns p g l
  unfolding kind_record
  kind_end k h = rw (ne_eqb k 1 (λ e. omega arith), ne_eqb k 2 (λ e. omega arith), eq-eqb k 3 h)

  pub kind_gap : (k : ℕ) → k ≡ 4 → gap_record p g l ≡ kind_record k ns p g l
  unfolding kind_record
  kind_gap k h = rw (ne_eqb k 1 (λ e. omega arith), ne_eqb k 2 (λ e. omega arith), ne_eqb k 3 (λ e. omega arith), eq-eqb k 4 h)
