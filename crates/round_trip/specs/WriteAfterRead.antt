-- Writing what was read gives the file back, byte for byte.
use Rattle.std.specs.Prelude.{ℕ, zero, suc, ◌+◌, ◌*◌, ◌≤◌, ◌≡◌, refl, length, Err, Ok, Result}
use Rattle.std.proofs.Common.{arith, ◌∙◌, length-append, lt-ltb, le-ltb}
use Rattle.std.proofs.Math.Decide.{dec_lt}
use Rattle.std.proofs.Math.Path.{sym, ap}
use mathlib.Core.List.{List, [], ◌∷◌, ◌++◌, map, append_assoc, append-nil}
use Rattle.std.proofs.Math.ListN.{drop}
use Rattle.std.proofs.lemmas.List.{length-map}
use Rattle.file_reader.specs.declared.Record.TheVariants.{Chain, End, Gap, Task}
use Rattle.file_reader.specs.declared.Record.{Record}
use Rattle.refusal.specs.declared.Refusal.{Refusal}
use Rattle.refusal.specs.Refusals.{refusal}
use Rattle.little_endian.specs.LittleEndian.{Bytes}
use Rattle.little_endian.proofs.Fields.{bytes_drop}
use Rattle.task.specs.Jobs.{gap_limit}
use Rattle.schedule.specs.declared.NumberedTask.{NumberedTask}
use Rattle.schedule.specs.declared.Schedule.{Schedule}
use Rattle.schedule.specs.Schedules.{number_of, schedule_of}
use Rattle.file_reader.specs.Reading.{chain_field, record_of, after_record, read_from, read_file}
use Rattle.file_reader.proofs.Records.{IsTask, IsChain, IsGap, IsEnd, Tells, tells, length_numbers}
use Rattle.file_writer.specs.FileBytes.{task_bytes, tasks_bytes, chain_bytes, chains_bytes, gap_bytes, file_of}
use Rattle.file_writer.proofs.Lengths.{no_gap}
use Rattle.schedule_checks.specs.Checks.{first_fault}
use Rattle.schedule_checks.proofs.Faults.{fault_none}
use Rattle.round_trip.specs.RecordBytes.{task_back, chain_back, gap_back, end_back}
use Rattle.round_trip.specs.Right.{Placed, no_chain_holds, Right, placed_snoc, fault_snoc, all_unknown}

-- The bytes of the tasks and the chains that were read so far, and of the gap.
abbrev ungapped : List NumberedTask → List (List ℕ) → List ℕ
ungapped ts chs = tasks_bytes ts ++ chains_bytes chs

abbrev before : List NumberedTask → List (List ℕ) → ℕ → List ℕ
before ts chs g = ungapped ts chs ++ gap_bytes g

before_gap : (ts : List NumberedTask) (chs : List (List ℕ)) (g : ℕ) → g ≡ 0 → before ts chs g ≡ ungapped ts chs
before_gap ts chs g e = ap (λ (b : List ℕ). ungapped ts chs ++ b) (no_gap g e) ∙ append-nil (ungapped ts chs)

-- What is right of them. Chains come after a task, and the gap after a chain.
record SoFar (ts : List NumberedTask) (chs : List (List ℕ)) (g : ℕ) : Type 0 where
  few : length ts ≤ 32
  tasks_right : first_fault 1 0 ts ≡ 0
  few_chains : length chs ≤ 4
  placed : Placed (map number_of ts) chs
  some : 1 ≤ length chs → 1 ≤ length ts
  permitted : g ≤ gap_limit
  chained : 1 ≤ g → 1 ≤ length chs

-- Where reading ends well: with which tasks, chains and gap, and that `file` is their file.
pub record Ends (file : List ℕ) (s : Schedule) : Type 0 where
  pub tasks : List NumberedTask
  pub chains : List (List ℕ)
  pub gap : ℕ
  pub is : s ≡ schedule_of tasks chains gap
  pub spelt : file_of tasks chains gap ≡ file
  pub right : Right tasks chains gap

-- one more at the end of a list that is spelt one after the other
tasks_snoc : (ts : List NumberedTask) (t : NumberedTask) → tasks_bytes (ts ++ (t ∷ [])) ≡ tasks_bytes ts ++ task_bytes t
unfolding tasks_bytes
tasks_snoc [] t = append-nil (task_bytes t)
tasks_snoc (x ∷ ts) t = ap (λ (l : List ℕ). task_bytes x ++ l) (tasks_snoc ts t) ∙ sym (append_assoc (task_bytes x) (tasks_bytes ts) (task_bytes t))

chains_snoc : (chs : List (List ℕ)) (ch : List ℕ) → chains_bytes (chs ++ (ch ∷ [])) ≡ chains_bytes chs ++ chain_bytes ch
unfolding chains_bytes
chains_snoc [] ch = append-nil (chain_bytes ch)
chains_snoc (x ∷ chs) ch = ap (λ (l : List ℕ). chain_bytes x ++ l) (chains_snoc chs ch) ∙ sym (append_assoc (chain_bytes x) (chains_bytes chs) (chain_bytes ch))

not_refused : {A : Type 0} (r : Refusal) (s : Schedule) → Err r ≡ Ok s → A
not_refused r s e = absurd cc

was_accepted : (s t : Schedule) → ◌≡◌ {A = Result Schedule Refusal} (Ok s) (Ok t) → t ≡ s
was_accepted s t e = cc

-- ---- one record

module _ (ts : List NumberedTask) (chs : List (List ℕ)) (g : ℕ) (l : List ℕ) (is : Bytes l) (ok : SoFar ts chs g) where
  -- after a task
  module _ (t : NumberedTask) (i : IsTask (map number_of ts) (length chs) l t) where
    no_chains : chs ≡ []
    no_chains = go chs i.no_chain_holds
      where
        go : (c : List (List ℕ)) → length c ≡ 0 → c ≡ []
        go [] e = refl
        go (n ∷ c) e = absurd (omega arith)

    not_yet : g ≡ 0
    not_yet = elim (dec_lt 0 g) [
      | yes h ↦ absurd (omega (arith, ok.chained h, i.no_chain_holds))
      | no h ↦ omega arith
    ]

    ungapped_spelt : ungapped (ts ++ (t ∷ [])) chs ++ drop 18 l ≡ ungapped ts chs ++ l
    unfolding chains_bytes
    ungapped_spelt =
        rw no_chains
        (ap (λ (b : List ℕ). b ++ drop 18 l) (append-nil (tasks_bytes (ts ++ (t ∷ []))) ∙ tasks_snoc ts t) ∙ append_assoc (tasks_bytes ts) (task_bytes t) (drop 18 l)
        ∙ ap (λ (b : List ℕ). tasks_bytes ts ++ b) (ap (λ (x : NumberedTask). task_bytes x ++ drop 18 l) i.is ∙ task_back l is i.length_is i.kind_is i.long)
        ∙ ap (λ (b : List ℕ). b ++ l) (sym (append-nil (tasks_bytes ts))))

    task_spelt : before (ts ++ (t ∷ [])) chs g ++ drop 18 l ≡ before ts chs g ++ l
    task_spelt = ap (λ (b : List ℕ). b ++ drop 18 l) (before_gap (ts ++ (t ∷ [])) chs g not_yet) ∙ ungapped_spelt ∙ ap (λ (b : List ℕ). b ++ l) (sym (before_gap ts chs g not_yet))

    task_far : SoFar (ts ++ (t ∷ [])) chs g
    task_far = record {
      few = omega (arith, length-append ts (t ∷ []), i.few, length-map ts number_of);
      tasks_right = fault_snoc ts t ok.tasks_right i.rule;
      few_chains = ok.few_chains;
      placed = rw no_chains no_chain_holds;
      some = λ h. absurd (omega (arith, i.no_chain_holds));
      permitted = ok.permitted;
      chained = ok.chained;
    }

  -- after a chain
  module _ (p : ℕ) (i : IsChain (map number_of ts) (length chs) g l p) where
    abbrev ch : List ℕ
    ch = chain_field l p

    chain_spelt : before ts (chs ++ (ch ∷ [])) g ++ drop (4 + 2 * p) l ≡ before ts chs g ++ l
    chain_spelt =
        ap (λ (b : List ℕ). b ++ drop (4 + 2 * p) l) (before_gap ts (chs ++ (ch ∷ [])) g i.no_gap)
        ∙ ap (λ (b : List ℕ). (tasks_bytes ts ++ b) ++ drop (4 + 2 * p) l) (chains_snoc chs ch)
        ∙ ap (λ (b : List ℕ). b ++ drop (4 + 2 * p) l) (sym (append_assoc (tasks_bytes ts) (chains_bytes chs) (chain_bytes ch)))
        ∙ append_assoc (ungapped ts chs) (chain_bytes ch) (drop (4 + 2 * p) l)
        ∙ ap (λ (b : List ℕ). ungapped ts chs ++ b) (chain_back l is p i.length_is i.kind_is i.long (length_numbers l 4 p))
        ∙ ap (λ (b : List ℕ). b ++ l) (sym (before_gap ts chs g i.no_gap))

    chain_far : SoFar ts (chs ++ (ch ∷ [])) g
    chain_far = record {
      few = ok.few;
      tasks_right = ok.tasks_right;
      few_chains = omega (arith, length-append chs (ch ∷ []), i.few_chains);
      placed = placed_snoc (map number_of ts) chs ch ok.placed (rw (length_numbers l 4 p) i.some) (rw (length_numbers l 4 p) i.few) (all_unknown 1 (map number_of ts) ch i.all);
      some = λ h. omega (arith, i.tasks, length-map ts number_of);
      permitted = ok.permitted;
      chained = λ h. absurd (omega (arith, i.no_gap));
    }

  -- after the gap
  module _ (v : ℕ) (i : IsGap (length chs) g l v) where
    gap_spelt : before ts chs v ++ drop 6 l ≡ before ts chs g ++ l
    gap_spelt =
        append_assoc (ungapped ts chs) (gap_bytes v) (drop 6 l)
        ∙ ap (λ (b : List ℕ). ungapped ts chs ++ b) (gap_back l is v i.length_is i.kind_is i.long i.some i.is)
        ∙ ap (λ (b : List ℕ). b ++ l) (sym (before_gap ts chs g i.no_gap))

    gap_far : SoFar ts chs v
    gap_far = record { few = ok.few; tasks_right = ok.tasks_right; few_chains = ok.few_chains; placed = ok.placed; some = ok.some; permitted = i.permitted; chained = λ h. i.chain }

  -- after the end
  end_spelt : IsEnd (length chs) l → length l ≤ 4 → file_of ts chs g ≡ before ts chs g ++ l
  unfolding file_of
  end_spelt i h =
      ap (λ (e : List ℕ). tasks_bytes ts ++ (chains_bytes chs ++ (gap_bytes g ++ e))) (end_back l is i.length_is i.kind_is i.long h)
      ∙ sym (append_assoc (tasks_bytes ts) (chains_bytes chs) (gap_bytes g ++ l)) ∙ sym (append_assoc (ungapped ts chs) (gap_bytes g) l)

  end_right : 1 ≤ length chs → Right ts chs g
  end_right h = record { some = ok.some h; few = ok.few; tasks_right = ok.tasks_right; chained = h; few_chains = ok.few_chains; placed = ok.placed; permitted = ok.permitted }

-- ---- all records

read_ends : (n : ℕ) (ts : List NumberedTask) (chs : List (List ℕ)) (g at : ℕ) (l file : List ℕ) (s : Schedule) → Bytes l → SoFar ts chs g → before ts chs g ++ l ≡ file
    → read_from n ts chs g at l ≡ Ok s → Ends file s
unfolding read_from after_record
read_ends zero ts chs g at l file s is ok e h = not_refused (refusal 1 at) s h
read_ends (suc n) ts chs g at l file s is ok e h =
    go (record_of (map number_of ts) (length chs) g l) (tells (map number_of ts) (length chs) g l (record_of (map number_of ts) (length chs) g l) refl) h
    (λ ts' chs' g' at' l'. read_ends n ts' chs' g' at' l' file s)
  where
    go : (r : Result Record ℕ) → Tells (map number_of ts) (length chs) g l r → after_record (read_from n) ts chs g at l r ≡ Ok s
        → ((ts' : List NumberedTask) (chs' : List (List ℕ)) (g' at' : ℕ) (l' : List ℕ) → Bytes l' → SoFar ts' chs' g' → before ts' chs' g' ++ l' ≡ file → read_from n ts' chs' g' at' l' ≡ Ok s → Ends file s)
        → Ends file s
    go (Ok (Task t)) i k on =
        on (ts ++ (t ∷ [])) chs g (at + 18) (drop 18 l) (bytes_drop l 18 is) (task_far ts chs g l is ok t i) (task_spelt ts chs g l is ok t i ∙ e) k
    go (Ok (Chain p)) i k on =
        on ts (chs ++ (chain_field l p ∷ [])) g (at + (4 + 2 * p)) (drop (4 + 2 * p) l) (bytes_drop l (4 + 2 * p) is) (chain_far ts chs g l is ok p i) (chain_spelt ts chs g l is ok p i ∙ e) k
    go (Ok (Gap v)) i k on = on ts chs v (at + 6) (drop 6 l) (bytes_drop l 6 is) (gap_far ts chs g l is ok v i) (gap_spelt ts chs g l is ok v i ∙ e) k
    go (Ok End) i k on = elim (dec_lt 4 (length l)) [
      | yes a ↦ not_refused (refusal 4 (at + 4)) s (rw (lt-ltb 4 (length l) a) at k)
      | no a ↦ record {
        tasks = ts;
        chains = chs;
        gap = g;
        is = was_accepted (schedule_of ts chs g) s (rw (le-ltb 4 (length l) (omega arith)) at k);
        spelt = end_spelt ts chs g l is ok i (omega arith) ∙ e;
        right = end_right ts chs g l is ok i.chain;
      }
    ]
    go (Err k') i k on = not_refused (refusal k' at) s k

-- A file that reading accepts is the file of the tasks, the chains and the gap that reading ends with.
pub file_of_read : (b : List ℕ) → Bytes b → (s : Schedule) → read_file b ≡ Ok s → Ends b s
unfolding tasks_bytes chains_bytes gap_bytes
file_of_read b is s h = read_ends (length b) [] [] 0 0 b b s is start refl h
  where
    start : SoFar [] [] 0
    start = record { few = omega arith; tasks_right = fault_none 1 0; few_chains = omega arith; placed = no_chain_holds; some = λ k. absurd (omega arith); permitted = omega arith; chained = λ k. absurd (omega arith) }
