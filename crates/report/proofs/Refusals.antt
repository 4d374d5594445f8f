-- The report of a file that is read: the text of its chains (`read_report`), of each the text of its table, or the one line of 7 or that of 11, both at place 0 (`read_part`).
use Rattle.std.specs.Prelude.{ℕ, ◌-◌, ◌≤◌, ◌≡◌, refl, Bool, true, false, cond, List, leb, length, Err, Ok, Result}
use Rattle.std.proofs.Common.{arith, ap, ◌∙◌}
use Rattle.maker.specs.declared.Unmade.TheVariants.{Short}
use Rattle.refusal.specs.declared.Refusal.{Refusal}
use Rattle.refusal.specs.Refusals.{refusal}
use Rattle.chain.specs.declared.Chain.{Chain}
use Rattle.chain.specs.Chains.{tasks_of}
use Rattle.chain.specs.Hyperperiod.{hyper_of}
use Rattle.chain.specs.Checks.{hyper_verdict}
use Rattle.little_endian.specs.LittleEndian.{Bytes}
use Rattle.schedule.specs.declared.Schedule.{Schedule}
use Rattle.schedule.specs.Schedules.{chain_at}
use Rattle.schedule_checks.proofs.SoundChain.{sound_twelve, sound_placed, sound_length, sound_chain}
use Rattle.file_reader.specs.Reading.{read_file}
use Rattle.round_trip.proofs.RoundTrips.{read_arrays, read_sound}
use Rattle.table.specs.Anchors.{Anchor}
use Rattle.partition.specs.Partitions.{anchors_of}
use Rattle.maker.specs.declared.Figures.{Figures}
use Rattle.maker.specs.Making.{judged, figures_of, made_after, written_after}
use Rattle.table_text.specs.TableText.{refused_text, text_of_table}
use Rattle.latency.specs.LongestPlace.{longest_place, longest_place_holds}
use Rattle.latency.specs.Ties.{inside}
use Rattle.report.specs.Report.{made_text, chain_text, schedule_text, file_text, report_of}

pub data TableOrRefusal (text : List ℕ) : Type 0 where
  table : (f : Figures) (l : List Anchor) → text ≡ text_of_table f l → TableOrRefusal text
  seven : text ≡ refused_text (refusal 7 0) → TableOrRefusal text
  eleven : text ≡ refused_text (refusal 11 0) → TableOrRefusal text

-- the text by what making judged
abbrev judged_text : ℕ → Chain → ℕ → Result ℕ Refusal → List ℕ
judged_text slots c p v = made_text (made_after c p slots v) (written_after c p v)

-- what making in so many slots gives of a chain whose hyperperiod alone is judged
hyper_text : (slots : ℕ) (c : Chain) (p : ℕ) → TableOrRefusal (judged_text slots c p (hyper_verdict (tasks_of c)))
unfolding hyper_verdict made_after written_after made_text
hyper_text slots c p = go (leb h 60000000)
  where
    h : ℕ
    h = hyper_of (tasks_of c)

    go : (x : Bool) → TableOrRefusal (judged_text slots c p (cond x (Ok h) (Err (refusal 7 0))))
    go true = short (leb (length (anchors_of (tasks_of c) (p - 1) h)) slots)
      where
        short : (z : Bool) → TableOrRefusal (made_text (cond z (Ok (figures_of c p h)) (Err (Short (figures_of c p h)))) (anchors_of (tasks_of c) (p - 1) h))
        short true = table (figures_of c p h) (anchors_of (tasks_of c) (p - 1) h) refl
        short false = eleven refl
    go false = seven refl

-- Of a file that is read, every chain has the text of its table, or the one line of 7 or that of 11.
module _ (b : List ℕ) (is : Bytes b) (s : Schedule) (fine : read_file b ≡ Ok s) where
  -- the text of chain 1, of chain 2, and so on (`parts_text`); what each of them is, is `read_part`
  pub read_report : report_of b ≡ schedule_text 1024 s
  unfolding file_text
  read_report = ap file_text fine

  pub read_part : (n : ℕ) → 1 ≤ n → n ≤ s.chains → TableOrRefusal (chain_text 1024 (chain_at s n))
  unfolding chain_text
  read_part n some few =
      let c : Chain = chain_at s n in
      let a = read_arrays b is s fine in
      let k = read_sound b is s fine in
      let placed = sound_placed s a k n some few in
      let m = sound_length s a k n some few in
      let l = longest_place_holds (tasks_of c) (omega (arith, placed.0)) in
      let e : judged c (longest_place (tasks_of c)) 1024 1024 ≡ hyper_verdict (tasks_of c)
      = inside c (sound_twelve s a k n some few) 1024 (longest_place (tasks_of c)) l.some (omega (arith, l.inside)) ∙ sound_chain s a k n some few in
      rw e (hyper_text 1024 c (longest_place (tasks_of c)))
