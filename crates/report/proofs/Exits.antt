-- What making says is what the text says, and what a completed table is written from.
use Rattle.std.specs.Prelude.{Err, Ok, Result}
use Prim.Native.Nat.{ℕ, ◌≤◌}
use native.Mathlib.Omega.{arith}
use mathlib.Core.Path.{◌≡◌, refl, sym, ap, ◌∙◌, subst}
use mathlib.Core.Bool.{true}
use mathlib.Core.List.{List}
use lib.ListN.{length}
use lib.Seq.{sets}
use Rattle.maker.specs.declared.Unmade.TheVariants.{Refused, Short}
use Rattle.maker.specs.declared.Unmade.{Unmade}
use Rattle.refusal.specs.declared.Refusal.{Refusal}
use Rattle.refusal.specs.Refusals.{refusal}
use Rattle.chain.specs.declared.Chain.{Chain}
use Rattle.chain.specs.Chains.{tasks_of}
use Rattle.chain.specs.Checks.{verdict_of}
use Rattle.little_endian.specs.LittleEndian.{Bytes}
use Rattle.schedule.specs.declared.Schedule.{Schedule}
use Rattle.file_reader.specs.Reading.{read_file}
use Rattle.round_trip.proofs.RoundTrips.{read_sound}
use Rattle.table.specs.Anchors.{Anchor, anchors}
use Rattle.table.specs.WellFormed.{well_formed}
use Rattle.maker.specs.declared.Figures.{Figures}
use Rattle.maker.specs.Making.{after_checks, judged, made_after, made_of, written_after, written_of, Makes}
use Rattle.maker.proofs.Lists.{sets_overlay}
use Rattle.agreement.specs.MadeTable.{Completed, done, starts_length, latencies_length, made_anchors, made_well_formed}
use Rattle.text.specs.Text.{Puts}
use Rattle.table_text.specs.TableText.{refused_text, text_of_table}
use Rattle.latency.specs.LongestPlace.{longest_place}
use Rattle.report.specs.Report.{made_text, chain_text, schedule_text, file_text, report_of, longest_text, Reports}

module _ (c : Chain) (twelve : length c.tasks ≡ 12) (p : ℕ) (s v s' v' : List ℕ) (m : Result Figures Unmade) (long : length s ≡ 1024) (wide : length v ≡ 1024)
    (place : (h : ℕ) → verdict_of c ≡ Ok h → p ≡ longest_place (tasks_of c)) (makes : Makes c p s v s' v' m) where
  -- anything of the lengths, the place and what making judged; a refusal does not look at the place
  here : {A : Type 0} (f : ℕ → ℕ → Result ℕ Refusal → A) → ((n : ℕ) (r : Refusal) → f n p (Err r) ≡ f n (longest_place (tasks_of c)) (Err r))
      → f (length s) p (judged c p (length s) (length v)) ≡ f 1024 (longest_place (tasks_of c)) (judged c (longest_place (tasks_of c)) 1024 1024)
  unfolding judged
  here f same =
      ap (λ (n : ℕ). f n p (judged c p n (length v))) long ∙ ap (λ (n : ℕ). f 1024 p (judged c p 1024 n)) wide
      ∙ go (verdict_of c) refl
    where
      go : (x : Result ℕ Refusal) → verdict_of c ≡ x → f 1024 p (after_checks x c.places p 1024 1024) ≡ f 1024 (longest_place (tasks_of c)) (after_checks x c.places (longest_place (tasks_of c)) 1024 1024)
      go (Err r) e = same 1024 r
      go (Ok h) e = ap (λ (q : ℕ). f 1024 q (after_checks (Ok h) c.places q 1024 1024)) (place h e)

  answer : m ≡ made_of c (longest_place (tasks_of c)) 1024 1024
  unfolding made_after
  answer = makes.answer ∙ here (λ n q x. made_after c q n x) (λ n r. refl)

  says : (k : Result Figures Unmade) (l : List Anchor) → m ≡ k → l ≡ written_of c (longest_place (tasks_of c)) 1024 1024 → made_text k l ≡ chain_text 1024 c
  unfolding chain_text
  says k l e f = ap (λ (x : Result Figures Unmade). made_text x l) (sym e ∙ answer) ∙ ap (made_text (made_of c (longest_place (tasks_of c)) 1024 1024)) f

  pub chain_refused : (r : Refusal) (k o : List ℕ) (at to : ℕ) → m ≡ Err (Refused r) → Puts (refused_text r) at k o to → Puts (chain_text 1024 c) at k o to
  unfolding made_text
  chain_refused r k o at to e q = subst (λ (x : List ℕ). Puts x at k o to) (says (Err (Refused r)) (written_of c (longest_place (tasks_of c)) 1024 1024) e refl) q

  pub chain_short : (f : Figures) (k o : List ℕ) (at to : ℕ) → m ≡ Err (Short f) → Puts (refused_text (refusal 11 0)) at k o to → Puts (chain_text 1024 c) at k o to
  unfolding made_text
  chain_short f k o at to e q = subst (λ (x : List ℕ). Puts x at k o to) (says (Err (Short f)) (written_of c (longest_place (tasks_of c)) 1024 1024) e refl) q

  module _ (f : Figures) (whole : m ≡ Ok f) where
    made : Makes c p s v s' v' (Ok f)
    made = rw whole at makes

    complete : Completed c p (length s) (length v) f
    complete = done c twelve p s v s' v' f made

    pub well_made : (well_formed s' v' f.anchors f.hyperperiod ≡ true) × (length s' ≡ 1024) × (length v' ≡ 1024) × (f.anchors ≤ 1024)
    well_made = (
      made_well_formed c twelve p s v s' v' f made,
      starts_length c twelve p s v s' v' f made ∙ long,
      latencies_length c twelve p s v s' v' f made ∙ wide,
      omega (arith, complete.fit),
    )

    written : anchors s' v' f.anchors ≡ written_of c (longest_place (tasks_of c)) 1024 1024
    unfolding written_after
    written = made_anchors c twelve p s v s' v' f made ∙ sym (ap (written_after c p) complete.says ∙ complete.cut) ∙ here (λ n q x. written_after c q x) (λ n r. refl)

    pub chain_whole : (k o : List ℕ) (at to : ℕ) → Puts (text_of_table f (anchors s' v' f.anchors)) at k o to → Puts (chain_text 1024 c) at k o to
    unfolding made_text
    chain_whole k o at to q = subst (λ (x : List ℕ). Puts x at k o to) (says (Ok f) (anchors s' v' f.anchors) whole written) q

-- ---- the file

module _ (b : List ℕ) where
  pub file_refused : (r : Refusal) → Err r ≡ read_file b → refused_text r ≡ report_of b
  unfolding file_text
  file_refused r e = ap file_text e

  pub file_read : (s : Schedule) → Ok s ≡ read_file b → schedule_text 1024 s ≡ report_of b
  unfolding file_text
  file_read s e = ap file_text e

-- a file that is read has at most four chains
pub few_chains : (b : List ℕ) → Bytes b → (s : Schedule) → Ok s ≡ read_file b → s.chains ≤ 4
few_chains b is s e = (read_sound b is s (sym e)).few_chains

-- a text from the front, as the answer and the lent bytes show it
pub reported : (bytes text old new : List ℕ) (n : ℕ) → text ≡ report_of bytes → Puts text 0 old new n → n ≤ longest_text → Reports bytes old new n
reported bytes text old new n e p h = record {
  answers = p.ends ∙ (omega arith) ∙ ap length e;
  leaves = p.leaves ∙ ap (sets old 0) e ∙ sets_overlay (report_of bytes) old;
  short = h;
}
