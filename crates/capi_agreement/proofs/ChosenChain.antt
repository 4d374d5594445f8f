-- mo_chain_of_schedule and the calls on chains that take flat, 36, chain_places and the schedule's gap: from code 0 they get the chain with that number (`chosen_for_c`), which only 7 can refuse (`chosen_checked`);
-- from any other code every one of them refuses with 8 (`not_chosen`), also where a caller does not look at the code. Of a file that is read, each number up to the count of chains is chosen (`read_then_chosen`).
use Rattle.std.specs.Prelude.{ℕ, ◌*◌, ◌≤◌, ◌≡◌, List, [], ◌∷◌, length, get_or, take, replicate, Ok, Err, Result}
use Rattle.std.proofs.Common.{arith, sym, ap, ◌∙◌, subst}
use Rattle.refusal.specs.declared.Refusal.{Refusal}
use Rattle.refusal.specs.Refusals.{refusal, none, code_of}
use Rattle.chain.specs.declared.Chain.{Chain}
use Rattle.chain.specs.Chains.{given_of, tasks_of}
use Rattle.chain.specs.Checks.{hyper_verdict, verdict_of}
use Rattle.chain.specs.StandsFor.{eight}
use Rattle.little_endian.specs.LittleEndian.{Bytes}
use Rattle.schedule.specs.declared.Schedule.{Schedule}
use Rattle.schedule.specs.Schedules.{chain_at}
use Rattle.schedule_checks.specs.Checks.{choice_of, chosen_of}
use Rattle.schedule_checks.proofs.SoundSchedule.{SoundSchedule}
use Rattle.schedule_checks.proofs.SoundChain.{sound_twelve, sound_placed, sound_chain}
use Rattle.schedule_checks.proofs.SameSchedule.{SameSchedule, chain_same, choice_same}
use Rattle.schedule_checks.proofs.ChosenChain.{chosen_chain, none_chosen_holds, choice_sound, choice_there}
use Rattle.file_reader.specs.Reading.{read_file}
use Rattle.round_trip.proofs.RoundTrips.{read_arrays, read_sound, read_places}
use Rattle.timing.specs.WarmUp.{warm_tick}
use Rattle.timing.specs.Delay.{delay_at, first_aged, age_at}
use Rattle.timing.specs.Answers.{warm_up_after, warm_up_of, span_after}
use Rattle.maker.specs.Making.{after_checks, judged, made_after, written_after, starts_of, latencies_of, overlay}
use Rattle.maker.proofs.Lists.{sets_overlay}
use Rattle.windows.specs.Windows.{after_limits, windows_after}
use Rattle.capi_timing.specs.Calls.{verdict_code, verdict_hyper, span_code, span_ticks, warm_code, warm_job_numbers, warm_tick_number, warm_hyper_number, GivesCheck, GivesWarmUp, GivesDelay, GivesAge}
use Rattle.capi_maker.specs.Calls.{made_code, made_numbers, GivesTable}
use Rattle.sections.specs.Sections.{after_cuts, sections_after}
use Rattle.capi_windows.specs.Calls.{window_numbers, GivesWindows}
use Rattle.capi_sections.specs.Calls.{sections_code, latency_numbers, count_number, sum_number, GivesSections}
use Rattle.capi_file.specs.Calls.{GivesSchedule, chosen_code, chosen_flat, chosen_places, GivesChain}
use Rattle.capi_file.specs.RoundTrips.{schedule_read, given_schedule, same_given}
use Rattle.capi_chain.specs.FlatChain.{places_of, chain_from}
use Rattle.capi_chain.specs.Front.{chain_given_back, chain_count, places_given}
use Rattle.capi_schedule.specs.FlatSchedule.{count_from, held_from, schedule_from}
use Rattle.capi_schedule.specs.GivenBack.{from_arrays, SameChains}
use Rattle.capi_agreement.specs.Codes.{chosen_zero}

-- ---- a refused chain is refused by every call on chains, with the same refusal, zeros in every number lent, and lists as they were

pub record RefusedByAll (c : Chain) (r : Refusal) : Type 0 where
  pub check : (code hyperperiod : ℕ) → GivesCheck c code hyperperiod → (code ≡ code_of r) × (hyperperiod ≡ 0)
  pub warm_up : (code : ℕ) (jobs : List ℕ) (tick hyperperiod : ℕ) → GivesWarmUp (warm_up_of c) code jobs tick hyperperiod
      → (code ≡ code_of r) × (jobs ≡ replicate 12 0) × (tick ≡ 0) × (hyperperiod ≡ 0)
  pub delay : (t code ticks : ℕ) → GivesDelay c t code ticks → (code ≡ code_of r) × (ticks ≡ 0)
  pub age : (z code ticks : ℕ) → GivesAge c z code ticks → (code ≡ code_of r) × (ticks ≡ 0)
  pub make_table : (p : ℕ) (s v : List ℕ) (code : ℕ) (s' v' figures : List ℕ) → GivesTable c p s v code s' v' figures
      → (code ≡ code_of r) × (figures ≡ 0 ∷ 0 ∷ 0 ∷ 0 ∷ []) × (s ≡ s') × (v ≡ v')
  pub windows : (B k code misses first : ℕ) → GivesWindows c B k code misses first → (code ∷ misses ∷ first ∷ []) ≡ code_of r ∷ 0 ∷ 0 ∷ []
  pub sections : (cuts : List ℕ) (code : ℕ) (latencies : List ℕ) (count sum : ℕ) → GivesSections c cuts code latencies count sum
      → (code ≡ code_of r) × (latencies ≡ replicate 12 0) × (count ≡ 0) × (sum ≡ 0)

pub refused_by_all : (c : Chain) (r : Refusal) → verdict_of c ≡ Err r → RefusedByAll c r
unfolding warm_up_after span_after judged made_after written_after windows_after sections_after
refused_by_all c r e = record {
  check = λ code h g. (g.0 ∙ ap verdict_code e, g.1 ∙ ap verdict_hyper e);
  warm_up = λ code jobs tick h g.
      let w = ap (warm_up_after (tasks_of c)) e in
      (g.answers ∙ ap warm_code w, g.gives_jobs ∙ ap warm_job_numbers w, g.gives_tick ∙ ap warm_tick_number w, g.gives_hyperperiod ∙ ap warm_hyper_number w);
  delay = λ t code ticks g. span_refused (warm_tick (tasks_of c)) t (delay_at (tasks_of c) t) code ticks g;
  age = λ z code ticks g. span_refused (first_aged (tasks_of c)) z (age_at (tasks_of c) z) code ticks g;
  make_table = λ p s v code s' v' figures g.
      let j : judged c p (length s) (length v) ≡ Err r = ap (λ (x : Result ℕ Refusal). after_checks x c.places p (length s) (length v)) e in (
        g.answers ∙ ap (λ (x : Result ℕ Refusal). made_code (made_after c p (length s) x)) j,
        g.gives_figures ∙ ap (λ (x : Result ℕ Refusal). made_numbers (made_after c p (length s) x)) j,
        sym (g.leaves_starts ∙ ap (λ (x : Result ℕ Refusal). overlay (starts_of (written_after c p x)) s) j ∙ sym (sets_overlay [] s)),
        sym (g.leaves_latencies ∙ ap (λ (x : Result ℕ Refusal). overlay (latencies_of (written_after c p x)) v) j ∙ sym (sets_overlay [] v)),
      );
  windows = λ B k code misses first g. g ∙ ap (λ (x : Result ℕ Refusal). window_numbers (windows_after (tasks_of c) B k (after_limits x k))) e;
  sections = λ cuts code latencies count sum g.
      let w = ap (λ (x : Result ℕ Refusal). sections_after c.gap (tasks_of c) cuts (after_cuts (length (tasks_of c)) cuts x)) e in
      (g.answers ∙ ap sections_code w, g.gives_latencies ∙ ap latency_numbers w, g.gives_count ∙ ap count_number w, g.gives_sum ∙ ap sum_number w);
}
  where
    span_refused : (from t span code ticks : ℕ) → (code ≡ span_code (span_after (verdict_of c) from t span)) × (ticks ≡ span_ticks (span_after (verdict_of c) from t span)) → (code ≡ code_of r) × (ticks ≡ 0)
    span_refused from t span code ticks g =
        (g.0 ∙ ap (λ (x : Result ℕ Refusal). span_code (span_after x from t span)) e, g.1 ∙ ap (λ (x : Result ℕ Refusal). span_ticks (span_after x from t span)) e)

-- a chain of no places has none from its list
no_places : (flat : List ℕ) (held gap : ℕ) → held ≡ 0 → 1 ≤ (chain_from flat held gap).places → ⊥
no_places flat held gap e g =
    let n = chain_count flat held gap in
    let m : places_of (length flat) held ≡ held = places_given (length flat) held (omega arith) in
    omega arith

-- ---- what mo_chain_of_schedule gives

module _ (tasks : List ℕ) (count : ℕ) (chains places : List ℕ) (total gap number code : ℕ) (flat : List ℕ) (held : ℕ) (gives : GivesChain (schedule_from tasks count chains places total gap) number code flat held) where
  abbrev s : Schedule
  s = schedule_from tasks count chains places total gap

  -- the chain that a call on chains makes of it with the schedule's gap
  same : chain_from flat held gap ≡ chain_from (chosen_flat (chosen_of s number)) (chosen_places (chosen_of s number)) gap
  same = ap (λ (n : ℕ). chain_from flat n gap) gives.gives_places ∙ ap (λ (l : List ℕ). chain_from l (chosen_places (chosen_of s number)) gap) gives.gives_flat

  module _ (fine : code ≡ 0) where
    zero_number : (choice_of s number).number ≡ 0
    zero_number = chosen_zero s number (sym gives.answers ∙ fine)

    in_schedule : (SoundSchedule s) × (1 ≤ number) × (number ≤ s.chains)
    in_schedule = choice_sound s number zero_number

    -- Code 0: the calls on chains, given the schedule's gap, get the chain with that number,
    -- (what follows cites `is_chosen`, so that an edit of the theorem is refused at the theorem)
    is_chosen : chain_from flat held gap ≡ chain_at s number
    is_chosen =
        let a = from_arrays tasks count chains places total gap in
        let k = in_schedule in
        let p = sound_placed s a k.0 number k.1 k.2 in
        same ∙ ap (λ (x : Result Chain Refusal). chain_from (chosen_flat x) (chosen_places x) gap) (chosen_chain s number zero_number)
        ∙ chain_given_back (chain_at s number) (sound_twelve s a k.0 number k.1 k.2) p.1

    pub chosen_for_c : chain_from flat held gap ≡ chain_at s number
    chosen_for_c = is_chosen

    -- and of its checks only 7 can refuse it.
    pub chosen_checked : verdict_of (chain_from flat held gap) ≡ hyper_verdict (tasks_of (chain_from flat held gap))
    chosen_checked =
        let k = in_schedule in
        rw is_chosen (sound_chain s (from_arrays tasks count chains places total gap) k.0 number k.1 k.2)

  -- Any other code: every call on chains refuses with 8, whatever gap it is given.
  pub not_chosen : (code ≡ 0 → ⊥) → (d : ℕ) → RefusedByAll (chain_from flat held d) (refusal 8 0)
  not_chosen wrong d =
      let n : (choice_of s number).number ≡ 0 → ⊥ = λ z. wrong (gives.answers ∙ ap chosen_code (chosen_chain s number z)) in
      let e : held ≡ 0 = gives.gives_places ∙ ap chosen_places (none_chosen_holds s number n) in
      refused_by_all (chain_from flat held d) (refusal 8 0) (eight (chain_from flat held d).places (chain_from flat held d).gap (given_of (chain_from flat held d)) (λ g. absurd (no_places flat held d e g)))

-- Of a file that is read: each number from 1 to the count of chains is chosen, and gives that chain of the file's schedule.
-- n and m are the counts that were got, and gap is the gap. us, vs and ws hold the numbers that were got, as lists of any length that the counts fit, as in `rewritten_for_c`.
module _ (b : List ℕ) (is : Bytes b) (code : ℕ) (ts ch pl : List ℕ) (n m gap : ℕ) (reads : GivesSchedule (read_file b) code ts ch pl (n ∷ m ∷ gap ∷ [])) (fine : code ≡ 0)
    (us vs ws : List ℕ) (count : count_from (length us) n ≡ n) (tasks : take (4 * n) us ≡ take (4 * n) ts) (chained : held_from (length ws) m ≡ m) (chains : SameChains m ch pl vs ws) where
  was_read : (r : Schedule) × (read_file b ≡ Ok r)
  was_read = schedule_read b (sym reads.answers ∙ fine)

  abbrev r : Schedule
  r = was_read.0

  sound_read : SoundSchedule r
  sound_read = read_sound b is r was_read.1

  given : GivesSchedule (Ok r) code ts ch pl (n ∷ m ∷ gap ∷ [])
  given = rw was_read.1 at reads

  got : schedule_from ts n ch pl m gap ≡ r
  got = given_schedule (Ok r) code ts ch pl (n ∷ m ∷ gap ∷ []) given (read_arrays b is r was_read.1) sound_read.few sound_read.few_chains (read_places b is r was_read.1)

  -- what is chosen is looked for in the same schedule
  same_read : SameSchedule (schedule_from us n vs ws m gap) r
  same_read = subst (SameSchedule (schedule_from us n vs ws m gap)) got (same_given b is code ts ch pl n m gap reads fine us vs ws count tasks chained chains)

  pub read_then_chosen : (number : ℕ) → 1 ≤ number → number ≤ m → (code' : ℕ) (flat : List ℕ) (held : ℕ) → GivesChain (schedule_from us n vs ws m gap) number code' flat held
      → (code' ≡ 0) × ((s : Schedule) × (read_file b ≡ Ok s) × (chain_from flat held gap ≡ chain_at s number))
  read_then_chosen number low high code' flat held gives =
      let u : Schedule = schedule_from us n vs ws m gap in
      let c : m ≡ r.chains = ap (λ (l : List ℕ). get_or l 1 0) given.gives_counts in
      let z : choice_of r number ≡ none = choice_there r number sound_read low (omega arith) in
      let o : choice_of u number ≡ none = choice_same u r same_read number ∙ z in
      let k : code' ≡ 0 = gives.answers ∙ ap chosen_code (chosen_chain u number (ap (λ (x : Refusal). x.number) o)) in
      (k, (r, was_read.1, is_chosen us n vs ws m gap number code' flat held gives k ∙ chain_same u r same_read number))
