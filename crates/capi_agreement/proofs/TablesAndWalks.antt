-- Demand 3 of the calls for C, with any gap (order 5), from their own contracts: from code 0 of mo_make_table, mo_read_table gives at every tick what mo_delay gives (`table_is_walk_for_c`),
-- two cuts leave the same entries below g (`cuts_agree_for_c`), and mo_greatest's latency is the greatest delay of mo_delay and 1 + the greatest age of mo_age
-- (`greatest_for_c`), and at most the sum of mo_sections, however the chain is cut (`sections_for_c`), which it is with no cut (`no_cut_for_c`). When mo_make_table answers 0 is `completes_for_c`. And mo_mean's two numbers give the mean of the walk's delay at every time of a hyperperiod (`mean_for_c`); mo_histogram's entries and rest count the walk's delays (`counts_for_c`).
use Rattle.std.specs.Prelude.{ℕ, ◌+◌, ◌*◌, ◌/◌, ◌≤◌, ◌<◌, ◌≡◌, refl, List, [], ◌∷◌, get_or, Ok, Result}
use Rattle.std.proofs.Common.{arith, sym, ◌∙◌, get_or-take}
use Rattle.std.proofs.Math.Path.{ap}
use Rattle.std.proofs.Math.ListN.{length}
use Rattle.std.proofs.Math.Seq.{length-take-le}
use borrow.Author.Tests.{le-leb}
use Rattle.refusal.specs.declared.Refusal.{Refusal}
use Rattle.task.specs.Jobs.{place_of}
use Rattle.chain.specs.declared.Chain.{Chain}
use Rattle.chain.specs.Chains.{given_of, tasks_of, at, zero_task}
use Rattle.chain.specs.Placed.{at_placed}
use Rattle.chain.specs.Checks.{verdict_of}
use Rattle.chain.proofs.CheckLaws.{Facts, accepted}
use Rattle.timing.specs.WarmUp.{warm_tick}
use Rattle.timing.specs.Delay.{delay_at, first_aged, age_at}
use Rattle.timing.specs.Answers.{upper_tick}
use Rattle.timing.specs.Spans.{span_answered}
use Rattle.timing.specs.FinerClock.{delay_timed}
use Rattle.table.specs.Reading.{reading, word_of, GivesWord}
use Rattle.table.specs.Words.{word_small}
use Rattle.figures.specs.Figures.{greatest_of, mean_of}
use Rattle.figures.specs.Integral.{Integral}
use Rattle.histogram.specs.Histogram.{histogram_of, Gives}
use Rattle.histogram.proofs.EveryHyperperiod.{Counts, counts_same}
use Rattle.maker.specs.declared.Figures.{Figures}
use Rattle.maker.specs.Making.{judged, Makes}
use Rattle.maker.proofs.Exits.{tells_so}
use Rattle.agreement.specs.Agreement.{SameGreatest, held, table_is_walk, cuts_agree, greatest_is_delay_and_age}
use Rattle.agreement.specs.MeanByArea.{mean_is_integral}
use Rattle.agreement.specs.DelayCounts.{counts_walks}
use Rattle.agreement.specs.EveryChain.{Asked, room_enough}
use Rattle.capi_chain.specs.FlatChain.{task_at, chain_from}
use Rattle.capi_chain.specs.Front.{chain_at_holds, chain_twelve, places_inside, chain_count, places_given}
use Rattle.capi_timing.specs.Calls.{span_code, span_ticks, GivesCheck, GivesDelay, GivesAge}
use Rattle.capi_figures.specs.Calls.{greatest_numbers, GivesGreatest, mean_numbers, GivesMean}
use Rattle.capi_histogram.specs.Calls.{histogram_numbers, GivesHistogram}
use Rattle.capi_maker.specs.Calls.{made_code, made_numbers, GivesTable}
use Rattle.latency.specs.Latency.{greatest_latency}
use Rattle.latency.specs.GreatestDelay.{table_greatest}
use Rattle.capi_sections.specs.Calls.{GivesSections}
use Rattle.capi_sections.specs.EveryCut.{whole_for_c, whole_answer_for_c}
use Rattle.capi_agreement.specs.Codes.{check_zero, span_zero, made_zero}

-- figures of mo_make_table: g, the warm-up tick and h.
abbrev pub count : List ℕ → ℕ
count figures = get_or figures 0 0

abbrev pub tick : List ℕ → ℕ
tick figures = get_or figures 1 0

abbrev pub hyper : List ℕ → ℕ
hyper figures = get_or figures 2 0

-- "At every tick from the warm-up tick to MO_UPPER_TICK it gives the delay that mo_delay gives": neither refuses, and the word is the delay.
pub record SameWord (code delay word : ℕ) : Type 0 where
  pub walked : code ≡ 0
  pub read : word ≡ delay
  pub small : word < 4294967296

-- Two cuts leave the same number of anchors and, one by one, the same entries.
pub record SameEntries (starts latencies starts'' latencies'' figures figures'' : List ℕ) : Type 0 where
  pub number : count figures ≡ count figures''
  pub start : (i : ℕ) → i < count figures → get_or starts i 0 ≡ get_or starts'' i 0
  pub latency : (i : ℕ) → i < count figures → get_or latencies i 0 ≡ get_or latencies'' i 0

-- The greatest that mo_delay gives and 1 + the greatest that mo_age gives, at ticks that they do not refuse: no tick has more, and one has it.
pub record GreatestForC (c : Chain) (latency : ℕ) : Type 0 where
  pub delay_within : (t code delay : ℕ) → GivesDelay c t code delay → code ≡ 0 → delay ≤ latency
  pub delay_at_holds : ℕ
  pub delay_meets : (code delay : ℕ) → GivesDelay c delay_at_holds code delay → (code ≡ 0) × (delay ≡ latency)
  pub age_within : (z code age : ℕ) → GivesAge c z code age → code ≡ 0 → 1 + age ≤ latency
  pub age_at_holds : ℕ
  pub age_meets : (code age : ℕ) → GivesAge c age_at_holds code age → (code ≡ 0) × (1 + age ≡ latency)

-- The mean by area: twice the integral of the walk's delay over h ticks, from any tick on that is not before the warm-up tick, and twice h.
pub record MeanForC (c : Chain) (from h area ticks : ℕ) : Type 0 where
  pub integral : (t : ℕ) → from ≤ t → Integral (delay_timed (tasks_of c)) (delay_at (tasks_of c)) t h area
  pub doubled_ticks : ticks ≡ 2 * h

-- A histogram: the list and the rest count the walk's delays of the h ticks from any tick on that is not before the warm-up tick; and where none of these ticks is above the upper
-- one, what mo_delay gives at each of them.
pub record CountsForC (c : Chain) (from h width : ℕ) (list : List ℕ) (rest : ℕ) : Type 0 where
  pub walked : (t : ℕ) → from ≤ t → Counts (delay_at (tasks_of c)) t h width list rest
  pub delayed : (t : ℕ) → from ≤ t → t + h ≤ upper_tick + 1 → (delay : ℕ → ℕ) → ((u : ℕ) → t ≤ u → u < t + h → (code : ℕ) × GivesDelay c u code (delay u)) → Counts delay t h width list rest

module _ (tasks : List ℕ) (places gap : ℕ) where
  abbrev c : Chain
  c = chain_from tasks places gap

  twelve : length c.tasks ≡ 12
  twelve = chain_twelve tasks places gap

  -- a making for C with code 0 is a making with a whole table
  record Done (p : ℕ) (s v s' v' figures : List ℕ) : Type 0 where
    given : Figures
    makes : Makes c p s v s' v' (Ok given)
    anchors : count figures ≡ given.anchors
    from : tick figures ≡ given.tick.0
    hyperperiod : hyper figures ≡ given.hyperperiod

  module _ (p : ℕ) (s v : List ℕ) (code : ℕ) (s' v' figures : List ℕ) (table : GivesTable c p s v code s' v' figures) (fine : code ≡ 0) where
    done : Done p s v s' v' figures
    done =
        let w = made_zero c p (length s) (length v) (sym table.answers ∙ fine) in
        let n = table.gives_figures ∙ ap made_numbers w.made in
        record {
          given = w.figures;
          makes = record { answer = sym w.made; tells = tells_so c p (length s) (judged c p (length s) (length v)) (Ok w.figures) (sym w.made); leaves_starts = table.leaves_starts; leaves_latencies = table.leaves_latencies };
          anchors = ap (λ (l : List ℕ). get_or l 0 0) n;
          from = ap (λ (l : List ℕ). get_or l 1 0) n;
          hyperperiod = ap (λ (l : List ℕ). get_or l 2 0) n;
        }

    -- what is read with the numbers that C got
    read_given : (t : ℕ) → reading s' v' (count figures) (hyper figures) t ≡ reading s' v' done.given.anchors done.given.hyperperiod t
    read_given t = ap (λ (x : ℕ). reading s' v' x (hyper figures) t) done.anchors ∙ ap (λ (x : ℕ). reading s' v' done.given.anchors x t) done.hyperperiod

    pub table_is_walk_for_c : (t : ℕ) → tick figures ≤ t → t ≤ upper_tick → (word : ℕ) → GivesWord s' v' (count figures) (hyper figures) t word
        → (code' delay : ℕ) → GivesDelay c t code' delay → SameWord code' delay word
    table_is_walk_for_c t low high word reads code' delay walks =
        let a = table_is_walk c twelve p s v s' v' done.given done.makes t (omega (arith, done.from)) high in
        let r = read_given t ∙ a.read in
        let d : word ≡ a.delay = reads ∙ ap word_of r in
        record {
          walked = walks.0 ∙ ap span_code a.walked;
          read = d ∙ sym (walks.1 ∙ ap span_ticks a.walked);
          small = omega (arith, word_small s' v' (count figures) (hyper figures) t a.delay r);
        }

    agreed : SameGreatest c s' v' done.given
    agreed = greatest_is_delay_and_age c twelve p s v s' v' done.given done.makes

    greatest_numbers_holds : (code' latency : ℕ) → GivesGreatest s' v' (count figures) (hyper figures) code' latency → (code' ∷ latency ∷ []) ≡ 0 ∷ agreed.latency ∷ []
    greatest_numbers_holds code' latency g =
        g ∙ ap (λ (x : ℕ). greatest_numbers (greatest_of s' v' x (hyper figures))) done.anchors
        ∙ ap (λ (x : ℕ). greatest_numbers (greatest_of s' v' done.given.anchors x)) done.hyperperiod ∙ ap greatest_numbers agreed.answered

    delays_within : (t code' delay : ℕ) → GivesDelay c t code' delay → code' ≡ 0 → delay ≤ agreed.latency
    delays_within t code' delay g e =
        let z = span_zero c (warm_tick (tasks_of c)) t (delay_at (tasks_of c) t) (sym g.0 ∙ e) in
        let k = span_answered (verdict_of c) (warm_tick (tasks_of c)) t (delay_at (tasks_of c) t) _ z in
        omega (arith, g.1, k.is, agreed.greatest_delay.bound t (omega (arith, k.early, (held c twelve p s v s' v' done.given done.makes).tick)) k.late)

    ages_within : (z code' age : ℕ) → GivesAge c z code' age → code' ≡ 0 → 1 + age ≤ agreed.latency
    ages_within z code' age g e =
        let q = span_zero c (first_aged (tasks_of c)) z (age_at (tasks_of c) z) (sym g.0 ∙ e) in
        let k = span_answered (verdict_of c) (first_aged (tasks_of c)) z (age_at (tasks_of c) z) _ q in
        omega (arith, g.1, k.is, agreed.greatest_age.bound z k.early k.late)

    pub greatest_for_c : (code' latency : ℕ) → GivesGreatest s' v' (count figures) (hyper figures) code' latency → (code' ≡ 0) × GreatestForC c latency
    greatest_for_c code' latency g =
        let n = greatest_numbers_holds code' latency g in
        let top : latency ≡ agreed.latency = ap (λ (l : List ℕ). get_or l 1 0) n in
        let peak = agreed.greatest_delay in
        let old = agreed.greatest_age in
        let w = agreed.walked peak.at peak.from peak.upto in
        let o = agreed.aged old.at old.from old.upto in (
          ap (λ (l : List ℕ). get_or l 0 0) n,
          record {
            delay_within = λ t k delay q e. omega (arith, delays_within t k delay q e);
            delay_at_holds = peak.at;
            delay_meets = λ k delay q. (q.0 ∙ ap span_code w, q.1 ∙ ap span_ticks w ∙ peak.meets ∙ sym top);
            age_within = λ z k age q e. omega (arith, ages_within z k age q e);
            age_at_holds = old.at;
            age_meets = λ k age q. (q.0 ∙ ap span_code o, omega (arith, q.1 ∙ ap span_ticks o, old.meets));
          },
        )

    module _ (code' latency : ℕ) (g : GivesGreatest s' v' (count figures) (hyper figures) code' latency) where
      of_chain : latency ≡ greatest_latency (tasks_of c)
      of_chain =
          let n : (code' ∷ latency ∷ []) ≡ 0 ∷ greatest_latency (tasks_of c) ∷ []
          = g ∙ ap (λ (x : ℕ). greatest_numbers (greatest_of s' v' x (hyper figures))) done.anchors
          ∙ ap (λ (x : ℕ). greatest_numbers (greatest_of s' v' done.given.anchors x)) done.hyperperiod
          ∙ ap greatest_numbers (table_greatest c twelve p s v s' v' done.given done.makes) in
          ap (λ (l : List ℕ). get_or l 1 0) n

      -- Order 6: mo_greatest's latency is at most the sum that mo_sections gives of the same chain, and each cut adds at least 1.
      pub sections_for_c : (cuts latencies : List ℕ) (code'' parts sum : ℕ) → GivesSections c cuts code'' latencies parts sum → code'' ≡ 0 → (latency ≤ sum) × (latency + length cuts ≤ sum)
      sections_for_c cuts latencies code'' parts sum gives zero =
          let w = whole_for_c tasks places gap cuts latencies code'' parts sum gives zero in
          (omega (arith, of_chain, w.0), omega (arith, of_chain, w.1))

      -- With no cut it is the sum.
      pub no_cut_for_c : (latencies : List ℕ) (code'' parts sum : ℕ) → GivesSections c [] code'' latencies parts sum → code'' ≡ 0 → latency ≡ sum
      no_cut_for_c latencies code'' parts sum gives zero = of_chain ∙ sym (whole_answer_for_c tasks places gap latencies code'' parts sum gives zero)

    pub mean_for_c : (code' area ticks : ℕ) → GivesMean s' v' (count figures) (hyper figures) code' area ticks → (code' ≡ 0) × MeanForC c (tick figures) (hyper figures) area ticks
    mean_for_c code' area ticks g =
        let m = mean_is_integral c twelve p s v s' v' done.given done.makes in
        let n : (code' ∷ area ∷ ticks ∷ []) ≡ 0 ∷ m.doubled ∷ (2 * done.given.hyperperiod) ∷ []
        = g ∙ ap (λ (x : ℕ). mean_numbers (mean_of s' v' x (hyper figures))) done.anchors
        ∙ ap (λ (x : ℕ). mean_numbers (mean_of s' v' done.given.anchors x)) done.hyperperiod ∙ ap mean_numbers m.answered in
        let e : area ≡ m.doubled = ap (λ (l : List ℕ). get_or l 1 0) n in
        let k : ticks ≡ 2 * done.given.hyperperiod = ap (λ (l : List ℕ). get_or l 2 0) n in (
          ap (λ (l : List ℕ). get_or l 0 0) n,
          record { integral = λ t h. rw (e, done.hyperperiod) (m.integral t (omega (arith, done.from))); doubled_ticks = omega (arith, k, done.hyperperiod) },
        )

    -- Order 7: the list and the rest of mo_histogram count the walk's delays.
    pub counts_for_c : (width : ℕ) (counts list : List ℕ) (code' rest : ℕ) → GivesHistogram s' v' (count figures) (hyper figures) width counts list code' rest → 1 ≤ width
        → (code' ≡ 0) × CountsForC c (tick figures) (hyper figures) width list rest
    counts_for_c width counts list code' rest g some =
        let f = done.given in
        let r : Result ℕ Refusal = histogram_of s' v' f.anchors f.hyperperiod width (length counts) in
        let same : Gives s' v' f.anchors f.hyperperiod width counts list r = record { answer = refl; leaves = rw (← done.anchors, ← done.hyperperiod) g.leaves } in
        let k = counts_walks c twelve p s v s' v' f done.makes width counts list r same some in
        let n : (code' ∷ rest ∷ []) ≡ 0 ∷ k.rest ∷ []
        = g.answers ∙ ap (λ (x : ℕ). histogram_numbers (histogram_of s' v' x (hyper figures) width (length counts))) done.anchors
        ∙ ap (λ (x : ℕ). histogram_numbers (histogram_of s' v' f.anchors x width (length counts))) done.hyperperiod ∙ ap histogram_numbers k.answered in
        let e : rest ≡ k.rest = ap (λ (l : List ℕ). get_or l 1 0) n in
        let walked : (t : ℕ) → tick figures ≤ t → Counts (delay_at (tasks_of c)) t (hyper figures) width list rest = λ t h. rw (e, done.hyperperiod) (k.counts t (omega (arith, done.from))) in (
          ap (λ (l : List ℕ). get_or l 0 0) n,
          record {
            walked = walked;
            delayed = λ t low high delay gives.
                counts_same _ t (hyper figures) width list rest (walked t low) delay
                (λ u from below.
                let q = gives u from below in
                sym (q.1.1 ∙ ap span_ticks (agreed.walked u (omega (arith, done.from)) (omega arith))));
          },
        )

  pub cuts_agree_for_c : (p q : ℕ) (s v : List ℕ) (code : ℕ) (s' v' figures : List ℕ) → GivesTable c p s v code s' v' figures → code ≡ 0
      → (x y : List ℕ) (code'' : ℕ) (x' y' figures'' : List ℕ) → GivesTable c q x y code'' x' y' figures'' → code'' ≡ 0
      → SameEntries s' v' x' y' figures figures''
  cuts_agree_for_c p q s v code s' v' figures table fine x y code'' x' y' figures'' other too =
      let d = done p s v code s' v' figures table fine in
      let e = done q x y code'' x' y' figures'' other too in
      let a = cuts_agree c twelve p q s v s' v' d.given d.makes x y x' y' e.given e.makes in
      record {
        number = d.anchors ∙ a.number ∙ sym e.anchors;
        start = λ i h. a.start i (omega (arith, d.anchors));
        latency = λ i h. a.latency i (omega (arith, d.anchors));
      }

  -- Of a chain that mo_check accepts, mo_make_table answers 0 at each place p, from lists of equal length of at least h / T entries, T being the period at any place: tasks[3 * i], i from 0.
  module _ (code h : ℕ) (checks : GivesCheck c code h) (fine : code ≡ 0) where
    is_accepted : verdict_of c ≡ Ok h
    is_accepted = check_zero c (sym checks.0 ∙ fine) ∙ ap Ok (sym checks.1)

    facts : Facts c h
    facts = accepted c h twelve is_accepted

    places_are : c.places ≡ places
    places_are = chain_count tasks places gap ∙ places_given (length tasks) places (omega (arith, facts.passes.counted, facts.passes.sound.some, chain_count tasks places gap))

    period_at_holds : (i : ℕ) → i < places → (at (tasks_of c) i).period ≡ get_or tasks (3 * i) 0
    unfolding task_at
    period_at_holds i l =
        let n : c.places ≤ 12 = omega (arith, facts.passes.counted, facts.passes.sound.few) in
        let k = places_inside (length tasks) places in
        let g : length (given_of c) ≡ places = length-take-le c.places c.tasks (omega (arith, twelve)) ∙ places_are in
        let e = at_placed c.gap (given_of c) i (omega arith) ∙ ap (place_of c.gap) (get_or-take c.places c.tasks i zero_task (omega (arith, places_are)) ∙ chain_at_holds tasks places gap i (omega (arith, places_are))) in
        rw (e, le-leb (3 * i + 3) (length tasks) (omega (arith, places_are, chain_count tasks places gap)))

    pub completes_for_c : (p i : ℕ) (s v : List ℕ) → 1 ≤ p → p ≤ places → length s ≡ length v → i < places → h / get_or tasks (3 * i) 0 ≤ length s
        → (code' : ℕ) (s' v' figures : List ℕ) → GivesTable c p s v code' s' v' figures → code' ≡ 0
    completes_for_c p i s v low high equal l room code' s' v' figures table =
        let asked : Asked c p h (length s) (length v) = record { accepted = is_accepted; low = low; high = omega (arith, places_are); equal = equal } in
        let enough : h / (at (tasks_of c) i).period ≤ length s = rw (period_at_holds i l) room in
        table.answers ∙ ap made_code (room_enough c p h (length s) (length v) asked twelve i (omega (arith, places_are)) enough)
