-- The third demand, sentence by sentence, about every chain whose array has its twelve entries. A table is completed where making is
-- not refused; it is read with the g and H that making answered and the lists as making left them, whatever they held before and hold from g on. Order 5 of document 02: "The agreement of walk, age and tables is for chains with any permitted gap." The gap is a field of the chain, and what refuses it, 5, is one of its checks.
use Rattle.std.specs.Prelude.{ℕ, zero, suc, ◌≤◌, ◌<◌, ◌≡◌, refl, true, length, get_or, Ok, Result}
use Rattle.std.proofs.Common.{arith, sym, ap, ◌∙◌, subst}
use mathlib.Core.List.{List, [], ◌∷◌}
use Rattle.std.proofs.lemmas.List.{length-map}
use borrow.Author.Tests.{le-ltb}
use Rattle.refusal.specs.declared.Refusal.{Refusal}
use Rattle.chain.specs.declared.Chain.{Chain}
use Rattle.chain.specs.Chains.{tasks_of}
use Rattle.chain.specs.Hyperperiod.{hyper_of}
use Rattle.timing.specs.WarmUp.{warm_tick}
use Rattle.timing.specs.Delay.{delay_at, first_aged, age_at}
use Rattle.timing.specs.Answers.{upper_tick, delay_of, age_of}
use Rattle.timing.specs.Spans.{span_there}
use Rattle.table.specs.Anchors.{Anchor, anchors, first_start}
use Rattle.table.specs.WellFormed.{well_formed}
use Rattle.table.specs.Reading.{reading}
use Rattle.table.specs.Reading as table
use Rattle.table.specs.Figures.{greatest}
use Rattle.figures.specs.Figures.{greatest_of}
use Rattle.partition.proofs.CutFree.{canonical}
use Rattle.maker.specs.declared.Figures.{Figures}
use Rattle.maker.specs.Making.{starts_of, latencies_of, overlay, Makes}
use Rattle.agreement.specs.ReadsAsWalk.{table_walk}
use Rattle.agreement.specs.GreatestAge.{GreatestWithin, greatest_delay_is, greatest_age_is}
use Rattle.agreement.specs.MadeTable.{Completed, done, starts_are, latencies_are, made_anchors, made_first, made_well_formed}

-- A delay walked and a delay read are one number; neither is refused.
pub record SameTicks (span : Result ℕ Refusal) (reading : Result ℕ Refusal) : Type 0 where
  pub delay : ℕ
  pub walked : span ≡ Ok delay
  pub read : reading ≡ Ok delay

-- "For every accepted chain, every place at which its table is cut and every tick from the warm-up tick to the upper tick, the delay read from
-- the completed table equals the delay that the forward walk gives at that tick."
abbrev pub SameDelay : Chain → List ℕ → List ℕ → Figures → ℕ → Type 0
SameDelay c starts latencies f t = SameTicks (delay_of c t) (reading starts latencies f.anchors f.hyperperiod t)

-- "Whichever two places the chain is cut at, its anchors are the same in number and, one by one, in start and latency."
pub record SameAnchors (starts latencies starts'' latencies'' : List ℕ) (f f'' : Figures) : Type 0 where
  pub number : f.anchors ≡ f''.anchors
  pub start : (i : ℕ) → i < f.anchors → get_or starts i 0 ≡ get_or starts'' i 0
  pub latency : (i : ℕ) → i < f.anchors → get_or latencies i 0 ≡ get_or latencies'' i 0

-- "For every completed table: greatest latency = greatest delay at any of these ticks = 1 + greatest age at any tick that has an age."
-- The calls answer the latency, `delay_at` and `age_at`: `answered`, `walked` and `aged`.
pub record SameGreatest (c : Chain) (starts latencies : List ℕ) (f : Figures) : Type 0 where
  pub latency : ℕ
  pub greatest_latency_holds : greatest (anchors starts latencies f.anchors) ≡ latency
  pub answered : greatest_of starts latencies f.anchors f.hyperperiod ≡ Ok latency
  pub walked : (t : ℕ) → f.tick.0 ≤ t → t ≤ upper_tick → delay_of c t ≡ Ok (delay_at (tasks_of c) t)
  pub aged : (z : ℕ) → first_aged (tasks_of c) ≤ z → z ≤ upper_tick → age_of c z ≡ Ok (age_at (tasks_of c) z)
  pub greatest_delay : GreatestWithin (delay_at (tasks_of c)) f.tick.0 upper_tick latency
  pub greatest_age : GreatestWithin (λ z. suc (age_at (tasks_of c) z)) (first_aged (tasks_of c)) upper_tick latency

overlay_at : (xs ys : List ℕ) (i : ℕ) → i < length xs → length xs ≤ length ys → get_or (overlay xs ys) i 0 ≡ get_or xs i 0
overlay_at [] ys i h g = absurd (omega arith)
overlay_at (x ∷ xs) [] i h g = absurd (omega arith)
overlay_at (x ∷ xs) (y ∷ ys) zero h g = refl
overlay_at (x ∷ xs) (y ∷ ys) (suc i) h g = overlay_at xs ys i (omega arith) (omega arith)

module _ (c : Chain) (twelve : length c.tasks ≡ 12) where
  module _ (p : ℕ) (s v s' v' : List ℕ) (f : Figures) (makes : Makes c p s v s' v' (Ok f)) where
    pub held : Completed c p (length s) (length v) f
    held = done c twelve p s v s' v' f makes

    pub walks : (t : ℕ) → f.tick.0 ≤ t → t ≤ upper_tick → delay_of c t ≡ Ok (delay_at (tasks_of c) t)
    walks t low high = rw held.whole (span_there (hyper_of (tasks_of c)) (warm_tick (tasks_of c)) t (delay_at (tasks_of c) t) (omega (arith, held.tick)) high)

    reads : (t : ℕ) → f.tick.0 ≤ t → t ≤ upper_tick → reading s' v' f.anchors f.hyperperiod t ≡ Ok (delay_at (tasks_of c) t)
    unfolding reading
    reads t low high =
        rw (
          made_well_formed c twelve p s v s' v' f makes,
          made_anchors c twelve p s v s' v' f makes,
          made_first c twelve p s v s' v' f makes,
          le-ltb t (warm_tick (tasks_of c)) (omega (arith, held.tick)),
          le-ltb upper_tick t high,
          held.hyper,
        )
        (ap Ok (table_walk (tasks_of c) held.sound t (omega (arith, held.tick))))

    ages : (z : ℕ) → first_aged (tasks_of c) ≤ z → z ≤ upper_tick → age_of c z ≡ Ok (age_at (tasks_of c) z)
    ages z low high = rw held.whole (span_there (hyper_of (tasks_of c)) (first_aged (tasks_of c)) z (age_at (tasks_of c) z) low high)

    -- what the figure answers of it
    pub greatest_answered : greatest_of s' v' f.anchors f.hyperperiod ≡ Ok (greatest (canonical (tasks_of c) (hyper_of (tasks_of c))))
    unfolding greatest_of
    greatest_answered = rw (made_well_formed c twelve p s v s' v' f makes) (ap (λ (l : List Anchor). Ok (greatest l)) (made_anchors c twelve p s v s' v' f makes))

    -- A completed table is well-formed.
    pub well_formed_holds : well_formed s' v' f.anchors f.hyperperiod ≡ true
    well_formed_holds = made_well_formed c twelve p s v s' v' f makes

    -- It begins with the warm-up tick, and its own delay is the walk's, also past the upper tick.
    pub made_first_start : first_start (anchors s' v' f.anchors) ≡ f.tick.0
    made_first_start = ap first_start (made_anchors c twelve p s v s' v' f makes) ∙ made_first c twelve p s v s' v' f makes ∙ sym held.tick

    pub made_as_walk : (t : ℕ) → first_start (anchors s' v' f.anchors) ≤ t → delay_at (tasks_of c) t ≡ table.delay_at f.hyperperiod (anchors s' v' f.anchors) t
    made_as_walk t h = rw (made_anchors c twelve p s v s' v' f makes, held.hyper) (sym (table_walk (tasks_of c) held.sound t (omega (arith, held.tick, made_first_start))))

    pub table_is_walk : (t : ℕ) → f.tick.0 ≤ t → t ≤ upper_tick → SameDelay c s' v' f t
    table_is_walk t low high = record { delay = delay_at (tasks_of c) t; walked = walks t low high; read = reads t low high }

    pub greatest_is_delay_and_age : SameGreatest c s' v' f
    greatest_is_delay_and_age = record {
      latency = greatest (canonical (tasks_of c) (hyper_of (tasks_of c)));
      greatest_latency_holds = ap greatest (made_anchors c twelve p s v s' v' f makes);
      answered = greatest_answered;
      walked = walks;
      aged = ages;
      greatest_delay = subst (λ (x : ℕ). GreatestWithin (delay_at (tasks_of c)) x upper_tick (greatest (canonical (tasks_of c) (hyper_of (tasks_of c))))) (sym held.tick) (greatest_delay_is (tasks_of c) held.sound held.small);
      greatest_age = greatest_age_is (tasks_of c) held.sound held.small;
    }

    starts_at : (i : ℕ) → i < f.anchors → get_or s' i 0 ≡ get_or (starts_of (canonical (tasks_of c) (hyper_of (tasks_of c)))) i 0
    starts_at i h =
        let n = length-map (canonical (tasks_of c) (hyper_of (tasks_of c))) (λ (x : Anchor). x.start) in
        rw (starts_are c twelve p s v s' v' f makes)
        (overlay_at (starts_of (canonical (tasks_of c) (hyper_of (tasks_of c)))) s i (omega (arith, n, held.count)) (omega (arith, n, held.count, held.fit)))

    latencies_at : (i : ℕ) → i < f.anchors → get_or v' i 0 ≡ get_or (latencies_of (canonical (tasks_of c) (hyper_of (tasks_of c)))) i 0
    latencies_at i h =
        let n = length-map (canonical (tasks_of c) (hyper_of (tasks_of c))) (λ (x : Anchor). x.latency) in
        rw (latencies_are c twelve p s v s' v' f makes)
        (overlay_at (latencies_of (canonical (tasks_of c) (hyper_of (tasks_of c)))) v i (omega (arith, n, held.count)) (omega (arith, n, held.count, held.fit, held.equal)))

  module _ (p q : ℕ) (s v s' v' : List ℕ) (f : Figures) (makes : Makes c p s v s' v' (Ok f)) (x y x' y' : List ℕ) (g : Figures) (other : Makes c q x y x' y' (Ok g)) where
    pub cuts_agree : SameAnchors s' v' x' y' f g
    cuts_agree =
        let n : f.anchors ≡ g.anchors = (held p s v s' v' f makes).count ∙ sym (held q x y x' y' g other).count in
        record {
          number = n;
          start = λ i h. starts_at p s v s' v' f makes i h ∙ sym (starts_at q x y x' y' g other i (omega arith));
          latency = λ i h. latencies_at p s v s' v' f makes i h ∙ sym (latencies_at q x y x' y' g other i (omega arith));
        }
