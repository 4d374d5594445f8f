-- Well-formed both ways: the computed test says what document 01 says, and either makes the table one that the laws speak of.
use Rattle.std.specs.Prelude.{◌≡◌, refl, ◌↔◌, Bool, true, false, List, [], ◌∷◌, leb, ltb, eqb, length, drop, cond, Ok, Err, Result}
use Rattle.std.proofs.Common.{sym, ◌∙◌, ap, arith}
use Rattle.std.proofs.lemmas.Bool.{false≢true}
use Prim.Native.Nat.{ℕ, zero, suc, ◌+◌, ◌-◌, ◌≤◌, ◌<◌}
use Rattle.std.proofs.Math.Decide.{dec_lt}
use borrow.Author.Tests.{le-leb, lt-ltb, leb-true, ltb-true, eqb-true, eq-eqb}
use Rattle.std.proofs.Math.ListN.{get_or}
use Rattle.table.specs.Anchors.{Anchor, anchors, first_start, next}
use Rattle.table.specs.WellFormed.{hyper_limit, latency_limit, first_start_limit, ◌and◌, fitting, spaced, measured, well_formed, next_start, WellFormed}
use Rattle.refusal.specs.declared.Refusal.{Refusal}
use Rattle.refusal.specs.Refusals.{refusal}
use Rattle.table.specs.Reading.{checked}
use Rattle.table.specs.Segments.{Spaced, Formed}
use Rattle.table.specs.Places.{anchors_first, first_at, spaced_at, spaced_end, next_inner, next_last}

both : (a b : Bool) → (a and b) ≡ true → (a ≡ true) × (b ≡ true)
both true b h = (refl, h)
both false b h = absurd (false≢true h)

-- an anchor that fits
abbrev pub Fitting : ℕ → ℕ → ℕ → Type 0
Fitting start next latency = (start < next) × (latency ≤ latency_limit) × (next - start < latency)

fitting_true : (start next latency : ℕ) → fitting start next latency ≡ true → Fitting start next latency
fitting_true start next latency h =
    let a = both (ltb start next) _ h in
    let b = both (leb latency latency_limit) _ a.1 in
    (ltb-true start next a.0, leb-true latency latency_limit b.0, ltb-true (next - start) latency b.1)

true_fitting : (start next latency : ℕ) → Fitting start next latency → fitting start next latency ≡ true
true_fitting start next latency h =
    rw (lt-ltb start next h.0, le-leb latency latency_limit h.1, lt-ltb (next - start) latency h.2)

spaced_true : (limit : ℕ) (l : List Anchor) → spaced limit l ≡ true → Spaced limit l
unfolding spaced
spaced_true limit [] h = tt
spaced_true limit (x ∷ l) h =
    let a = both (fitting x.start (next limit l) x.latency) _ h in
    let b = fitting_true x.start (next limit l) x.latency a.0 in
    (b.0, b.1, b.2, spaced_true limit l a.1)

-- what the numbers beside the lists say
abbrev pub Measured : ℕ → ℕ → ℕ → ℕ → Type 0
Measured n m g H = (n ≡ m) × (1 ≤ g) × (g ≤ n) × (1 ≤ H) × (H ≤ hyper_limit)

pub measured_true : (n m g H : ℕ) → measured n m g H ≡ true → Measured n m g H
measured_true n m g H h =
    let a = both (eqb n m) _ h in
    let b = both (leb 1 g) _ a.1 in
    let c = both (leb g n) _ b.1 in
    let d = both (leb 1 H) _ c.1 in
    (eqb-true n m a.0, leb-true 1 g b.0, leb-true g n c.0, leb-true 1 H d.0, leb-true H hyper_limit d.1)

true_measured : (n m g H : ℕ) → Measured n m g H → measured n m g H ≡ true
true_measured n m g H h =
    rw (eq-eqb n m h.0, le-leb 1 g h.1, le-leb g n h.2, le-leb 1 H h.3, le-leb H hyper_limit h.4)

module _ (s v : List ℕ) (g H : ℕ) where
  -- what well-formed is made of, by places
  record Parts : Type 0 where
    sizes : Measured (length s) (length v) g H
    first : get_or s 0 0 ≤ first_start_limit
    spacing : spaced (get_or s 0 0 + H) (anchors s v g) ≡ true

  true_parts : well_formed s v g H ≡ true → Parts
  unfolding well_formed
  true_parts h =
      let a = both (measured (length s) (length v) g H) _ h in
      let b = both (leb (first_start (anchors s v g)) first_start_limit) _ a.1 in
      let m = measured_true (length s) (length v) g H a.0 in
      let e : first_start (anchors s v g) ≡ get_or s 0 0 = first_at s v g m.2 (omega arith) m.1 in
      record { sizes = m; first = rw e at (leb-true (first_start (anchors s v g)) first_start_limit b.0); spacing = rw e at b.1 }

  parts_true : Parts → well_formed s v g H ≡ true
  unfolding well_formed
  parts_true p =
      rw (true_measured (length s) (length v) g H p.sizes, first_at s v g p.sizes.2 (omega arith) p.sizes.1, le-leb (get_or s 0 0) first_start_limit p.first) p.spacing

  parts_formed : Parts → Formed H (anchors s v g)
  parts_formed p =
      let e : anchors s v g ≡ _ = anchors_first s v g p.sizes.2 (omega arith) p.sizes.1 in
      record { head = _; tail = drop 1 (anchors s v g); whole = e; some = p.sizes.3; spacing = spaced_true (get_or s 0 0 + H) _ (rw e at p.spacing) }

  -- the anchors from place i on, k of them, are spaced exactly if each place fits
  places : (limit k i : ℕ) → i + k ≡ g → g ≤ length s → g ≤ length v → spaced limit (drop i (anchors s v g)) ≡ true
      → (j : ℕ) → i ≤ j → j < g → Fitting (get_or s j 0) (next_start s g limit j) (get_or v j 0)
  places limit zero i e p q h j a b = absurd (omega arith)
  places limit (suc k) i e p q h j a b =
      let w = both (fitting (get_or s i 0) (next_start s g limit i) (get_or v i 0)) _ (sym (spaced_at s v g p q limit i (omega arith)) ∙ h) in
      elim (dec_lt i j) [
        | yes d ↦ places limit k (i + 1) (omega arith) p q w.1 j (omega arith) b
        | no d ↦
            let c : i ≡ j = omega arith in
            rw c at (fitting_true (get_or s i 0) (next_start s g limit i) (get_or v i 0) w.0)
      ]

  from_places : (limit k i : ℕ) → i + k ≡ g → g ≤ length s → g ≤ length v
      → ((j : ℕ) → j < g → Fitting (get_or s j 0) (next_start s g limit j) (get_or v j 0)) → spaced limit (drop i (anchors s v g)) ≡ true
  unfolding spaced
  from_places limit zero i e p q h = spaced_end s v g limit i (omega arith)
  from_places limit (suc k) i e p q h =
      rw (spaced_at s v g p q limit i (omega arith), true_fitting (get_or s i 0) (next_start s g limit i) (get_or v i 0) (h i (omega arith)))
      (from_places limit k (i + 1) (omega arith) p q h)

  -- a place that lies k places before the last one starts below the limit
  places_below : (limit k i : ℕ) → i + k + 1 ≡ g → ((j : ℕ) → j < g → Fitting (get_or s j 0) (next_start s g limit j) (get_or v j 0)) → get_or s i 0 < limit
  places_below limit zero i e h = rw (next_last s g limit i (omega arith)) at (h i (omega arith)).0
  places_below limit (suc k) i e h =
      let a : get_or s i 0 < get_or s (i + 1) 0 = rw (next_inner s g limit i (omega arith)) at (h i (omega arith)).0 in
      omega (arith, places_below limit k (i + 1) (omega arith) h)

  parts_well : Parts → WellFormed s v g H
  parts_well p =
      let w : (j : ℕ) → j < g → Fitting (get_or s j 0) (next_start s g (get_or s 0 0 + H) j) (get_or v j 0)
      = λ j k. places (get_or s 0 0 + H) g 0 (omega arith) p.sizes.2 (omega arith) p.spacing j (omega arith) k in
      record {
        some = p.sizes.1;
        fits = p.sizes.2;
        equal = p.sizes.0;
        hyper = (p.sizes.3, p.sizes.4);
        first = p.first;
        rising = λ i k. rw (next_inner s g (get_or s 0 0 + H) i k) at (w i (omega arith)).0;
        below = λ i k. places_below (get_or s 0 0 + H) (g - i - 1) i (omega arith) w;
        latency = λ i k. (w i k).1;
        distance = λ i k. (w i k).2;
      }

  -- each place of a well-formed table fits
  pub well_place : WellFormed s v g H → (j : ℕ) → j < g → Fitting (get_or s j 0) (next_start s g (get_or s 0 0 + H) j) (get_or v j 0)
  well_place w j b = (
    elim (dec_lt (j + 1) g) [
      | yes k ↦ rw (next_inner s g (get_or s 0 0 + H) j k) (w.rising j k)
      | no k ↦ rw (next_last s g (get_or s 0 0 + H) j (omega arith)) (w.below j b)
    ],
    w.latency j b,
    w.distance j b,
  )

  well_parts : WellFormed s v g H → Parts
  well_parts w = record {
    sizes = (w.equal, w.some, w.fits, w.hyper.0, w.hyper.1);
    first = w.first;
    spacing = from_places (get_or s 0 0 + H) g 0 (omega arith) w.fits (omega arith) (well_place w);
  }

  -- the computed test says what document 01 says
  pub well_formed_iff : (well_formed s v g H ≡ true) ↔ WellFormed s v g H
  well_formed_iff = (λ h. parts_well (true_parts h), λ w. parts_true (well_parts w))

  -- a well-formed table is one that the laws speak of
  pub well_formed_laws : WellFormed s v g H → Formed H (anchors s v g)
  well_formed_laws w = parts_formed (well_parts w)

  pub well_spaced : WellFormed s v g H → Spaced (get_or s 0 0 + H) (anchors s v g)
  well_spaced w = spaced_true (get_or s 0 0 + H) (anchors s v g) (well_parts w).spacing

-- what the answer of the test says
pub well : (s v : List ℕ) (g H : ℕ) (w : Bool) → w ≡ well_formed s v g H → w ≡ true → WellFormed s v g H
well s v g H w e k = (well_formed_iff s v g H).0 (sym e ∙ k)

-- what an accepted check says
pub checked_true : (s v : List ℕ) (g H : ℕ) (u : Unit {0}) → Ok u ≡ checked s v g H → well_formed s v g H ≡ true
checked_true s v g H u e = go (well_formed s v g H) e
  where
    go : (w : Bool) → ◌≡◌ {A = Result (Unit {0}) Refusal} (Ok u) (cond w (Ok tt) (Err (refusal 14 0))) → w ≡ true
    go true q = refl
    go false q = absurd cc

pub checked_well : (s v : List ℕ) (g H : ℕ) (u : Unit {0}) → Ok u ≡ checked s v g H → WellFormed s v g H
checked_well s v g H u e = (well_formed_iff s v g H).0 (checked_true s v g H u e)

-- what a refused check says of a call that begins with it
pub checked_refused : {A : Type 0} (s v : List ℕ) (g H : ℕ) (r : Refusal) → Err r ≡ checked s v g H
    → (x : Result A Refusal) → Err r ≡ cond (well_formed s v g H) x (Err (refusal 14 0))
checked_refused {A} s v g H r e x = go (well_formed s v g H) e
  where
    go : (w : Bool) → ◌≡◌ {A = Result (Unit {0}) Refusal} (Err r) (cond w (Ok tt) (Err (refusal 14 0))) → ◌≡◌ {A = Result A Refusal} (Err r) (cond w x (Err (refusal 14 0)))
    go true q = absurd cc
    go false q = let i : r ≡ refusal 14 0 = cc in ap Err i
