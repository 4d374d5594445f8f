-- A table as making completed it: its anchors are the chain's, whatever the lists held before and hold from g on, and it is well-formed.
use Rattle.std.specs.Prelude.{ℕ, suc, ◌+◌, ◌-◌, ◌≤◌, ◌<◌, Bool, true, false, cond, leb, Err, Ok, Result}
use Rattle.std.proofs.Common.{arith, ◌∙◌}
use Rattle.std.proofs.Math.Path.{◌≡◌, refl, ap}
use mathlib.Core.List.{List, [], ◌∷◌}
use Rattle.std.proofs.Math.ListN.{length}
use borrow.Author.Tests.{le-leb, lt-ltb, eq-eqb, leb-true}
use Rattle.maker.specs.declared.Unmade.TheVariants.{Short}
use Rattle.refusal.specs.declared.Refusal.{Refusal}
use Rattle.chain.specs.declared.Chain.{Chain}
use Rattle.chain.specs.Chains.{tasks_of, at}
use Rattle.chain.specs.Checks.{verdict_of, Sound}
use Rattle.chain.specs.Hyperperiod.{hyper_of}
use Rattle.chain.specs.Multiples.{hyper_pos}
use Rattle.chain.proofs.CheckLaws.{Facts, accepted}
use Rattle.task.specs.Jobs.{read_of}
use Rattle.timing.specs.WarmUp.{warm_at, warm_tick}
use Rattle.timing.specs.WarmRanges.{warm_range}
use Rattle.table.specs.Anchors.{Anchor, anchors, first_start, next}
use Rattle.table.specs.WellFormed.{latency_limit, fitting, spaced, measured, well_formed}
use Rattle.table.specs.Segments.{Spaced}
use Rattle.partition.specs.Partitions.{anchors_of}
use Rattle.partition.proofs.CutFree.{canonical, cut_canonical}
use Rattle.maker.specs.declared.Figures.{Figures}
use Rattle.maker.specs.Making.{judged, figures_of, made_after, made_of, written_after, starts_of, latencies_of, overlay, Makes}
use Rattle.maker.proofs.Exits.{Well, well}
use Rattle.agreement.specs.ReadsAsWalk.{first_anchor, other_anchors, canonical_cons}
use Rattle.agreement.specs.WellSpaced.{canonical_spaced}

-- ---- lists written from the front

-- the first entries of the two lists are the anchors that were written
overlaid : (l : List Anchor) (s v : List ℕ) → length l ≤ length s → length l ≤ length v
    → anchors (overlay (starts_of l) s) (overlay (latencies_of l) v) (length l) ≡ l
unfolding anchors
overlaid [] s v h g = refl
overlaid (x ∷ l) [] v h g = absurd (omega arith)
overlaid (x ∷ l) (y ∷ s) [] h g = absurd (omega arith)
overlaid (x ∷ l) (y ∷ s) (z ∷ v) h g = ap (λ (k : List Anchor). x ∷ k) (overlaid l s v (omega arith) (omega arith))

pub overlay_length : (xs ys : List ℕ) → length (overlay xs ys) ≡ length ys
overlay_length [] [] = refl
overlay_length [] (y ∷ ys) = refl
overlay_length (x ∷ xs) [] = refl
overlay_length (x ∷ xs) (y ∷ ys) = ap suc (overlay_length xs ys)

-- ---- well-formed, as the test computes it

fits : (start next latency : ℕ) → start < next → latency ≤ latency_limit → next - start < latency → fitting start next latency ≡ true
fits start next latency a b c = rw (lt-ltb start next a, le-leb latency latency_limit b, lt-ltb (next - start) latency c)

spaced_so : (limit : ℕ) (l : List Anchor) → Spaced limit l → spaced limit l ≡ true
unfolding spaced
spaced_so limit [] sp = refl
spaced_so limit (x ∷ l) sp = rw (fits x.start (next limit l) x.latency sp.0 sp.1 sp.2) (spaced_so limit l sp.3)

measured_so : (n m g H : ℕ) → n ≡ m → 1 ≤ g → g ≤ n → 1 ≤ H → H ≤ 60000000 → measured n m g H ≡ true
measured_so n m g H a b c d e = rw (eq-eqb n m a, le-leb 1 g b, le-leb g n c, le-leb 1 H d, le-leb H 60000000 e)

-- ---- what a making that completed a table has

pub record Completed (c : Chain) (p a b : ℕ) (f : Figures) : Type 0 where
  pub whole : verdict_of c ≡ Ok (hyper_of (tasks_of c))
  pub sound : Sound (tasks_of c)
  pub small : hyper_of (tasks_of c) ≤ 60000000
  pub hyper : f.hyperperiod ≡ hyper_of (tasks_of c)
  pub tick : f.tick.0 ≡ warm_tick (tasks_of c)
  pub count : f.anchors ≡ length (canonical (tasks_of c) (hyper_of (tasks_of c)))
  pub fit : f.anchors ≤ a
  pub equal : a ≡ b
  pub says : judged c p a b ≡ Ok (hyper_of (tasks_of c))
  pub cut : anchors_of (tasks_of c) (p - 1) (hyper_of (tasks_of c)) ≡ canonical (tasks_of c) (hyper_of (tasks_of c))

module _ (c : Chain) (twelve : length c.tasks ≡ 12) where
  whole_after : (p a b : ℕ) (f : Figures) (v : Result ℕ Refusal) → judged c p a b ≡ v → Ok f ≡ made_after c p a v → Completed c p a b f
  unfolding made_after judged
  whole_after p a b f (Err r) e q = absurd (let z : ◌≡◌ {A = ℕ} 0 1 = cc in omega arith)
  whole_after p a b f (Ok h) e q = go (leb (length (anchors_of (tasks_of c) (p - 1) h)) a) refl q
    where
      w : Well (verdict_of c) c.places p a b h
      w = well (verdict_of c) c.places p a b h e

      k : Facts c h
      k = accepted c h twelve w.whole

      cut : anchors_of (tasks_of c) (p - 1) (hyper_of (tasks_of c)) ≡ canonical (tasks_of c) (hyper_of (tasks_of c))
      cut = cut_canonical (tasks_of c) k.passes.sound (p - 1) (omega (arith, k.passes.counted, w.low, w.high))

      go : (t : Bool) → leb (length (anchors_of (tasks_of c) (p - 1) h)) a ≡ t → Ok f ≡ cond t (Ok (figures_of c p h)) (Err (Short (figures_of c p h))) → Completed c p a b f
      go false l q = absurd (let z : ◌≡◌ {A = ℕ} 0 1 = cc in omega arith)
      go true l q =
          let s : f ≡ figures_of c p h = cc in
          let n : f.anchors ≡ length (anchors_of (tasks_of c) (p - 1) h) = ap (λ (x : Figures). x.anchors) s in
          record {
            whole = w.whole ∙ ap Ok k.hyper;
            sound = k.passes.sound;
            small = omega (arith, k.small, k.hyper);
            hyper = ap (λ (x : Figures). x.hyperperiod) s ∙ k.hyper;
            tick = ap (λ (x : Figures). x.tick.0) s;
            count = n ∙ ap (λ (x : ℕ). length (anchors_of (tasks_of c) (p - 1) x)) k.hyper ∙ ap length cut;
            fit = omega (arith, n, leb-true (length (anchors_of (tasks_of c) (p - 1) h)) a l);
            equal = w.equal;
            says = e ∙ ap Ok k.hyper;
            cut = cut;
          }

  pub completed : (p a b : ℕ) (f : Figures) → Ok f ≡ made_of c p a b → Completed c p a b f
  completed p a b f q = whole_after p a b f (judged c p a b) refl q

  module _ (p : ℕ) (s v s' v' : List ℕ) (f : Figures) (makes : Makes c p s v s' v' (Ok f)) where
    pub done : Completed c p (length s) (length v) f
    done = completed p (length s) (length v) f makes.answer

    table : List Anchor
    table = canonical (tasks_of c) (hyper_of (tasks_of c))

    written : written_after c p (judged c p (length s) (length v)) ≡ table
    unfolding written_after table
    written = ap (written_after c p) done.says ∙ done.cut

    -- what the lists hold: the chain's anchors, then what they held
    pub starts_are : s' ≡ overlay (starts_of (canonical (tasks_of c) (hyper_of (tasks_of c)))) s
    unfolding table
    starts_are = makes.leaves_starts ∙ ap (λ (l : List Anchor). overlay (starts_of l) s) written

    pub latencies_are : v' ≡ overlay (latencies_of (canonical (tasks_of c) (hyper_of (tasks_of c)))) v
    unfolding table
    latencies_are = makes.leaves_latencies ∙ ap (λ (l : List Anchor). overlay (latencies_of l) v) written

    -- the lists keep their lengths, which are enough
    pub starts_length : length s' ≡ length s
    starts_length = ap length starts_are ∙ overlay_length (starts_of (canonical (tasks_of c) (hyper_of (tasks_of c)))) s

    pub latencies_length : length v' ≡ length v
    latencies_length = ap length latencies_are ∙ overlay_length (latencies_of (canonical (tasks_of c) (hyper_of (tasks_of c)))) v

    -- the first g entries are the chain's anchors
    pub made_anchors : anchors s' v' f.anchors ≡ canonical (tasks_of c) (hyper_of (tasks_of c))
    made_anchors =
        ap (λ (x : List ℕ). anchors x v' f.anchors) starts_are
        ∙ ap (λ (y : List ℕ). anchors (overlay (starts_of (canonical (tasks_of c) (hyper_of (tasks_of c)))) s) y f.anchors) latencies_are
        ∙ ap (anchors (overlay (starts_of (canonical (tasks_of c) (hyper_of (tasks_of c)))) s) (overlay (latencies_of (canonical (tasks_of c) (hyper_of (tasks_of c)))) v)) done.count
        ∙ overlaid (canonical (tasks_of c) (hyper_of (tasks_of c))) s v (omega (arith, done.count, done.fit)) (omega (arith, done.count, done.fit, done.equal))

    pub made_first : first_start (canonical (tasks_of c) (hyper_of (tasks_of c))) ≡ warm_tick (tasks_of c)
    unfolding warm_tick
    made_first = ap first_start (canonical_cons (tasks_of c) done.sound)

    -- and the table is well-formed
    pub made_well_formed : well_formed s' v' f.anchors f.hyperperiod ≡ true
    unfolding well_formed warm_tick
    made_well_formed =
        let l = tasks_of c in
        let ok = done.sound in
        let n = starts_length in
        let m = latencies_length in
        let some : 1 ≤ f.anchors = omega (arith, done.count, ap length (canonical_cons l ok)) in
        let w = warm_range l ok 0 ok.some in
        rw (
          measured_so (length s') (length v') f.anchors f.hyperperiod (omega (arith, done.equal)) some (omega (arith, done.fit)) (omega (arith, done.hyper, hyper_pos l ok)) (omega (arith, done.hyper, done.small)),
          made_anchors,
          canonical_cons l ok,
          le-leb (first_start (first_anchor l ok ∷ other_anchors l ok)) 1000000000 (omega arith),
          done.hyper,
        )
        (spaced_so (read_of (at l 0) (warm_at l 0) + hyper_of l) (first_anchor l ok ∷ other_anchors l ok) (canonical_spaced l ok))
