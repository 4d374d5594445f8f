-- What the walk over the whole range of a chain answers, from the warm-up job on or round from any job.
use Prim.Native.Nat.{ℕ, ◌-◌, ◌/◌, ◌≤◌}
use native.Mathlib.Omega.{arith}
use native.Mathlib.Decide.{dec_le}
use mathlib.Core.Path.{◌≡◌, sym, ap, ◌∙◌}
use mathlib.Core.List.{List}
use lib.ListN.{length}
use Rattle.task.specs.declared.Place.{Place}
use Rattle.chain.specs.Chains.{at}
use Rattle.chain.specs.Checks.{Sound}
use Rattle.chain.specs.Hyperperiod.{hyper_of, UpToLimit}
use Rattle.ranges.specs.Largest.{largest}
use Rattle.timing.specs.WarmUp.{warm_at}
use Rattle.partition.specs.Selections.{range_length}
use Rattle.outset.specs.Range.{Range, whole_range}
use Rattle.latency.specs.declared.Greatest.{Greatest}
use Rattle.latency.specs.Latency.{greatest_latency, latency_of, AcceptedAt, greatest_at}
use Rattle.latency.specs.LongestPlace.{longest_place, longest_place_holds}
use Rattle.latency.specs.GreatestDelay.{greatest_fits}
use Rattle.latency.specs.AnyCut.{any_cut}
use Rattle.latency.specs.AnyRange.{any_range}
use Rattle.latency.specs.Walk.{Met, MetAll, RangeFrom, MetFrom}

-- the place that the chain is cut at has a period
pub place_pos : (l : List Place) (p h : ℕ) (t : Place) → AcceptedAt l p h → t ≡ at l p → 1 ≤ t.period
place_pos l p h t k e = rw e (k.sound.each p k.inside).period_pos

module _ (l : List Place) (p h : ℕ) (k : AcceptedAt l p h) where
  module _ (m n : ℕ) (w : m ≡ warm_at l p) (u : n ≡ h / (at l p).period) where
    pub range_of_holds : (places : ℕ) → places ≡ length l → Range l places p m n
    range_of_holds places e = whole_range l h places p m n (record { sound = k.sound; hyper = k.hyper; small = k.small }) e k.inside w u

    most : largest (latency_of l p) m n ≡ greatest_latency l
    most =
        ap (λ (x : ℕ). largest (latency_of l p) x n) w ∙ ap (largest (latency_of l p) (warm_at l p)) (u ∙ ap (λ (x : ℕ). x / (at l p).period) k.hyper) ∙ any_cut l k.sound p k.inside

    pub met_range : (bound : ℕ) (r : Greatest) → Met l p m n bound r → MetAll l p h bound r
    met_range bound r met = record {
      whole = λ few.
          let e = met.whole few in
          ap (λ (x : ℕ). found x r.walked) (e.0 ∙ most) ∙ ap (found (greatest_latency l)) (e.1 ∙ u ∙ sym (range_length (warm_at l p) (h / (at l p).period)));
      late = λ more. omega (arith, met.late more, most);
    }
      where
        found : ℕ → ℕ → Greatest
        found x y = record { latency = x; walked = y }

  -- no latency is above the limit
  pub never_late : (r : Greatest) → MetAll l p h 60011000 r → r ≡ greatest_at l p h
  never_late r met = elim (dec_le r.latency 60011000) [
    | yes few ↦ met.whole few
    | no more ↦ absurd (omega (arith, met.late (omega arith), greatest_fits l k.sound))
  ]

pub met_from : (l : List Place) (places p m n bound : ℕ) (r : Greatest) → RangeFrom l places p m n → Met l p m n bound r → MetFrom l p m n bound r
met_from l places p m n bound r k met =
    let e : largest (latency_of l p) m n ≡ greatest_latency l
    = ap (largest (latency_of l p) m) k.whole ∙ any_range l k.range.sound p (omega (arith, k.range.inside, k.range.places_are)) m k.range.warm in
    record {
      whole = λ few. let w = met.whole few in (w.0 ∙ e, w.1);
      late = λ more. omega (arith, met.late more);
      some = met.some;
      few = met.few;
      counted = met.counted;
      before = met.before;
    }

-- what the walk at the place of the longest period needs
pub walk_given : (l : List Place) → Sound l → hyper_of l ≤ 60000000 → (h : ℕ) → UpToLimit (hyper_of l) h → (p : ℕ) → p ≡ longest_place l → (1 ≤ p) × (AcceptedAt l (p - 1) h)
walk_given l ok small h up p e =
    let q = longest_place_holds l ok.some in
    let few : h ≤ 60000000 = elim (dec_le h 60000000) [ yes y ↦ y | no y ↦ absurd (omega (arith, up.above (omega arith), small)) ] in
    (omega (arith, q.some), record { sound = ok; hyper = up.within few; small = few; inside = omega (arith, q.some, q.inside) })
