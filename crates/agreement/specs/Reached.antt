-- Where the greatest latency is met: at the start of an anchor that has it the delay is as great, and at the tick before that press is booked the age is one less.
use Rattle.std.specs.Prelude.{ℕ, ◌+◌, ◌-◌, ◌≤◌, ◌<◌, ◌≡◌, List, length, get_or, Ok}
use Rattle.std.proofs.Common.{arith, sym, ap, ◌∙◌}
use Rattle.chain.specs.declared.Chain.{Chain}
use Rattle.chain.specs.Chains.{tasks_of}
use Rattle.chain.specs.Hyperperiod.{hyper_of}
use Rattle.timing.specs.WarmUp.{warm_tick}
use Rattle.timing.specs.Delay.{delay_at, first_aged, age_at}
use Rattle.timing.specs.Answers.{upper_tick, delay_of, age_of}
use Rattle.table.specs.Anchors.{Anchor, anchors, first_start}
use Rattle.table.specs.WellFormed.{WellFormed}
use Rattle.table.specs.Reading as table
use Rattle.table.specs.Figures.{greatest}
use Rattle.table.specs.BothWays.{well_formed_iff, well_place}
use Rattle.table.specs.Delays.{rises}
use Rattle.table.specs.EveryTable.{first_start_holds, falls}
use Rattle.partition.proofs.CutFree.{canonical}
use Rattle.maker.specs.declared.Figures.{Figures}
use Rattle.maker.specs.Making.{Makes}
use Rattle.agreement.specs.ReadsAsWalk.{table_walk}
use Rattle.agreement.specs.GreatestAge.{warm_small, peak_age, peak_low, top_fits}
use Rattle.agreement.specs.MadeTable.{Completed, made_anchors, made_first}
use Rattle.agreement.specs.Agreement.{held, walks, well_formed_holds, greatest_is_delay_and_age}

pub record Reached (c : Chain) (u top : ℕ) : Type 0 where
  pub some : 1 ≤ top
  pub small : u + top ≤ upper_tick
  pub delay : delay_of c u ≡ Ok top
  pub age : age_of c (u + top - 1) ≡ Ok (top - 1)

module _ (c : Chain) (twelve : length c.tasks ≡ 12) (p : ℕ) (s v s' v' : List ℕ) (f : Figures) (makes : Makes c p s v s' v' (Ok f)) where
  k : Completed c p (length s) (length v) f
  k = held c twelve p s v s' v' f makes

  formed : WellFormed s' v' f.anchors f.hyperperiod
  formed = (well_formed_iff s' v' f.anchors f.hyperperiod).0 (well_formed_holds c twelve p s v s' v' f makes)

  same : anchors s' v' f.anchors ≡ canonical (tasks_of c) (hyper_of (tasks_of c))
  same = made_anchors c twelve p s v s' v' f makes

  first : get_or s' 0 0 ≡ warm_tick (tasks_of c)
  first = sym (first_start_holds s' v' f.anchors f.hyperperiod formed) ∙ ap first_start same ∙ made_first c twelve p s v s' v' f makes

  ages : (z : ℕ) → first_aged (tasks_of c) ≤ z → z ≤ upper_tick → age_of c z ≡ Ok (age_at (tasks_of c) z)
  ages = (greatest_is_delay_and_age c twelve p s v s' v' f makes).aged

  module _ (i : ℕ) (h : i < f.anchors) where
    low : warm_tick (tasks_of c) ≤ get_or s' i 0
    low =
        let z : 0 + i ≡ i = omega arith in
        let r = rw z at (rises s' v' f.anchors f.hyperperiod formed i 0 (omega arith)) in
        omega (arith, first)

    -- at an anchor's start the delay is its latency
    pub delay_start : delay_at (tasks_of c) (get_or s' i 0) ≡ get_or v' i 0
    delay_start =
        let z : get_or s' i 0 + 0 ≡ get_or s' i 0 = omega arith in
        let n : get_or v' i 0 - 0 ≡ get_or v' i 0 = omega arith in
        let d = well_place s' v' f.anchors f.hyperperiod formed i h in
        let e = falls s' v' f.anchors f.hyperperiod formed i 0 h (omega (arith, d.0)) in
        sym (table_walk (tasks_of c) k.sound (get_or s' i 0) low)
        ∙ ap (λ (x : ℕ). table.delay_at x (canonical (tasks_of c) (hyper_of (tasks_of c))) (get_or s' i 0)) (sym k.hyper)
        ∙ ap (λ (x : List Anchor). table.delay_at f.hyperperiod x (get_or s' i 0)) (sym same)
        ∙ ap (table.delay_at f.hyperperiod (anchors s' v' f.anchors)) (sym z) ∙ e ∙ n

    -- An anchor of the greatest latency.
    pub anchor_reaches : get_or v' i 0 ≡ greatest (anchors s' v' f.anchors) → Reached c (get_or s' i 0) (get_or v' i 0)
    anchor_reaches g =
        let l = tasks_of c in
        let ok = k.sound in
        let e : get_or v' i 0 ≡ greatest (canonical l (hyper_of l)) = g ∙ ap greatest same in
        let m : delay_at l (get_or s' i 0) ≡ greatest (canonical l (hyper_of l)) = delay_start ∙ e in
        let a = peak_age l ok (get_or s' i 0) low m in
        let b = peak_low l ok (get_or s' i 0) low m in
        let t = top_fits l ok in
        let x = warm_small l ok in
        let far : get_or s' i 0 + get_or v' i 0 ≤ upper_tick = omega (arith, formed.below i h, first, k.hyper, k.small) in
        let q : get_or s' i 0 + greatest (canonical l (hyper_of l)) - 1 ≡ get_or s' i 0 + get_or v' i 0 - 1 = omega arith in
        let r = rw q at a in
        let w = rw q at b in
        record {
          some = omega arith;
          small = far;
          delay = walks c twelve p s v s' v' f makes (get_or s' i 0) (omega (arith, low, k.tick)) (omega arith) ∙ ap Ok delay_start;
          age = ages (get_or s' i 0 + get_or v' i 0 - 1) w (omega arith) ∙ ap Ok (omega arith);
        }
