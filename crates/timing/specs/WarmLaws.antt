-- Warm-up: Wn is the least job from which the backward steps reach the first place (`warm_least`), and from it on every way backward has its end.
use Rattle.std.specs.Prelude.{ℕ, suc, ◌+◌, ◌-◌, ◌≤◌, ◌<◌, ◌≡◌, ◌↔◌, true, false, List, length, None, Option, Some}
use native.Mathlib.Omega.{arith}
use Rattle.std.proofs.Math.Path.{refl, ap}
use Rattle.std.proofs.Common.{sym, ◌∙◌}
use Rattle.task.specs.declared.Place.{Place}
use Rattle.task.specs.declared.Job.{Job}
use Rattle.task.proofs.LinkLaws.{AtLeast}
use Rattle.chain.specs.Chains.{at, last_place, forward_by, backward_by, on_latest, walk, back, job_of}
use Rattle.chain.specs.Checks.{Sound}
use Rattle.timing.specs.WarmUp.{is_job, reaches, warm_last, warm_at}
use Rattle.task.specs.Links.{backward_link, latest_by}
use Rattle.task.proofs.LinkLaws.{latest_is}
use Rattle.timing.specs.Delay.{first_aged}
use Rattle.chain.specs.Galois.{Periods, galois, forward_cut, backward_cut}
use Rattle.chain.specs.GaloisPair.{count_back, count_of, forward_mono}
use Rattle.ranges.proofs.LeastLaws.{least_end}

-- ---- a job that is there

pub record Found (q : Option Job) : Type 0 where
  pub job : Job
  pub is : q ≡ Some job

pub found : (q : Option Job) (j : ℕ) → AtLeast q j → Found q
found (Some i) j h = record { job = i; is = refl }
found None j h = absurd h

pub at_least_job : (q : Option Job) (j : ℕ) → AtLeast q j → j ≤ job_of q
at_least_job (Some i) j h = h
at_least_job None j h = absurd h

pub job_at_least : (q : Option Job) (j : ℕ) → AtLeast q j → AtLeast q (job_of q)
job_at_least (Some i) j h = omega arith
job_at_least None j h = absurd h

is_job_holds : (q : Option Job) → AtLeast q 0 → is_job q ≡ true
is_job_holds (Some i) h = refl
is_job_holds None h = absurd h

no_job_holds : (q : Option Job) → (AtLeast q 0 → ⊥) → is_job q ≡ false
no_job_holds (Some i) h = absurd (h (omega arith))
no_job_holds None h = refl

-- ---- of a chain that passes the checks 8 and 5

-- k is the least job number at the last place from which the backward steps reach the first place
pub record WarmLast (l : List Place) (k : ℕ) : Type 0 where
  pub reached : reaches l k ≡ true
  pub least : (i : ℕ) → i < k → reaches l i ≡ false

module _ (l : List Place) (ok : Sound l) where
  pub periods : (p : ℕ) → p < length l → Periods l p
  periods p h i g = (ok.each i (omega arith)).period_pos

  whole : Periods l (last_place l)
  whole = periods (last_place l) (omega (arith, ok.some))

  pub all_periods : Periods l (0 + last_place l)
  all_periods = let e : 0 + last_place l ≡ last_place l = omega arith in rw e whole

  -- the whole ways forward and backward
  pub way : (j m : ℕ) → (walk l j ≤ m) ↔ AtLeast (back l m) j
  way = galois l 0 (last_place l) all_periods

  pub walk_mono : (i j : ℕ) → i ≤ j → walk l i ≤ walk l j
  walk_mono = forward_mono l 0 (last_place l) all_periods

  -- job 0 of the first place goes forward to Wn: no search is needed
  pub warm_walk : warm_last l ≡ walk l 0
  unfolding warm_last
  warm_walk =
      let e : 0 + walk l 0 ≡ walk l 0 = omega arith in
      least_end (reaches l) (walk l 0) 0 (λ i a b. no_job_holds (back l i) (λ h. let u : walk l 0 ≤ i = (way 0 i).1 h in omega arith)) ∙ e

  pub warm_least : WarmLast l (warm_last l)
  warm_least = record {
    reached = rw warm_walk (is_job_holds (back l (walk l 0)) ((way 0 (walk l 0)).0 (omega arith)));
    least = λ i h. no_job_holds (back l i) (λ a. let u : walk l 0 ≤ i = (way 0 i).1 a in omega (arith, warm_walk));
  }

  -- from Wn and every later job there is a job at the first place
  pub back_there : (k : ℕ) → warm_last l ≤ k → Found (back l k)
  back_there k h = found (back l k) 0 ((way 0 k).0 (omega (arith, warm_walk)))

  -- W1 is where the way backward from Wn ends
  pub warm_first : back l (warm_last l) ≡ Some (record { 0 = warm_at l 0 })
  unfolding warm_at
  warm_first =
      let z : last_place l - 0 ≡ last_place l = omega arith in
      let f = back_there (warm_last l) (omega arith) in
      f.is ∙ rw (z, f.is)

  pub warm_count : count_back l 0 (last_place l) (suc (walk l 0)) ≡ suc (warm_at l 0)
  unfolding count_back
  warm_count = ap (λ (k : ℕ). count_of (back l k)) (sym warm_walk) ∙ ap count_of warm_first

  -- from the write of Wn on the last place has a latest job, Wn or later
  pub aged : (z : ℕ) → first_aged l ≤ z → AtLeast (latest_by (at l (last_place l)) z) (warm_last l)
  unfolding first_aged
  aged z h = (latest_is (at l (last_place l)) (whole (last_place l) (omega arith)) z (warm_last l)).0 h

  module _ (p : ℕ) (h : p < length l) where
    head : Periods l (0 + p)
    head = let e : 0 + p ≡ p = omega arith in rw e (periods p h)

    tail : Periods l (p + (last_place l - p))
    tail = let e : p + (last_place l - p) ≡ last_place l = omega arith in rw e whole

    walk_parts : walk l 0 ≡ forward_by l p (last_place l - p) (forward_by l 0 p 0)
    walk_parts =
        let e : p + (last_place l - p) ≡ last_place l = omega arith in
        let z : 0 + p ≡ p = omega arith in
        let f = forward_cut l 0 p (last_place l - p) 0 in
        rw (e, z) at f

    warm_there : AtLeast (backward_by l p (last_place l - p) (warm_last l)) (forward_by l 0 p 0)
    warm_there = (galois l p (last_place l - p) tail (forward_by l 0 p 0) (warm_last l)).0 (omega (arith, warm_walk, walk_parts))

    -- on the way backward from Wn there is a job at every place
    pub warm_found : Found (backward_by l p (last_place l - p) (warm_last l))
    warm_found = found (backward_by l p (last_place l - p) (warm_last l)) (forward_by l 0 p 0) warm_there

    -- job 0 of the first place has come to place p by the warm-up job there
    pub warm_come : forward_by l 0 p 0 ≤ warm_at l p
    unfolding warm_at
    warm_come = at_least_job (backward_by l p (last_place l - p) (warm_last l)) (forward_by l 0 p 0) warm_there

    -- so from the warm-up job on the way backward from place p has its end
    pub start_there : (m : ℕ) → warm_at l p ≤ m → Found (backward_by l 0 p m)
    start_there m g = found (backward_by l 0 p m) 0 ((galois l 0 p head 0 m).0 (omega (arith, warm_come)))

  -- W at a place is one link back from W at the next place
  pub warm_step : (p : ℕ) → p + 1 < length l → warm_at l p ≡ job_of (backward_link (at l p) (at l (p + 1)) (warm_at l (p + 1)))
  unfolding warm_at backward_by on_latest
  warm_step p h =
      let e : last_place l - p ≡ 1 + (last_place l - (p + 1)) = omega arith in
      let f = warm_found (p + 1) h in
      let z : p + 0 ≡ p = omega arith in
      ap (λ (n : ℕ). job_of (backward_by l p n (warm_last l))) e ∙ ap job_of (backward_cut l p 1 (last_place l - (p + 1)) (warm_last l))
      ∙ ap (λ (q : Option Job). job_of (on_latest q (backward_by l p 1))) f.is
      ∙ ap (λ (n : ℕ). job_of (on_latest (backward_link (at l n) (at l (p + 1)) f.job.0) (backward_by l p 0))) z
      ∙ one (backward_link (at l p) (at l (p + 1)) f.job.0) ∙ ap (λ (q : Option Job). job_of (backward_link (at l p) (at l (p + 1)) (job_of q))) (sym f.is)
    where
      one : (q : Option Job) → job_of (on_latest q (backward_by l p 0)) ≡ job_of q
      one (Some j) = refl
      one None = refl
