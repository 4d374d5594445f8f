-- A chain at another time: where every place reads and writes x ticks later, so do the ways, backward where there is a job, forward after the warm-up job, and the delay from the warm-up tick on.
-- Periodicity is the case of the chain itself, a hyperperiod later.
use Rattle.std.specs.Prelude.{ℕ, zero, suc, ◌+◌, ◌*◌, ◌/◌, ◌≤◌, ◌<◌, ◌≡◌, refl, List, length, None, Option, Some}
use native.Mathlib.Omega.{arith}
use Rattle.std.proofs.Math.Decide.{dec_lt}
use Rattle.std.proofs.Common.{sym, ◌∙◌}
use Rattle.std.proofs.Math.Path.{ap}
use Rattle.task.specs.declared.Place.{Place}
use Rattle.task.specs.declared.Job.{Job}
use Rattle.task.specs.Jobs.{write_of}
use Rattle.task.specs.Links.{earliest_from, earliest_after, backward_link}
use Rattle.task.proofs.LinkLaws.{Later, periods_later, read_later, earliest_later, backward_later, earliest_reads, read_mono}
use Rattle.chain.specs.Chains.{at, last_place, on_latest, forward_by, backward_by, walk, back}
use Rattle.chain.specs.Hyperperiod.{hyper_of}
use Rattle.chain.specs.Checks.{Sound}
use Rattle.timing.specs.WarmUp.{warm_at, warm_tick}
use Rattle.timing.specs.Delay.{delay_at}
use Rattle.chain.specs.Multiples.{hyper_times}
use Rattle.chain.specs.GaloisPair.{count_of, count_back, pair, f_later}
use Rattle.timing.specs.WarmLaws.{warm_count, all_periods}

-- Up to place p the places of k are those of l at another time, x ticks later: place i reads then `jobs i` jobs later.
abbrev pub ShiftedTo : List Place → List Place → ℕ → (ℕ → ℕ) → ℕ → Type 0
ShiftedTo l k x jobs p = (i : ℕ) → i ≤ p → (1 ≤ (at l i).period) × Later (at l i) (at k i) x (jobs i)

-- The way backward then comes to a job as much later,
pub backward_shifts : (l k : List Place) (x : ℕ) (jobs : ℕ → ℕ) (p n : ℕ) → ShiftedTo l k x jobs (p + n) → (m : ℕ) (j : Job) → backward_by l p n m ≡ Some j
    → backward_by k p n (m + jobs (p + n)) ≡ Some (record { 0 = j.0 + jobs p })
unfolding backward_by on_latest
backward_shifts l k x jobs p zero w m j e =
    let z : p + 0 ≡ p = omega arith in
    let i : ◌≡◌ {A = Job} (record { 0 = m }) j = cc in
    rw (z, sym (ap (λ (y : Job). y.0) i))
backward_shifts l k x jobs p (suc n) w m j e =
    go (backward_link (at l (p + n)) (at l (p + suc n)) m) refl e (λ i. backward_shifts l k x jobs p n (λ y g. w y (omega arith)) i j)
  where
    go : (q : Option Job) → backward_link (at l (p + n)) (at l (p + suc n)) m ≡ q → on_latest q (backward_by l p n) ≡ Some j
        → ((i : ℕ) → backward_by l p n i ≡ Some j → backward_by k p n (i + jobs (p + n)) ≡ Some (record { 0 = j.0 + jobs p }))
        → on_latest (backward_link (at k (p + n)) (at k (p + suc n)) (m + jobs (p + suc n))) (backward_by k p n) ≡ Some (record { 0 = j.0 + jobs p })
    go None a b ih = absurd (let y : ◌≡◌ {A = ℕ} 0 1 = cc in omega arith)
    go (Some i) a b ih =
        let u = w (p + suc n) (omega arith) in
        let v = w (p + n) (omega arith) in
        rw (backward_later (at l (p + n)) (at k (p + n)) x (jobs (p + n)) v.1 v.0 (at l (p + suc n)) (at k (p + suc n)) (jobs (p + suc n)) u.1 m i a) (ih i.0 b)

-- and so does the count back.
count_shifts : (l k : List Place) (x : ℕ) (jobs : ℕ → ℕ) (p n : ℕ) → ShiftedTo l k x jobs (p + n) → (m : ℕ) → 0 < count_back l p n m
    → count_back k p n (m + jobs (p + n)) ≡ count_back l p n m + jobs p
unfolding count_back
count_shifts l k x jobs p n w zero g = absurd (omega arith)
count_shifts l k x jobs p n w (suc m) g =
    let e : suc m + jobs (p + n) ≡ suc (m + jobs (p + n)) = omega arith in
    rw e (go (backward_by l p n m) refl g)
  where
    go : (q : Option Job) → backward_by l p n m ≡ q → 0 < count_of q → count_of (backward_by k p n (m + jobs (p + n))) ≡ count_of q + jobs p
    go (Some j) e g = let s : suc j.0 + jobs p ≡ suc (j.0 + jobs p) = omega arith in rw (backward_shifts l k x jobs p n w m j e, s)
    go None e g = absurd (omega arith)

-- ---- of a chain that passes the checks 8 and 5, all its places

module _ (l : List Place) (ok : Sound l) where
  -- the first job after a press from the warm-up tick on is after the warm-up job
  pub press_after : (t : ℕ) → warm_tick l ≤ t → warm_at l 0 < earliest_after (at l 0) t
  unfolding warm_tick
  press_after t h = elim (dec_lt (warm_at l 0) (earliest_after (at l 0) t)) [
    | yes g ↦ g
    | no g ↦
        omega (arith, earliest_reads (at l 0) (ok.each 0 ok.some).period_pos (t + 1), read_mono (at l 0) (earliest_after (at l 0) t) (warm_at l 0) (omega arith))
  ]

  module _ (k : List Place) (long : last_place k ≡ last_place l) (x : ℕ) (jobs : ℕ → ℕ) (w : ShiftedTo l k x jobs (0 + last_place l)) where
    -- After the warm-up job the whole way forward comes to a job as much later,
    pub walk_shifts : (j : ℕ) → warm_at l 0 < j → walk k (j + jobs 0) ≡ walk l j + jobs (last_place l)
    walk_shifts j h =
        let z : 0 + last_place l ≡ last_place l = omega arith in
        let c = count_shifts l k x jobs 0 (last_place l) w in
        ap (λ (n : ℕ). forward_by k 0 n (j + jobs 0)) long
        ∙ f_later (walk l) (count_back l 0 (last_place l)) (pair l 0 (last_place l) (all_periods l ok)) (warm_at l 0) (warm_count l ok)
        (forward_by k 0 (last_place l)) (count_back k 0 (last_place l)) (pair k 0 (last_place l) (λ i g. let u = w i g in omega (arith, u.0, u.1.period)))
        (jobs 0) (jobs (last_place l)) (rw z at c) j h

    -- so the delay is the same, x ticks later.
    pub delay_shifts : (t : ℕ) → warm_tick l ≤ t → delay_at k (t + x) ≡ delay_at l t
    unfolding delay_at warm_tick
    delay_shifts t h =
        let first = w 0 (omega arith) in
        let last = (w (last_place l) (omega arith)).1 in
        let s : t + x + 1 ≡ t + 1 + x = omega arith in
        let j : earliest_after (at k 0) (t + x) ≡ earliest_after (at l 0) t + jobs 0
        = ap (earliest_from (at k 0)) s ∙ earliest_later (at l 0) (at k 0) x (jobs 0) first.1 first.0 (t + 1) (omega arith) in
        let e : walk k (earliest_after (at k 0) (t + x)) ≡ walk l (earliest_after (at l 0) t) + jobs (last_place l)
        = ap (walk k) j ∙ walk_shifts (earliest_after (at l 0) t) (press_after t h) in
        let v : write_of (at k (last_place k)) (walk k (earliest_after (at k 0) (t + x))) ≡ write_of (at k (last_place l)) (walk l (earliest_after (at l 0) t) + jobs (last_place l))
        = ap (λ (p : ℕ). write_of (at k p) (walk k (earliest_after (at k 0) (t + x)))) long ∙ ap (write_of (at k (last_place l))) e in
        omega (arith, v, read_later (at l (last_place l)) (at k (last_place l)) x (jobs (last_place l)) last (walk l (earliest_after (at l 0) t)), last.duration)

-- ---- the chain itself, a hyperperiod later

-- h is a multiple of the periods up to place p, each at least 1.
abbrev pub Repeats : ℕ → List Place → ℕ → Type 0
Repeats h l p = (i : ℕ) → i ≤ p → (1 ≤ (at l i).period) × (h / (at l i).period * (at l i).period ≡ h)

repeats_shift : (l : List Place) (h p : ℕ) → Repeats h l p → ShiftedTo l l h (λ i. h / (at l i).period) p
repeats_shift l h p w i g = let u = w i g in (u.0, periods_later (at l i) h (h / (at l i).period) u.1)

-- h ticks later the way backward comes to a job h ticks later
pub backward_repeats : (l : List Place) (h p n : ℕ) → Repeats h l (p + n) → (m : ℕ) (j : Job) → backward_by l p n m ≡ Some j
    → backward_by l p n (m + h / (at l (p + n)).period) ≡ Some (record { 0 = j.0 + h / (at l p).period })
backward_repeats l h p n w m j e = backward_shifts l l h (λ i. h / (at l i).period) p n (repeats_shift l h (p + n) w) m j e

module _ (l : List Place) (ok : Sound l) where
  pub hyper_repeats : (p : ℕ) → p < length l → Repeats (hyper_of l) l p
  hyper_repeats p h i g = ((ok.each i (omega arith)).period_pos, hyper_times l i (omega arith))

  whole : Repeats (hyper_of l) l (0 + last_place l)
  whole = let e : 0 + last_place l ≡ last_place l = omega arith in rw e (hyper_repeats (last_place l) (omega (arith, ok.some)))

  -- A hyperperiod later the whole way backward comes to a job a hyperperiod later,
  pub back_period : (k : ℕ) (j : Job) → back l k ≡ Some j
      → back l (k + hyper_of l / (at l (last_place l)).period) ≡ Some (record { 0 = j.0 + hyper_of l / (at l 0).period })
  back_period k j e =
      let z : 0 + last_place l ≡ last_place l = omega arith in
      let f = backward_repeats l (hyper_of l) 0 (last_place l) whole k j e in
      rw z at f

  -- and after the warm-up job so does the whole way forward.
  pub walk_period : (j : ℕ) → warm_at l 0 < j → walk l (j + hyper_of l / (at l 0).period) ≡ walk l j + hyper_of l / (at l (last_place l)).period
  walk_period j h = walk_shifts l ok l refl (hyper_of l) (λ i. hyper_of l / (at l i).period) (repeats_shift l (hyper_of l) (0 + last_place l) whole) j h

  -- The delay repeats with the hyperperiod from the warm-up tick on.
  pub delay_period : (t : ℕ) → warm_tick l ≤ t → delay_at l (t + hyper_of l) ≡ delay_at l t
  delay_period t h = delay_shifts l ok l refl (hyper_of l) (λ i. hyper_of l / (at l i).period) (repeats_shift l (hyper_of l) (0 + last_place l) whole) t h

  pub delay_periods : (k t : ℕ) → warm_tick l ≤ t → delay_at l (t + k * hyper_of l) ≡ delay_at l t
  delay_periods zero t h = let e : t + 0 * hyper_of l ≡ t = omega arith in rw e
  delay_periods (suc k) t h =
      let e : t + suc k * hyper_of l ≡ t + k * hyper_of l + hyper_of l = omega arith in
      rw e (delay_period (t + k * hyper_of l) (omega arith) ∙ delay_periods k t h)
