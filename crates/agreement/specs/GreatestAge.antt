-- The greatest latency of a chain's anchors is the greatest delay at any tick from the warm-up tick on (`greatest_delay_is`), and one more than
-- the greatest age at any tick that has one (`greatest_age_is`). Both are reached before tick 200,000,000.
use Rattle.std.specs.Prelude.{ℕ, suc, ◌+◌, ◌-◌, ◌*◌, ◌/◌, ◌%◌, ◌≤◌, ◌<◌, ◌≡◌, refl, List, None, Option, Some}
use Rattle.std.proofs.Math.Nat.{div-add-mod', mod-lt}
use Rattle.std.proofs.Math.Decide.{dec_lt}
use native.Mathlib.Omega.{arith}
use Rattle.std.proofs.Math.Path.{sym, ap}
use Rattle.std.proofs.Common.{◌∙◌}
use Rattle.task.specs.declared.Job.{Job}
use Rattle.task.specs.declared.Place.{Place}
use Rattle.task.specs.Jobs.{read_of, write_of}
use Rattle.task.specs.Links.{earliest_after, latest_by}
use Rattle.task.proofs.LinkLaws.{AtLeast, after_less, read_mono, latest_is}
use Rattle.chain.specs.Chains.{at, last_place, on_latest, walk, back, job_of}
use Rattle.chain.specs.Checks.{Sound}
use Rattle.chain.specs.Hyperperiod.{hyper_of}
use Rattle.chain.specs.Multiples.{hyper_pos}
use Rattle.timing.specs.WarmUp.{warm_last, warm_at, warm_tick}
use Rattle.timing.specs.Delay.{delay_at, first_aged, age_at}
use Rattle.timing.specs.WarmLaws.{found, at_least_job, way, walk_mono, warm_walk, aged, back_there}
use Rattle.timing.specs.WarmRanges.{warm_range}
use Rattle.timing.specs.Period.{delay_periods}
use Rattle.table.specs.Anchors.{first_start}
use Rattle.table.specs.Reading as table
use Rattle.table.specs.Figures.{greatest}
use Rattle.table.specs.GreatestDelay.{GreatestFrom, greatest_delay}
use Rattle.partition.proofs.CutFree.{end_walk, canonical, write_less}
use Rattle.agreement.specs.Jobs.{walk_warm, walk_next, walk_after, end_after, latency_fits, delay_read, read_warm}
use Rattle.agreement.specs.ReadsAsWalk.{canonical_cons, table_walk}
use Rattle.agreement.specs.WellSpaced.{read_less, canonical_formed}

-- v is the greatest of f at the ticks from low to high: no tick of them has more, and one has it.
pub record GreatestWithin (f : ℕ → ℕ) (low high v : ℕ) : Type 0 where
  pub bound : (t : ℕ) → low ≤ t → t ≤ high → f t ≤ v
  pub at : ℕ
  pub from : low ≤ at
  pub upto : at ≤ high
  pub meets : f at ≡ v

-- the latest job, known from both sides
exact : (q : Option Job) (k : ℕ) → AtLeast q k → (AtLeast q (suc k) → ⊥) → q ≡ Some (record { 0 = k })
exact (Some i) k h g = go i.0 (eq i.0 h g)
  where
    eq : (x : ℕ) → k ≤ x → (suc k ≤ x → ⊥) → x ≡ k
    eq x a b = elim (dec_lt k x) [ yes c ↦ absurd (b c) | no c ↦ omega arith ]

    go : (x : ℕ) → x ≡ k → ◌≡◌ {A = Option Job} (Some (record { 0 = x })) (Some (record { 0 = k }))
    go x e = ap (λ (y : ℕ). Some (record { 0 = y })) e
exact None k h g = absurd h

module _ (l : List Place) (ok : Sound l) where
  abbrev pub top : ℕ
  top = greatest (canonical l (hyper_of l))

  pos : 1 ≤ (at l 0).period
  pos = (ok.each 0 ok.some).period_pos

  last_pos : 1 ≤ (at l (last_place l)).period
  last_pos = (ok.each (last_place l) (omega (arith, ok.some))).period_pos

  first_start_holds : first_start (canonical l (hyper_of l)) ≡ warm_tick l
  unfolding warm_tick
  first_start_holds = ap first_start (canonical_cons l ok)

  reached : GreatestFrom (table.delay_at (hyper_of l) (canonical l (hyper_of l))) (first_start (canonical l (hyper_of l))) top
  reached = greatest_delay (hyper_of l) (canonical l (hyper_of l)) (canonical_formed l ok)

  delay_bound : (t : ℕ) → warm_tick l ≤ t → delay_at l t ≤ top
  delay_bound t h = omega (arith, table_walk l ok t h, reached.bound t (omega (arith, first_start_holds)))

  -- ---- the greatest delay

  -- the tick of the first hyperperiod at which it is reached
  tick : ℕ
  tick = warm_tick l + (reached.at - warm_tick l) % hyper_of l

  tick_low : warm_tick l ≤ tick
  unfolding tick
  tick_low = omega arith

  tick_high : tick < warm_tick l + hyper_of l
  unfolding tick
  tick_high = omega (arith, mod-lt (reached.at - warm_tick l) (hyper_pos l ok))

  pub warm_small : warm_tick l ≤ 60011000
  unfolding warm_tick
  warm_small = warm_range l ok 0 ok.some

  tick_meets : delay_at l tick ≡ top
  unfolding tick
  tick_meets =
      let low : warm_tick l ≤ reached.at = omega (arith, reached.late, first_start_holds) in
      let s : tick + (reached.at - warm_tick l) / hyper_of l * hyper_of l ≡ reached.at = omega (arith, div-add-mod' (reached.at - warm_tick l) (hyper_of l)) in
      sym (delay_periods l ok ((reached.at - warm_tick l) / hyper_of l) tick tick_low) ∙ ap (delay_at l) s ∙ sym (table_walk l ok reached.at low) ∙ reached.meets

  -- it is the greatest of all time,
  pub greatest_of_all : GreatestFrom (delay_at l) (warm_tick l) top
  greatest_of_all = record { bound = delay_bound; at = tick; late = tick_low; meets = tick_meets }

  -- and of the ticks up to the upper one
  pub greatest_delay_is : hyper_of l ≤ 60000000 → GreatestWithin (delay_at l) (warm_tick l) 1000000000000 top
  greatest_delay_is small = record {
    bound = λ t low high. delay_bound t low;
    at = tick;
    from = tick_low;
    upto = omega (arith, tick_high, warm_small);
    meets = tick_meets;
  }

  -- ---- the greatest age

  read_bound : (i : ℕ) → warm_at l 0 ≤ i → end_walk l (suc i) - read_of (at l 0) i ≤ top
  read_bound i h = omega (arith, delay_read l ok i, delay_bound (read_of (at l 0) i) (read_warm l ok i h))

  -- where the last place's latest job by z is k, and the way back from k leads to i
  age_of_holds : (z k i : ℕ) → latest_by (at l (last_place l)) z ≡ Some (record { 0 = k }) → back l k ≡ Some (record { 0 = i }) → age_at l z ≡ z - read_of (at l 0) i
  unfolding age_at on_latest
  age_of_holds z k i e f = rw (e, f)

  pub age_bound : (z : ℕ) → first_aged l ≤ z → suc (age_at l z) ≤ top
  age_bound z h =
      let f = found (latest_by (at l (last_place l)) z) (warm_last l) (aged l ok z h) in
      let k : ℕ = f.job.0 in
      let low : warm_last l ≤ k = omega (arith, at_least_job (latest_by (at l (last_place l)) z) (warm_last l) (aged l ok z h), ap job_of f.is) in
      let b = back_there l ok k low in
      let i : ℕ = b.job.0 in
      let far : k < walk l (suc i) = elim (dec_lt k (walk l (suc i))) [
        | yes g ↦ g
        | no g ↦ let a : AtLeast (Some b.job) (suc i) = rw b.is at ((way l ok (suc i) k).0 (omega arith)) in absurd (omega arith)
      ] in
      let soon : z < write_of (at l (last_place l)) (suc k) = elim (dec_lt z (write_of (at l (last_place l)) (suc k))) [
        | yes g ↦ g
        | no g ↦ absurd (omega (arith, at_least_job (latest_by (at l (last_place l)) z) (suc k) ((latest_is (at l (last_place l)) last_pos z (suc k)).0 (omega arith)), ap job_of f.is))
      ] in
      let warm : warm_at l 0 ≤ i =
      let a : AtLeast (Some b.job) (warm_at l 0) = rw b.is at ((way l ok (warm_at l 0) k).0 (omega (arith, walk_warm l ok, warm_walk l ok))) in a in
      let e : end_walk l (suc i) ≡ write_of (at l (last_place l)) (walk l (suc i)) = refl in
      omega (arith, age_of_holds z k i f.is b.is, read_bound i warm, end_after l ok (suc i), read_mono (at l 0) i (suc i) (omega arith), read_mono (at l (last_place l)) (suc k) (walk l (suc i)) far)

  -- a tick at which the delay is the greatest
  module _ (u : ℕ) (low : warm_tick l ≤ u) (meets : delay_at l u ≡ top) where
    -- it is the read of a job j, after which the walk ends later
    j : ℕ
    j = earliest_after (at l 0) u - 1

    after_warm : warm_at l 0 < earliest_after (at l 0) u
    unfolding warm_tick
    after_warm = (after_less (at l 0) pos u (warm_at l 0)).1 low

    j_next : earliest_after (at l 0) u ≡ suc j
    unfolding j
    j_next = omega (arith, after_warm)

    j_warm : warm_at l 0 ≤ j
    j_warm = omega (arith, after_warm, j_next)

    j_reads : read_of (at l 0) j ≤ u
    j_reads = (after_less (at l 0) pos u j).0 (omega (arith, j_next))

    u_early : u < end_walk l (suc j)
    u_early =
        let b : u < read_of (at l 0) (suc j) = elim (dec_lt u (read_of (at l 0) (suc j))) [
          | yes h ↦ h
          | no h ↦ let c = (after_less (at l 0) pos u (suc j)).1 (omega arith) in omega (arith, j_next)
        ] in
        omega (arith, end_after l ok (suc j))

    u_delay : end_walk l (suc j) - u ≡ top
    unfolding delay_at
    u_delay = rw j_next at meets

    u_reads : read_of (at l 0) j ≡ u
    u_reads = omega (arith, read_bound j j_warm, u_delay, u_early, j_reads)

    j_new : walk l j < walk l (suc j)
    j_new = elim (dec_lt (walk l j) (walk l (suc j))) [
      | yes h ↦ h
      | no h ↦ elim (dec_lt (warm_at l 0) j) [
        | no g ↦
            let e : j ≡ warm_at l 0 = omega (arith, j_warm) in
            let f : walk l j ≡ walk l (warm_at l 0) = ap (walk l) e in
            let k : walk l (suc j) ≡ walk l (suc (warm_at l 0)) = ap (λ (x : ℕ). walk l (suc x)) e in
            omega (arith, walk_warm l ok, walk_next l ok)
        | yes g ↦
            let s : suc (j - 1) ≡ j = omega arith in
            let e : walk l j ≡ walk l (suc j) = omega (arith, walk_mono l ok j (suc j) (omega arith)) in
            let f : end_walk l (suc (j - 1)) ≡ end_walk l (suc j) = ap (end_walk l) s ∙ ap (write_of (at l (last_place l))) e in
            let b = read_bound (j - 1) (omega arith) in
            let r = read_less (at l 0) pos (j - 1) j (omega arith) in
            absurd (omega (arith, u_delay, u_early, u_reads))
      ]
    ]

    -- the last tick before that walk ends
    peak_is : u + top - 1 ≡ end_walk l (suc j) - 1
    peak_is = omega (arith, u_delay, u_early)

    -- There the age is one less than the greatest delay,
    pub peak_age : suc (age_at l (u + top - 1)) ≡ top
    peak_age =
        let k : ℕ = walk l (suc j) - 1 in
        let z : ℕ = end_walk l (suc j) - 1 in
        let s : suc k ≡ walk l (suc j) = omega (arith, j_new) in
        let n : write_of (at l (last_place l)) (suc k) ≡ end_walk l (suc j) = ap (write_of (at l (last_place l))) s in
        let w = write_less (at l (last_place l)) last_pos k (suc k) (omega arith) in
        let e = exact (latest_by (at l (last_place l)) z) k ((latest_is (at l (last_place l)) last_pos z k).0 (omega arith))
        (λ a. let b = (latest_is (at l (last_place l)) last_pos z (suc k)).1 a in omega (arith, u_early)) in
        let f = exact (back l k) j ((way l ok j k).0 (omega (arith, j_new))) (λ a. let b = (way l ok (suc j) k).1 a in omega arith) in
        rw peak_is (omega (arith, age_of_holds z k j e f, u_delay, u_early, u_reads))

    -- and it is a tick that has an age.
    pub peak_low : first_aged l ≤ u + top - 1
    unfolding first_aged
    peak_low = omega (arith, peak_is, write_less (at l (last_place l)) last_pos (walk l 0) (walk l (suc j)) (walk_after l ok j j_warm), ap (write_of (at l (last_place l))) (warm_walk l ok))

  pub top_fits : top ≤ 60011000
  top_fits = omega (arith, latency_fits l ok (j tick tick_low tick_meets) (j_warm tick tick_low tick_meets), u_delay tick tick_low tick_meets, u_reads tick tick_low tick_meets)

  pub greatest_age_is : hyper_of l ≤ 60000000 → GreatestWithin (λ z. suc (age_at l z)) (first_aged l) 1000000000000 top
  greatest_age_is small = record {
    bound = λ z from upto. age_bound z from;
    at = tick + top - 1;
    from = peak_low tick tick_low tick_meets;
    upto = omega (arith, top_fits, tick_high, warm_small);
    meets = peak_age tick tick_low tick_meets;
  }
