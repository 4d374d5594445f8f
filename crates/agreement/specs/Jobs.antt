-- The first place's jobs of an accepted chain, and where their ways end: what the agreement of table, walk and age rests on.
use Prim.Native.Nat.{ℕ, zero, suc, ◌+◌, ◌-◌, ◌*◌, ◌/◌, ◌≤◌, ◌<◌}
use native.Mathlib.Omega.{arith}
use Rattle.std.proofs.Math.Decide.{dec_lt}
use Rattle.std.specs.Prelude.{◌≡◌, true, List}
use Rattle.task.specs.declared.Place.{Place}
use Rattle.task.specs.Jobs.{read_of, write_of, Limited}
use Rattle.task.specs.Links.{earliest_after}
use Rattle.task.proofs.LinkLaws.{after_less, read_mono, forward_link_mono, forward_wait}
use Rattle.chain.specs.Chains.{at, last_place, forward_by, walk}
use Rattle.chain.specs.Checks.{Sound}
use Rattle.chain.specs.Hyperperiod.{hyper_of}
use Rattle.chain.specs.GaloisPair.{count_back, pair, warm_same, warm_next}
use Rattle.chain.specs.Multiples.{hyper_times, some_jobs}
use Rattle.timing.specs.WarmUp.{warm_at, warm_tick}
use Rattle.timing.specs.Delay.{delay_at}
use Rattle.timing.specs.WarmLaws.{all_periods, walk_mono, warm_count}
use Rattle.timing.specs.WarmRanges.{walk_late}
use Rattle.partition.specs.Selections.{differ, differ_so}
use Rattle.partition.proofs.CutFree.{end_walk, write_less}

-- jobs of a lower place forward: where a walk comes later, each of its links came later
module _ (l : List Place) where
  rises : (n i j : ℕ) → ((k : ℕ) → k ≤ suc n → Limited (at l k)) → forward_by l 0 (suc n) i < forward_by l 0 (suc n) j → forward_by l 0 n i < forward_by l 0 n j
  unfolding forward_by
  rises n i j w h = elim (dec_lt (forward_by l 0 n i) (forward_by l 0 n j)) [
    | yes g ↦ g
    | no g ↦
        let m = forward_link_mono (at l (0 + n)) (at l (0 + suc n)) (w (0 + suc n) (omega arith)).period_pos (forward_by l 0 n j) (forward_by l 0 n i) (omega arith) in
        absurd (omega arith)
  ]

  -- so each wait is below a period, and the whole walk within its durations, gaps and periods
  soon : (n i j : ℕ) → ((k : ℕ) → k ≤ n → Limited (at l k)) → forward_by l 0 n i < forward_by l 0 n j
      → write_of (at l (0 + n)) (forward_by l 0 n j) ≤ read_of (at l 0) j + 4000000 + n * 5000999
  unfolding forward_by
  soon zero i j w h = let e : 0 + 0 ≡ 0 = omega arith in rw e (omega (arith, (w 0 (omega arith)).duration_max))
  soon (suc n) i j w h =
      let b = w (0 + suc n) (omega arith) in
      let u = forward_wait (at l (0 + n)) (at l (0 + suc n)) b.period_pos (forward_by l 0 n j) (omega arith) in
      let v = soon n i j (λ k g. w k (omega arith)) (rises n i j w h) in
      omega (arith, b.period_max, b.duration_max, (w (0 + n) (omega arith)).gap_max)

module _ (l : List Place) (ok : Sound l) where
  first : Limited (at l 0)
  first = ok.each 0 ok.some

  last : Limited (at l (last_place l))
  last = ok.each (last_place l) (omega (arith, ok.some))

  -- W1's way ends where job 0's does, and that of the job after W1 later
  pub walk_warm : walk l (warm_at l 0) ≡ walk l 0
  walk_warm = warm_same (walk l) (count_back l 0 (last_place l)) (pair l 0 (last_place l) (all_periods l ok)) (warm_at l 0) (warm_count l ok)

  pub walk_next : walk l 0 < walk l (suc (warm_at l 0))
  walk_next = warm_next (walk l) (count_back l 0 (last_place l)) (pair l 0 (last_place l) (all_periods l ok)) (warm_at l 0) (warm_count l ok)

  pub walk_after : (j : ℕ) → warm_at l 0 ≤ j → walk l 0 < walk l (suc j)
  walk_after j h = omega (arith, walk_next, walk_mono l ok (suc (warm_at l 0)) (suc j) (omega arith))

  pub hyper_first : hyper_of l / (at l 0).period * (at l 0).period ≡ hyper_of l
  hyper_first = hyper_times l 0 ok.some

  -- a hyperperiod holds a job of the first place
  pub some_job : 1 ≤ hyper_of l / (at l 0).period
  some_job = some_jobs l ok 0 ok.some

  -- the walk from a job ends after its read
  pub end_after : (j : ℕ) → read_of (at l 0) j < end_walk l j
  end_after j = omega (arith, walk_late l ok j, first.duration_pos)

  -- W1 is an anchor's job
  pub first_new : differ (end_walk l (suc (warm_at l 0))) (end_walk l (warm_at l 0)) ≡ true
  first_new =
      let u = write_less (at l (last_place l)) last.period_pos (walk l (warm_at l 0)) (walk l (suc (warm_at l 0))) (omega (arith, walk_warm, walk_next)) in
      differ_so (end_walk l (suc (warm_at l 0))) (end_walk l (warm_at l 0)) (λ e. omega arith)

  -- a latency is within the limit that order 5 gives it
  pub latency_fits : (j : ℕ) → warm_at l 0 ≤ j → end_walk l (suc j) - read_of (at l 0) j ≤ 60011000
  latency_fits j h =
      let z : 0 + last_place l ≡ last_place l = omega arith in
      let s = soon l (last_place l) 0 (suc j) (λ k g. ok.each k (omega (arith, ok.some))) (walk_after j h) in
      let t = rw z at s in
      omega (arith, ok.few, first.period_max)

  -- the first job after a job's own read is the next one
  pub next_read : (j : ℕ) → earliest_after (at l 0) (read_of (at l 0) j) ≡ suc j
  next_read j =
      let lo : j < earliest_after (at l 0) (read_of (at l 0) j) = (after_less (at l 0) first.period_pos (read_of (at l 0) j) j).1 (omega arith) in
      elim (dec_lt (suc j) (earliest_after (at l 0) (read_of (at l 0) j))) [
        | yes k ↦ let z = (after_less (at l 0) first.period_pos (read_of (at l 0) j) (suc j)).0 k in absurd (omega (arith, first.period_pos))
        | no k ↦ omega arith
      ]

  pub delay_read : (j : ℕ) → delay_at l (read_of (at l 0) j) ≡ end_walk l (suc j) - read_of (at l 0) j
  unfolding delay_at
  delay_read j = rw (next_read j)

  pub read_warm : (j : ℕ) → warm_at l 0 ≤ j → warm_tick l ≤ read_of (at l 0) j
  unfolding warm_tick
  read_warm j h = read_mono (at l 0) (warm_at l 0) j h
