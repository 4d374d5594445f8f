-- The ranges of warm-up, delay and age, by which nothing overflows, of a chain that passes the checks 8 and 5.
use Rattle.std.specs.Prelude.{ℕ, ◌+◌, ◌-◌, ◌≤◌, ◌<◌, ◌≡◌, List, length, Some}
use Rattle.std.proofs.Common.{arith}
use Rattle.task.specs.declared.Place.{Place}
use Rattle.task.specs.declared.Job.{Job}
use Rattle.task.specs.Jobs.{read_of, write_of}
use Rattle.task.specs.Links.{earliest_after, latest_by}
use Rattle.task.proofs.LinkLaws.{earliest_reads, earliest_soon, latest_is}
use Rattle.chain.specs.Chains.{at, last_place, walk, back}
use Rattle.chain.specs.Checks.{Sound}
use Rattle.chain.specs.Ranges.{forward_fits, forward_late, backward_fits}
use Rattle.timing.specs.WarmUp.{warm_last, warm_at}
use Rattle.timing.specs.Delay.{first_aged}
use Rattle.timing.specs.WarmLaws.{warm_walk, warm_found}

module _ (l : List Place) (ok : Sound l) where
  last_in : last_place l < length l
  last_in = omega (arith, ok.some)

  pub walk_fits : (j : ℕ) → write_of (at l (last_place l)) (walk l j) ≤ write_of (at l 0) j + 55011000
  walk_fits j =
      let z : last_place l - 0 ≡ last_place l = omega arith in
      let f = forward_fits l ok 0 (last_place l) (omega arith) last_in j in
      rw z at f

  pub walk_late : (j : ℕ) → write_of (at l 0) j ≤ write_of (at l (last_place l)) (walk l j)
  walk_late j =
      let z : last_place l - 0 ≡ last_place l = omega arith in
      let f = forward_late l ok 0 (last_place l) (omega arith) last_in j in
      rw z at f

  pub back_early : (k : ℕ) (j : Job) → back l k ≡ Some j → read_of (at l 0) j.0 ≤ read_of (at l (last_place l)) k
  back_early k j e =
      let z : last_place l - 0 ≡ last_place l = omega arith in
      backward_fits l ok 0 (last_place l) (omega arith) last_in k j (rw z e)

  -- The write of Wn comes within 60,011,000 ticks.
  pub aged_range : first_aged l ≤ 60011000
  unfolding first_aged
  aged_range =
      let w = ok.each 0 ok.some in
      rw (warm_walk l ok) (omega (arith, walk_fits 0, w.phase_max, w.duration_max))

  pub warm_before_age : (p : ℕ) → p < length l → read_of (at l p) (warm_at l p) ≤ first_aged l
  unfolding warm_at first_aged
  warm_before_age p h =
      let f = warm_found l ok p h in
      let r = backward_fits l ok p (last_place l) (omega arith) (omega arith) (warm_last l) f.job f.is in
      rw f.is (omega arith)

  -- so every warm-up job reads within 60,011,000 ticks.
  pub warm_range : (p : ℕ) → p < length l → read_of (at l p) (warm_at l p) ≤ 60011000
  warm_range p h = omega (arith, warm_before_age p h, aged_range)

  -- The first job after a press at t writes within 6,000,001 ticks,
  pub press_fits : (t : ℕ) → write_of (at l 0) (earliest_after (at l 0) t) ≤ t + 6000001
  press_fits t =
      let w = ok.each 0 ok.some in
      omega (arith, earliest_soon (at l 0) w.period_pos (t + 1), w.phase_max, w.period_max, w.duration_max)

  -- and reads after the press.
  pub press_late : (t : ℕ) → t < write_of (at l 0) (earliest_after (at l 0) t)
  press_late t = omega (arith, earliest_reads (at l 0) (ok.each 0 ok.some).period_pos (t + 1))

  -- The latest job of the last place that writes by z reads by z.
  pub latest_fits : (z : ℕ) (k : Job) → latest_by (at l (last_place l)) z ≡ Some k → write_of (at l (last_place l)) k.0 ≤ z
  latest_fits z k e = (latest_is (at l (last_place l)) (ok.each (last_place l) last_in).period_pos z k.0).1 (rw e (omega arith))
