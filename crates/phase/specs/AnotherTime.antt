-- A chain at another time, every place x ticks later, has the same greatest latency (`greatest_shifts`), whatever the two warm-ups are: the delays repeat with the hyperperiod.
use Rattle.std.specs.Prelude.{ℕ, ◌+◌, ◌-◌, ◌*◌, ◌≤◌, ◌≡◌, List}
use Rattle.std.proofs.Common.{arith, mul-le-mul_left, mul-one, ap}
use Rattle.task.specs.declared.Place.{Place}
use Rattle.chain.specs.Chains.{last_place}
use Rattle.chain.specs.Checks.{Sound}
use Rattle.chain.specs.Hyperperiod.{hyper_of}
use Rattle.chain.specs.Multiples.{hyper_pos}
use Rattle.timing.specs.WarmUp.{warm_tick}
use Rattle.timing.specs.Delay.{delay_at}
use Rattle.timing.specs.Period.{ShiftedTo, delay_shifts, delay_periods}
use Rattle.latency.specs.Latency.{greatest_latency}
use Rattle.latency.specs.GreatestDelay.{greatest_latency_is}

-- c hyperperiods are at least c ticks
many : (l : List Place) → Sound l → (c : ℕ) → c ≤ c * hyper_of l
many l ok c = omega (arith, mul-le-mul_left c (hyper_pos l ok), mul-one c)

module _ (l k : List Place) (ok : Sound l) (fine : Sound k) (long : last_place k ≡ last_place l) (x : ℕ) (jobs : ℕ → ℕ) (w : ShiftedTo l k x jobs (0 + last_place l)) where
  same : (t : ℕ) → warm_tick l ≤ t → delay_at k (t + x) ≡ delay_at l t
  same = delay_shifts l ok k long x jobs w

  -- the tick with the greatest delay of l, so many hyperperiods later that k is warm x ticks after it
  no_less : greatest_latency l ≤ greatest_latency k
  no_less =
      let g = greatest_latency_is l ok in
      let t : ℕ = g.at + warm_tick k * hyper_of l in
      let a : delay_at k (t + x) ≤ greatest_latency k = (greatest_latency_is k fine).bound (t + x) (omega (arith, many l ok (warm_tick k))) in
      omega (arith, g.meets, delay_periods l ok (warm_tick k) g.at g.late, same t (omega (arith, g.late)))

  -- and the other way round
  no_more : greatest_latency k ≤ greatest_latency l
  no_more =
      let g = greatest_latency_is k fine in
      let u : ℕ = g.at + (x + warm_tick l) * hyper_of k in
      let m : x + warm_tick l ≤ u = omega (arith, many k fine (x + warm_tick l)) in
      let a : delay_at l (u - x) ≤ greatest_latency l = (greatest_latency_is l ok).bound (u - x) (omega arith) in
      let e : u - x + x ≡ u = omega arith in
      omega (arith, g.meets, delay_periods k fine (x + warm_tick l) g.at g.late, same (u - x) (omega arith), ap (delay_at k) e)

  pub greatest_shifts : greatest_latency k ≡ greatest_latency l
  greatest_shifts = omega (arith, no_less, no_more)
