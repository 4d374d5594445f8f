-- Every press from the later warm-up on, over all time: the difference repeats with the common hyperperiod (`apart_period`), so no press has more
-- than the greatest over one such hyperperiod (`apart_of_all`), and one in it has as much (`apart_reached`).
use Prim.Native.Nat.{ℕ, zero, suc, ◌+◌, ◌-◌, ◌*◌, ◌/◌, ◌%◌, ◌≤◌, ◌<◌}
use Rattle.std.proofs.Common.{arith, ◌∙◌}
use Rattle.std.proofs.Math.Nat.{mod-lt, div-add-mod', div-mul_cancel}
use Rattle.std.specs.Prelude.{◌≡◌, List}
use Rattle.task.specs.declared.Place.{Place}
use Rattle.euclid.proofs.LeastMultiple.{lcm_left, lcm_right, lcm_pos}
use Rattle.chain.specs.Hyperperiod.{hyper_of}
use Rattle.chain.specs.Multiples.{hyper_pos}
use Rattle.chain.specs.Checks.{Sound}
use Rattle.timing.specs.WarmUp.{warm_tick}
use Rattle.timing.specs.Period.{delay_periods}
use Rattle.ranges.proofs.LargestLaws.{largest_top, reached}
use Rattle.bookings.specs.Bookings.{booking_at, apart_of, apart_at, pair_warm, pair_hyper, greatest_apart}
use Rattle.bookings.specs.Stretches.{booking_late, delay_booking}

-- ---- of a chain that passes the checks 8 and 5

module _ (l : List Place) (ok : Sound l) where
  -- a booking repeats with every multiple of the hyperperiod
  pub booking_period : (k t : ℕ) → warm_tick l ≤ t → booking_at l (t + k * hyper_of l) ≡ booking_at l t + k * hyper_of l
  booking_period k t h =
      let e = delay_periods l ok k t h in
      let a = delay_booking l ok t in
      let b = delay_booking l ok (t + k * hyper_of l) in
      omega (arith, e, a, b, booking_late l ok t, booking_late l ok (t + k * hyper_of l))

-- ---- of two such chains

-- a press within one common hyperperiod from the later warm-up has the greatest difference
pub record Attained (l m : List Place) : Type 0 where
  pub press : ℕ
  pub from : pair_warm l m ≤ press
  pub within : press < pair_warm l m + pair_hyper l m
  pub is : apart_at l m press ≡ greatest_apart l m

-- moved by as much, two ticks lie as far apart
apart_moved : (x y d : ℕ) → apart_of (x + d) (y + d) ≡ apart_of x y
apart_moved x y d = omega arith

module _ (l m : List Place) (okl : Sound l) (okm : Sound m) where
  pub pair_pos : 1 ≤ pair_hyper l m
  pair_pos = lcm_pos (hyper_of l) (hyper_of m) (hyper_pos l okl) (hyper_pos m okm)

  left_times : pair_hyper l m / hyper_of l * hyper_of l ≡ pair_hyper l m
  left_times = div-mul_cancel (hyper_of l) (lcm_left (hyper_of l) (hyper_of m))

  right_times : pair_hyper l m / hyper_of m * hyper_of m ≡ pair_hyper l m
  right_times = div-mul_cancel (hyper_of m) (lcm_right (hyper_of l) (hyper_of m))

  -- A common hyperperiod later the two bookings lie as far apart,
  pub apart_period : (t : ℕ) → pair_warm l m ≤ t → apart_at l m (t + pair_hyper l m) ≡ apart_at l m t
  unfolding apart_at
  apart_period t h =
      let x = booking_period l okl (pair_hyper l m / hyper_of l) t (omega arith) in
      let y = booking_period m okm (pair_hyper l m / hyper_of m) t (omega arith) in
      let x' = rw left_times at x in
      let y' = rw right_times at y in
      rw (x', y') (apart_moved (booking_at l t) (booking_at m t) (pair_hyper l m))

  -- after any number of them.
  pub apart_periods : (k t : ℕ) → pair_warm l m ≤ t → apart_at l m (t + k * pair_hyper l m) ≡ apart_at l m t
  apart_periods zero t h = let e : t + 0 * pair_hyper l m ≡ t = omega arith in rw e
  apart_periods (suc k) t h =
      let e : t + suc k * pair_hyper l m ≡ t + k * pair_hyper l m + pair_hyper l m = omega arith in
      rw e (apart_period (t + k * pair_hyper l m) (omega arith) ∙ apart_periods k t h)

  -- No press from the later warm-up on has more, over all time,
  pub apart_of_all : (t : ℕ) → pair_warm l m ≤ t → apart_at l m t ≤ greatest_apart l m
  unfolding greatest_apart
  apart_of_all t h =
      let q : ℕ = pair_hyper l m in
      let d : ℕ = t - pair_warm l m in
      let r = mod-lt d pair_pos in
      let e : t ≡ pair_warm l m + d % q + d / q * q = omega (arith, div-add-mod' d q) in
      let p = apart_periods (d / q) (pair_warm l m + d % q) (omega arith) in
      rw (e, p) (largest_top (apart_at l m) q (pair_warm l m) (pair_warm l m + d % q) (omega arith) (omega arith))

  -- and a press within one common hyperperiod from there has as much.
  pub apart_reached : Attained l m
  unfolding greatest_apart
  apart_reached =
      let r = reached (apart_at l m) (pair_hyper l m) (pair_warm l m) pair_pos in
      record { press = r.number; from = r.low; within = r.high; is = r.is }
