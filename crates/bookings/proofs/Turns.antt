-- One turn of the loop over the stretches of two chains: from t to u, the sooner end of the two stretches in hand.
use Prim.Native.Nat.{ℕ, ◌+◌, ◌-◌, ◌≤◌, ◌<◌, max, min}
use native.Mathlib.Omega.{arith}
use mathlib.Core.Path.{◌≡◌, ap, ◌∙◌}
use mathlib.Core.List.{List}
use Rattle.std.specs.Int.{abs_diff}
use Rattle.task.specs.declared.Place.{Place}
use Rattle.chain.specs.Checks.{Sound}
use Rattle.ranges.specs.Largest.{largest}
use Rattle.ranges.proofs.LargestLaws.{largest_none, largest_step}
use Rattle.bookings.specs.declared.Stretch.{Stretch}
use Rattle.bookings.specs.Bookings.{booking_at, apart_of, apart_at}
use Rattle.bookings.specs.Stretches.{until_of, stretch_at, stretch_on, until_late, until_soon, hand_booking, hand_until, stretch_on_holds, apart_stays}

-- what `abs_diff` answers
pub apart_is : (x y : ℕ) → abs_diff x y ≡ apart_of x y
apart_is x y = omega arith

larger_on : (whole most rest d less new : ℕ) → whole ≡ max most rest → rest ≡ max d less → new ≡ max most d → whole ≡ max new less
larger_on whole most rest d less new p q r = omega arith

module _ (l m : List Place) (okl : Sound l) (okm : Sound m) (t : ℕ) (a b : Stretch) (first : a ≡ stretch_at l t) (second : b ≡ stretch_at m t)
    (u : ℕ) (next : u ≡ min a.until.0 b.until.0) where
  ends : u ≡ min (until_of l t) (until_of m t)
  ends = next ∙ ap (λ (x : ℕ). min x b.until.0) (hand_until l okl t a first) ∙ ap (min (until_of l t)) (hand_until m okm t b second)

  pub next_late : t < u
  next_late = omega (arith, ends, until_late l okl t, until_late m okm t)

  pub next_soon : u ≤ t + 62000000
  next_soon = omega (arith, ends, until_soon l okl t)

  -- the stretches in hand at u
  pub next_first : (s : Stretch) → s ≡ stretch_on l a u → s ≡ stretch_at l u
  next_first s e = e ∙ stretch_on_holds l okl t a first u (omega (arith, next_late))

  pub next_second : (s : Stretch) → s ≡ stretch_on m b u → s ≡ stretch_at m u
  next_second s e = e ∙ stretch_on_holds m okm t b second u (omega (arith, next_late))

  -- what is left after u, with what is found up to there, is the whole
  module _ (end most d new whole : ℕ) (more : t < end) (found : d ≡ apart_of a.booking.0 b.booking.0) (larger : new ≡ max most d)
      (left : whole ≡ max most (largest (apart_at l m) t (end - t))) where
    is_apart : d ≡ apart_at l m t
    unfolding apart_at
    is_apart = found ∙ ap (λ (x : ℕ). apart_of x b.booking.0) (hand_booking l okl t a first) ∙ ap (apart_of (booking_at l t)) (hand_booking m okm t b second)

    pub next_left : whole ≡ max new (largest (apart_at l m) u (end - u))
    next_left =
        let e = largest_step (apart_at l m) (apart_at l m t) t u end more next_late (λ x p q. apart_stays l m okl okm t x p (omega (arith, ends))) in
        larger_on whole most (largest (apart_at l m) t (end - t)) (apart_at l m t) (largest (apart_at l m) u (end - u)) new left e (larger ∙ ap (max most) is_apart)

-- at the end nothing is left
pub none_left : (f : ℕ → ℕ) (t end most whole : ℕ) → end ≤ t → whole ≡ max most (largest f t (end - t)) → most ≡ whole
none_left f t end most whole h e =
    let z : end - t ≡ 0 = omega arith in
    let k = rw (z, largest_none f t) at e in
    omega arith
