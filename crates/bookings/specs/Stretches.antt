-- A booking stands still on a stretch of ticks: from a press at t up to the read of the first place's latest job that is booked as early.
use Prim.Native.Nat.{ℕ, ◌+◌, ◌-◌, ◌≤◌, ◌<◌, min}
use native.Mathlib.Omega.{arith}
use Rattle.std.proofs.Math.Decide.{dec_lt}
use Rattle.std.specs.Prelude.{◌≡◌, cond, List, ltb}
use Rattle.std.proofs.Math.Path.{refl, sym, ap}
use Rattle.std.proofs.Common.{◌∙◌, lt-ltb, le-ltb}
use Rattle.task.specs.declared.Place.{Place}
use Rattle.task.specs.Jobs.{read_of, write_of}
use Rattle.task.specs.Links.{earliest_after}
use Rattle.task.proofs.LinkLaws.{AtLeast, after_less}
use Rattle.chain.specs.Chains.{at, last_place, walk, back, job_of}
use Rattle.chain.specs.Checks.{Sound}
use Rattle.timing.specs.Delay.{delay_at}
use Rattle.timing.specs.WarmLaws.{found, at_least_job, job_at_least, way, walk_mono}
use Rattle.timing.specs.WarmRanges.{walk_fits, walk_late, back_early, press_fits, press_late}
use Rattle.bookings.specs.declared.Stretch.{Stretch}
use Rattle.bookings.specs.Bookings.{booking_at, apart_at}

-- The read of the first place's latest job that is booked as early as a press at t: from there on a press is booked later.
unfoldable pub until_of : List Place → ℕ → ℕ
until_of l t = read_of (at l 0) (job_of (back l (walk l (earliest_after (at l 0) t))))

-- The stretch of a press at t.
unfoldable pub stretch_at : List Place → ℕ → Stretch
stretch_at l t = record { booking = record { 0 = booking_at l t }; until = record { 0 = until_of l t } }

-- The stretch in hand while it lasts, else the one at t.
unfoldable pub stretch_on : List Place → Stretch → ℕ → Stretch
stretch_on l s t = cond (ltb t s.until.0) s (stretch_at l t)

-- ---- of a chain that passes the checks 8 and 5

module _ (l : List Place) (ok : Sound l) (t : ℕ) where
  abbrev i : ℕ
  i = earliest_after (at l 0) t

  there : AtLeast (back l (walk l i)) i
  there = (way l ok i (walk l i)).0 (omega arith)

  low : i ≤ job_of (back l (walk l i))
  low = at_least_job (back l (walk l i)) i there

  high : walk l (job_of (back l (walk l i))) ≤ walk l i
  high = (way l ok (job_of (back l (walk l i))) (walk l i)).1 (job_at_least (back l (walk l i)) i there)

  -- A stretch has a tick,
  pub until_late : t < until_of l t
  unfolding until_of
  until_late = elim (dec_lt t (read_of (at l 0) (job_of (back l (walk l i))))) [
    | yes h ↦ omega arith
    | no h ↦ let z = (after_less (at l 0) (ok.each 0 ok.some).period_pos t (job_of (back l (walk l i)))).1 (omega arith) in absurd (omega (arith, low))
  ]

  -- and ends soon.
  pub until_soon : until_of l t ≤ t + 62000000
  unfolding until_of
  until_soon =
      let f = found (back l (walk l i)) i there in
      let e = back_early l ok (walk l i) f.job f.is in
      rw f.is (omega (arith, e, walk_fits l ok i, press_fits l ok t))

  -- A booking comes after its press,
  pub booking_late : t ≤ booking_at l t
  unfolding booking_at
  booking_late = omega (arith, walk_late l ok i, press_late l ok t)

  -- and the delay is how long after.
  pub delay_booking : delay_at l t ≡ booking_at l t - t
  unfolding delay_at booking_at
  delay_booking = refl

  module _ (u : ℕ) (from : t ≤ u) (to : u < until_of l t) where
    same_walk : walk l (earliest_after (at l 0) u) ≡ walk l i
    unfolding until_of
    same_walk =
        let a : Place = at l 0 in
        let pos = (ok.each 0 ok.some).period_pos in
        let k : ℕ = earliest_after a u in
        let after : i ≤ k = elim (dec_lt k i) [
          | yes n ↦ let r = (after_less a pos t k).0 n in let q = (after_less a pos u k).1 (omega arith) in absurd (omega arith)
          | no n ↦ omega arith
        ] in
        let upto : k ≤ job_of (back l (walk l i)) = elim (dec_lt (job_of (back l (walk l i))) k) [
          | yes n ↦ let r = (after_less a pos u (job_of (back l (walk l i)))).0 n in absurd (omega arith)
          | no n ↦ omega arith
        ] in
        let x = walk_mono l ok i k after in
        let y = walk_mono l ok k (job_of (back l (walk l i))) upto in
        omega (arith, x, y, high)

    -- On a stretch the booking stands still,
    pub booking_stays : booking_at l u ≡ booking_at l t
    unfolding booking_at
    booking_stays = ap (write_of (at l (last_place l))) same_walk

    until_stays : until_of l u ≡ until_of l t
    unfolding until_of
    until_stays = ap (λ (k : ℕ). read_of (at l 0) (job_of (back l k))) same_walk

    -- and so does the stretch.
    pub stretch_stays : stretch_at l u ≡ stretch_at l t
    unfolding stretch_at
    stretch_stays = rw (booking_stays, until_stays)

  -- what is in hand at t
  module _ (s : Stretch) (e : s ≡ stretch_at l t) where
    pub hand_booking : s.booking.0 ≡ booking_at l t
    unfolding stretch_at
    hand_booking = ap (λ (x : Stretch). x.booking.0) e

    pub hand_until : s.until.0 ≡ until_of l t
    unfolding stretch_at
    hand_until = ap (λ (x : Stretch). x.until.0) e

    -- and what stands at a later tick: the same, or made anew where it has ended.
    pub stretch_on_holds : (u : ℕ) → t ≤ u → stretch_on l s u ≡ stretch_at l u
    unfolding stretch_on
    stretch_on_holds u h = elim (dec_lt u s.until.0) [
      | yes g ↦ rw (lt-ltb u s.until.0 g) (e ∙ sym (stretch_stays u h (omega (arith, hand_until))))
      | no g ↦ rw (le-ltb u s.until.0 (omega arith))
    ]

-- ---- of two chains: up to the sooner end the difference stands still

module _ (l m : List Place) (okl : Sound l) (okm : Sound m) (t : ℕ) where
  pub apart_stays : (u : ℕ) → t ≤ u → u < min (until_of l t) (until_of m t) → apart_at l m u ≡ apart_at l m t
  unfolding apart_at
  apart_stays u from to =
      let x = booking_stays l okl t u from (omega arith) in
      let y = booking_stays m okm t u from (omega arith) in
      rw (x, y)
