-- What holds at each return of `check_pair` and `pair_on`, and what an accepted pair has.
use Rattle.std.specs.Prelude.{Err, Ok, Result}
use Prim.Native.Nat.{ℕ, ◌+◌, ◌-◌, ◌*◌, ◌≤◌, ◌<◌, max, min}
use native.Mathlib.Omega.{arith}
use native.Mathlib.Nat.{mul-le-mul}
use mathlib.Core.Path.{◌≡◌, refl, sym, ap, ◌∙◌}
use mathlib.Core.Bool.{Bool, true, false, cond}
use mathlib.Core.List.{List}
use lib.Dec.{leb, ltb}
use borrow.Author.Tests.{le-leb, lt-leb, leb-true, le-ltb}
use Rattle.refusal.specs.declared.Refusal.{Refusal}
use Rattle.refusal.specs.Refusals.{refusal}
use Rattle.task.specs.declared.Task.{Task}
use Rattle.task.specs.declared.Place.{Place}
use Rattle.task.specs.declared.Tick.{Tick}
use Rattle.euclid.specs.Divisor.{lcm_of}
use Rattle.chain.specs.Chains.{placed}
use Rattle.chain.specs.Hyperperiod.{hyper_of}
use Rattle.chain.specs.Multiples.{hyper_pos}
use Rattle.chain.specs.Checks.{verdict_in, Sound}
use Rattle.chain.proofs.CheckLaws.{FactsIn, accepted_in}
use Rattle.timing.specs.WarmUp.{warm_tick}
use Rattle.timing.specs.WarmRanges.{warm_range}
use Rattle.timing.specs.Answers.{upper_tick, tick_checked}
use Rattle.timing.proofs.Exits.{in_range}
use Rattle.ranges.specs.Largest.{largest}
use Rattle.bookings.specs.Bookings.{apart_of, apart_at, pair_warm, pair_hyper, greatest_apart, common_verdict, after_both, both_at, pair_verdict, bookings_after, both_booked}
use Rattle.bookings.specs.Stretches.{stretch_at, hand_booking}
use Rattle.bookings.specs.declared.Stretch.{Stretch}

-- ---- check_pair

pub product_fits : (x y : ℕ) → x ≤ 60000000 → y ≤ 60000000 → x * y ≤ 1000000000000000000
product_fits x y p q = omega (arith, mul-le-mul p q)

-- what an accepted pair has

pub record Pair (l m : List Place) (h : ℕ) : Type 0 where
  pub first : Sound l
  pub second : Sound m
  pub hyper : h ≡ pair_hyper l m
  pub small : h ≤ 60000000

pub pair_warm_holds : (l m : List Place) (p q x : ℕ) → p ≡ warm_tick l → q ≡ warm_tick m → x ≡ max p q → x ≡ pair_warm l m
pair_warm_holds l m p q x e f g = g ∙ ap (λ (y : ℕ). max y q) e ∙ ap (max (warm_tick l)) f

warm_small : (l : List Place) → Sound l → warm_tick l ≤ 60011000
unfolding warm_tick
warm_small l ok = warm_range l ok 0 ok.some

-- two lists of tasks with their gaps, and the places that they fill
module _ (gl : ℕ) (ls : List Task) (gm : ℕ) (ms : List Task) where
  abbrev l : List Place
  l = placed gl ls

  abbrev m : List Place
  m = placed gm ms

  pub pair_first : (r : Refusal) → verdict_in gl ls ≡ Err r → Err r ≡ pair_verdict gl ls gm ms
  unfolding pair_verdict
  pair_first r e = rw e

  module _ (h : ℕ) (e : verdict_in gl ls ≡ Ok h) where
    pub pair_second : (r : Refusal) → verdict_in gm ms ≡ Err r → Err r ≡ pair_verdict gl ls gm ms
    unfolding pair_verdict
    pair_second r f = rw (e, f)

    module _ (k : ℕ) (f : verdict_in gm ms ≡ Ok k) where
      one : FactsIn l h
      one = accepted_in gl ls h e

      two : FactsIn m k
      two = accepted_in gm ms k f

      pub first_pos : 1 ≤ h
      first_pos = omega (arith, one.hyper, hyper_pos l one.sound)

      pub first_small : h ≤ 60000000
      first_small = one.small

      pub second_small : k ≤ 60000000
      second_small = two.small

      module _ (both : ℕ) (g : both ≡ lcm_of h k) where
        common : both ≡ pair_hyper l m
        common = g ∙ ap (λ (x : ℕ). lcm_of x k) one.hyper ∙ ap (lcm_of (hyper_of l)) two.hyper

        pub pair_above : 60000000 < both → Err (refusal 7 0) ≡ pair_verdict gl ls gm ms
        unfolding pair_verdict common_verdict
        pair_above x = rw (e, f, ← common, lt-leb both 60000000 x)

        pub pair_accepted : both ≤ 60000000 → Ok both ≡ pair_verdict gl ls gm ms
        unfolding pair_verdict common_verdict
        pair_accepted x = rw (e, f, ← common, le-leb both 60000000 x)

  pub paired : (h : ℕ) → pair_verdict gl ls gm ms ≡ Ok h → Pair l m h
  unfolding pair_verdict common_verdict
  paired h e = go (verdict_in gl ls) (verdict_in gm ms) (leb (pair_hyper l m) 60000000) refl refl refl e
    where
      go : (v w : Result ℕ Refusal) (d : Bool) → verdict_in gl ls ≡ v → verdict_in gm ms ≡ w → leb (pair_hyper l m) 60000000 ≡ d → after_both v w (pair_hyper l m) ≡ Ok h → Pair l m h
      go (Err r) w d x y z q = absurd (let s : ◌≡◌ {A = ℕ} 0 1 = cc in omega arith)
      go (Ok i) (Err r) d x y z q = absurd (let s : ◌≡◌ {A = ℕ} 0 1 = cc in omega arith)
      go (Ok i) (Ok k) true x y z q =
          let p = rw z at q in
          let s : pair_hyper l m ≡ h = cc in
          record { first = (accepted_in gl ls i x).sound; second = (accepted_in gm ms k y).sound; hyper = sym s; small = omega (arith, leb-true (pair_hyper l m) 60000000 z) }
      go (Ok i) (Ok k) false x y z q =
          let p = rw z at q in
          absurd (let s : ◌≡◌ {A = ℕ} 0 1 = cc in omega arith)

  -- ---- pair_on

  pub bookings_refused : (t : ℕ) (r : Refusal) → pair_verdict gl ls gm ms ≡ Err r → Err r ≡ bookings_after l m t (pair_verdict gl ls gm ms)
  unfolding bookings_after
  bookings_refused t r e = rw e

  -- x is the later warm-up tick
  module _ (h : ℕ) (e : pair_verdict gl ls gm ms ≡ Ok h) (x : ℕ) (warm : x ≡ pair_warm l m) where
    pub range_fits : x + h ≤ 900000000000
    range_fits = let k = paired h e in omega (arith, warm, warm_small l k.first, warm_small m k.second, k.small)

    -- t is the tick that is asked for
    module _ (t : ℕ) where
      pub bookings_tick : (r : Refusal) → Err r ≡ tick_checked t x → Err r ≡ bookings_after l m t (pair_verdict gl ls gm ms)
      unfolding bookings_after
      bookings_tick r refused = rw e (go (ltb t (pair_warm l m)) (ltb upper_tick t) (refused ∙ ap (tick_checked t) warm))
        where
          go : (p q : Bool) → ◌≡◌ {A = Result (Unit {0}) Refusal} (Err r) (cond p (Err (refusal 12 0)) (cond q (Err (refusal 13 0)) (Ok tt)))
              → Err r ≡ cond p (Err (refusal 12 0)) (cond q (Err (refusal 13 0)) (both_at l m t))
          go true q z = let i : r ≡ refusal 12 0 = cc in ap Err i
          go false true z = let i : r ≡ refusal 13 0 = cc in ap Err i
          go false false z = absurd cc

      pub tick_top : (u : Unit {0}) → Ok u ≡ tick_checked t x → t ≤ 1000000000000
      tick_top u passed = (in_range t (pair_warm l m) u x passed warm).1

      -- a and b are the stretches at t
      pub bookings_both : (u : Unit {0}) → Ok u ≡ tick_checked t x → (a b : Stretch) → a ≡ stretch_at l t → b ≡ stretch_at m t → (later earlier : Tick) (difference greatest : ℕ)
          → later.0 ≡ max a.booking.0 b.booking.0 → earlier.0 ≡ min a.booking.0 b.booking.0 → difference ≡ apart_of a.booking.0 b.booking.0
          → greatest ≡ largest (apart_at l m) x (x + h - x) → both_booked later earlier difference greatest ≡ bookings_after l m t (pair_verdict gl ls gm ms)
      unfolding bookings_after apart_at greatest_apart
      bookings_both u passed a b first second later earlier difference greatest p q r s =
          let k = paired h e in
          let w = in_range t (pair_warm l m) u x passed warm in
          let i = hand_booking l k.first t a first in
          let j = hand_booking m k.second t b second in
          let p' = rw (i, j) at p in
          let q' = rw (i, j) at q in
          let r' = rw (i, j) at r in
          let d : x + h - x ≡ h = omega arith in
          let s' : greatest ≡ largest (apart_at l m) (pair_warm l m) (pair_hyper l m)
          = s ∙ ap (largest (apart_at l m) x) (d ∙ k.hyper) ∙ ap (λ (y : ℕ). largest (apart_at l m) y (pair_hyper l m)) warm in
          rw (e, le-ltb t (pair_warm l m) w.0, le-ltb 1000000000000 t w.1)
          (made p' q' r' s')
        where
          made : {p q r s : ℕ} → later.0 ≡ p → earlier.0 ≡ q → difference ≡ r → greatest ≡ s → both_booked later earlier difference greatest ≡ both_booked (record { 0 = p }) (record { 0 = q }) r s
          made {p} {q} {r} {s} e₁ e₂ e₃ e₄ =
              ap (λ (y : ℕ). both_booked (record { 0 = y }) earlier difference greatest) e₁ ∙ ap (λ (y : ℕ). both_booked (record { 0 = p }) (record { 0 = y }) difference greatest) e₂
              ∙ ap (λ (y : ℕ). both_booked (record { 0 = p }) (record { 0 = q }) y greatest) e₃ ∙ ap (both_booked (record { 0 = p }) (record { 0 = q }) r) e₄
