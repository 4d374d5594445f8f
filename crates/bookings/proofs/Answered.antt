-- The greatest difference, of the call's own answers (`greatest_answered`): no press that is answered has more, whenever it comes, and a press within one common hyperperiod from the later warm-up
-- is answered with just as much.
use Prim.Native.Nat.{ℕ, ◌+◌, ◌≤◌, ◌<◌, max, min}
use Rattle.std.proofs.Common.{arith, ◌∙◌}
use Rattle.std.proofs.Math.Path.{◌≡◌, refl, sym, ap}
use Rattle.std.specs.Prelude.{Bool, cond, List, ltb, length, Err, Ok, Result}
use Rattle.std.proofs.Math.Bool.{true, false}
use Rattle.std.proofs.Math.Dec.{leb}
use borrow.Author.Tests.{leb-true, ltb-false, le-leb, le-ltb}
use Rattle.refusal.specs.declared.Refusal.{Refusal}
use Rattle.refusal.specs.Refusals.{refusal}
use Rattle.task.specs.declared.Place.{Place}
use Rattle.task.specs.declared.Tick.{Tick}
use Rattle.chain.specs.declared.Chain.{Chain}
use Rattle.chain.specs.Chains.{tasks_of}
use Rattle.chain.specs.Checks.{Sound, verdict_of}
use Rattle.chain.proofs.CheckLaws.{accepted}
use Rattle.timing.specs.WarmUp.{warm_tick}
use Rattle.timing.specs.Answers.{upper_tick}
use Rattle.timing.specs.WarmRanges.{warm_range}
use Rattle.bookings.specs.declared.Bookings.{Bookings}
use Rattle.bookings.specs.Bookings.{booking_at, apart_at, pair_warm, pair_hyper, greatest_apart, common_verdict, after_both, both_at, bookings_after, bookings_of, both_booked}
use Rattle.bookings.proofs.EveryPress.{apart_of_all, apart_reached}

-- two answers that are equal have the same bookings
booked : {a b : Bookings} → ◌≡◌ {A = Result Bookings Refusal} (Ok a) (Ok b) → a ≡ b
booked e = cc

module _ (l m : List Place) where
  -- what an answer tells of the press and of the two chains
  record Answered (v w : Result ℕ Refusal) (t e g : ℕ) : Type 0 where
    own : ℕ
    first : v ≡ Ok own
    other : ℕ
    second : w ≡ Ok other
    small : pair_hyper l m ≤ 60000000
    low : pair_warm l m ≤ t
    difference : e ≡ apart_at l m t
    greatest : g ≡ greatest_apart l m

  -- of two accepted chains, past 7,
  module _ (a b t : ℕ) (x y : Tick) (e g : ℕ) (small : pair_hyper l m ≤ 60000000) where
    tick_tells : (q : Bool) → ltb t (pair_warm l m) ≡ q → (r : Bool) → cond q (Err (refusal 12 0)) (cond r (Err (refusal 13 0)) (both_at l m t)) ≡ both_booked x y e g
        → Answered (Ok a) (Ok b) t e g
    tick_tells false low false k =
        let i = booked (sym k) in
        record {
          own = a;
          first = refl;
          other = b;
          second = refl;
          small = small;
          low = ltb-false t (pair_warm l m) low;
          difference = ap (λ (q : Bookings). q.difference) i;
          greatest = ap (λ (q : Bookings). q.greatest) i;
        }
    tick_tells false low true k = absurd (let z : ◌≡◌ {A = ℕ} 0 1 = cc in omega arith)
    tick_tells true low r k = absurd (let z : ◌≡◌ {A = ℕ} 0 1 = cc in omega arith)

  answer_tells : (v w : Result ℕ Refusal) (t : ℕ) (x y : Tick) (e g : ℕ) → bookings_after l m t (after_both v w (pair_hyper l m)) ≡ both_booked x y e g → Answered v w t e g
  unfolding bookings_after common_verdict
  answer_tells (Err r) w t x y e g h = absurd (let z : ◌≡◌ {A = ℕ} 0 1 = cc in omega arith)
  answer_tells (Ok a) (Err r) t x y e g h = absurd (let z : ◌≡◌ {A = ℕ} 0 1 = cc in omega arith)
  answer_tells (Ok a) (Ok b) t x y e g h = go (leb (pair_hyper l m) 60000000) refl h
    where
      go : (p : Bool) → leb (pair_hyper l m) 60000000 ≡ p → bookings_after l m t (cond p (Ok (pair_hyper l m)) (Err (refusal 7 0))) ≡ both_booked x y e g
          → Answered (Ok a) (Ok b) t e g
      go true small k = tick_tells a b t x y e g (leb-true (pair_hyper l m) 60000000 small) (ltb t (pair_warm l m)) refl (ltb upper_tick t) k
      go false small k = absurd (let z : ◌≡◌ {A = ℕ} 0 1 = cc in omega arith)

  -- a press of the range is answered
  answer_there : (v w : Result ℕ Refusal) (a b t : ℕ) → v ≡ Ok a → w ≡ Ok b → pair_hyper l m ≤ 60000000 → pair_warm l m ≤ t → t ≤ upper_tick
      → bookings_after l m t (after_both v w (pair_hyper l m)) ≡ both_at l m t
  unfolding bookings_after common_verdict
  answer_there v w a b t first second small low high = rw (first, second, le-leb (pair_hyper l m) 60000000 small, le-ltb t (pair_warm l m) low, le-ltb upper_tick t high)

-- What holds of the greatest difference that the call answers of two chains.
pub record GreatestAnswered (c d : Chain) (greatest : ℕ) : Type 0 where
  pub none_more : (t : ℕ) (x y : Tick) (e g : ℕ) → bookings_of c d t ≡ both_booked x y e g → (e ≤ greatest) × (g ≡ greatest)
  pub press : ℕ
  pub from : pair_warm (tasks_of c) (tasks_of d) ≤ press
  pub within : press < pair_warm (tasks_of c) (tasks_of d) + pair_hyper (tasks_of c) (tasks_of d)
  pub later : Tick
  pub earlier : Tick
  pub has : bookings_of c d press ≡ both_booked later earlier greatest greatest

module _ (c d : Chain) (first : length c.tasks ≡ 12) (second : length d.tasks ≡ 12) where
  pub greatest_answered : (t : ℕ) (x y : Tick) (e g : ℕ) → bookings_of c d t ≡ both_booked x y e g → GreatestAnswered c d g
  unfolding warm_tick
  greatest_answered t x y e g h =
      let l = tasks_of c in
      let m = tasks_of d in
      let k = answer_tells l m (verdict_of c) (verdict_of d) t x y e g h in
      let okl : Sound l = (accepted c k.own first k.first).passes.sound in
      let okm : Sound m = (accepted d k.other second k.second).passes.sound in
      let r = apart_reached l m okl okm in
      let u : r.press ≤ upper_tick = omega (arith, r.within, k.small, warm_range l okl 0 okl.some, warm_range m okm 0 okm.some) in
      let b = answer_there l m (verdict_of c) (verdict_of d) k.own k.other r.press k.first k.second k.small r.from u in
      let late : Tick = record { 0 = max (booking_at l r.press) (booking_at m r.press) } in
      let early : Tick = record { 0 = min (booking_at l r.press) (booking_at m r.press) } in
      record {
        none_more = λ t' x' y' e' g' h'.
            let k' = answer_tells l m (verdict_of c) (verdict_of d) t' x' y' e' g' h' in
            (omega (arith, k'.difference, k.greatest, apart_of_all l m okl okm t' k'.low), k'.greatest ∙ sym k.greatest);
        press = r.press;
        from = r.from;
        within = r.within;
        later = late;
        earlier = early;
        has = b ∙ ap (λ (z : ℕ). both_booked late early z (greatest_apart l m)) (r.is ∙ sym k.greatest) ∙ ap (both_booked late early g) (sym k.greatest);
      }
