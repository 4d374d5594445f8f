-- The greatest difference of two chains of a schedule, of the call's own answers (`greatest_pair_from`): no press that is answered has more, and one is answered with just as much.
use Rattle.std.specs.Prelude.{ℕ, ◌≤◌, ◌≡◌, Err}
use Rattle.std.proofs.Common.{arith, sym, ◌∙◌}
use Rattle.refusal.specs.declared.Refusal.{Refusal}
use Rattle.task.specs.declared.Tick.{Tick}
use Rattle.chain.specs.declared.Chain.{Chain}
use Rattle.schedule.specs.declared.Schedule.{Schedule}
use Rattle.schedule.specs.Schedules.{chain_at}
use Rattle.schedule.specs.Arrays.{Arrays}
use Rattle.schedule_checks.specs.Checks.{after_choice}
use Rattle.schedule_checks.proofs.ChosenChain.{chosen_twelve, choice_answers, answer_chosen}
use Rattle.bookings.specs.Bookings.{bookings_of, both_booked}
use Rattle.bookings.proofs.Answered.{greatest_answered}
use Rattle.from_schedule.specs.Answers.{bookings_from}

-- a pair of bookings is no refusal
no_pair : (x y : Tick) (e g : ℕ) (r : Refusal) → Err r ≡ both_booked x y e g → ⊥
no_pair x y e g r h = let z : ◌≡◌ {A = ℕ} 0 1 = cc in omega arith

pub record GreatestFrom (s : Schedule) (first second greatest : ℕ) : Type 0 where
  pub none_more : (t : ℕ) (x y : Tick) (e g : ℕ) → bookings_from s first second t ≡ both_booked x y e g → (e ≤ greatest) × (g ≡ greatest)
  pub press : ℕ
  pub later : Tick
  pub earlier : Tick
  pub has : bookings_from s first second press ≡ both_booked later earlier greatest greatest

module _ (s : Schedule) (a : Arrays s) (first second : ℕ) where
  abbrev c : Chain
  c = chain_at s first

  abbrev d : Chain
  d = chain_at s second

  pub greatest_pair_from : (t : ℕ) (x y : Tick) (e g : ℕ) → bookings_from s first second t ≡ both_booked x y e g → GreatestFrom s first second g
  greatest_pair_from t x y e g h =
      let one = answer_chosen s first _ _ _ (no_pair x y e g) h in
      let on : (u : ℕ) → bookings_from s first second u ≡ after_choice s second Err (λ (z : Chain). bookings_of c z u)
      = λ u. choice_answers s first Err (λ (v : Chain). after_choice s second Err (λ (z : Chain). bookings_of v z u)) one in
      let two = answer_chosen s second _ _ _ (no_pair x y e g) (sym (on t) ∙ h) in
      let both : (u : ℕ) → bookings_from s first second u ≡ bookings_of c d u = λ u. on u ∙ choice_answers s second Err (λ (z : Chain). bookings_of c z u) two in
      let k = greatest_answered c d (chosen_twelve s first a one) (chosen_twelve s second a two) t x y e g (sym (both t) ∙ h) in
      record {
        none_more = λ u x' y' e' g' h'. k.none_more u x' y' e' g' (sym (both u) ∙ h');
        press = k.press;
        later = k.later;
        earlier = k.earlier;
        has = both k.press ∙ k.has;
      }
