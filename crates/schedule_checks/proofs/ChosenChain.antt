-- The two parts of a choice: its refusal, and its chain where there is none.
use Rattle.std.specs.Prelude.{ℕ, ◌≤◌, ◌≡◌, Bool, cond, length, Ok, Err, Result}
use native.Mathlib.Omega.{arith}
use Rattle.std.proofs.Math.Decide.{dec_lt}
use Rattle.std.proofs.Math.Path.{refl, ap}
use Rattle.std.proofs.Common.{◌∙◌}
use Rattle.std.proofs.Math.Bool.{true, false}
use Rattle.std.proofs.Math.Dec.{eqb}
use borrow.Author.Tests.{eq-eqb, ne_eqb, eqb-true, eqb-false}
use Rattle.refusal.specs.declared.Refusal.{Refusal}
use Rattle.refusal.specs.Refusals.{refusal, none}
use Rattle.chain.specs.declared.Chain.{Chain}
use Rattle.schedule.specs.declared.Schedule.{Schedule}
use Rattle.schedule.specs.Schedules.{chain_at}
use Rattle.schedule.specs.Arrays.{Arrays}
use Rattle.schedule_checks.specs.Checks.{count_right, fault_of, passed, choice_of, chosen_of, after_choice}
use Rattle.schedule_checks.proofs.Passed.{refused_passed}
use Rattle.schedule_checks.proofs.SoundSchedule.{SoundSchedule, sound, no_refusal, count_right_holds, right_count}
use Rattle.schedule_checks.proofs.SoundChain.{sound_twelve}

module _ (s : Schedule) (n : ℕ) where
  pub chosen_chain : (choice_of s n).number ≡ 0 → chosen_of s n ≡ Ok (chain_at s n)
  unfolding chosen_of
  chosen_chain h = rw (eq-eqb (choice_of s n).number 0 h)

  pub none_chosen_holds : ((choice_of s n).number ≡ 0 → ⊥) → chosen_of s n ≡ Err (choice_of s n)
  unfolding chosen_of
  none_chosen_holds h = rw (ne_eqb (choice_of s n).number 0 h)

  -- The chain or the refusal that was answered.
  pub is_chosen : (c : Chain) → Ok c ≡ chosen_of s n → ((choice_of s n).number ≡ 0) × (c ≡ chain_at s n)
  unfolding chosen_of
  is_chosen c e = go (eqb (choice_of s n).number 0) refl e
    where
      go : (b : Bool) → eqb (choice_of s n).number 0 ≡ b → ◌≡◌ {A = Result Chain Refusal} (Ok c) (cond b (Ok (chain_at s n)) (Err (choice_of s n)))
          → ((choice_of s n).number ≡ 0) × (c ≡ chain_at s n)
      go true k h = let i : c ≡ chain_at s n = cc in (eqb-true (choice_of s n).number 0 k, i)
      go false k h = absurd cc

  pub is_refused : (r : Refusal) → Err r ≡ chosen_of s n → ((choice_of s n).number ≡ 0 → ⊥) × (r ≡ choice_of s n)
  unfolding chosen_of
  is_refused r e = go (eqb (choice_of s n).number 0) refl e
    where
      go : (b : Bool) → eqb (choice_of s n).number 0 ≡ b → ◌≡◌ {A = Result Chain Refusal} (Err r) (cond b (Ok (chain_at s n)) (Err (choice_of s n)))
          → ((choice_of s n).number ≡ 0 → ⊥) × (r ≡ choice_of s n)
      go true k h = absurd cc
      go false k h = let i : r ≡ choice_of s n = cc in (eqb-false (choice_of s n).number 0 k, i)

  -- A chain is chosen exactly where the schedule is sound and the number is one of its chains'; then the code is 0.
  pub choice_sound : (choice_of s n).number ≡ 0 → (SoundSchedule s) × (1 ≤ n) × (n ≤ s.chains)
  unfolding choice_of
  choice_sound = go (eqb (fault_of s).number 0) refl (count_right n s.chains) refl
    where
      go : (a : Bool) → eqb (fault_of s).number 0 ≡ a → (b : Bool) → count_right n s.chains ≡ b → (cond a (cond b none (refusal 16 0)) (fault_of s)).number ≡ 0
          → (SoundSchedule s) × (1 ≤ n) × (n ≤ s.chains)
      go true e true f h = let k = count_right_holds n s.chains f in (sound s (eqb-true (fault_of s).number 0 e), k.0, k.1)
      go true e false f h = absurd (omega arith)
      go false e b f h = absurd (eqb-false (fault_of s).number 0 e h)

  pub choice_there : SoundSchedule s → 1 ≤ n → n ≤ s.chains → choice_of s n ≡ none
  unfolding choice_of
  choice_there k low high = rw (no_refusal s k, right_count n s.chains low high)

  -- The chain that is chosen has room for twelve tasks.
  pub chosen_twelve : Arrays s → (choice_of s n).number ≡ 0 → length (chain_at s n).tasks ≡ 12
  chosen_twelve a e = let k = choice_sound e in sound_twelve s a k.0 n k.1 k.2

  -- Where a chain is chosen, an analysis answers of it,
  pub choice_answers : {A : Type 0} (refused : Refusal → A) (answer : Chain → A) → (choice_of s n).number ≡ 0 → after_choice s n refused answer ≡ answer (chain_at s n)
  unfolding after_choice
  choice_answers refused answer e = rw (eq-eqb (choice_of s n).number 0 e)

  -- and where it answers what is no refusal, a chain is chosen.
  pub answer_chosen : {A : Type 0} (refused : Refusal → A) (answer : Chain → A) (a : A) → ((r : Refusal) → refused r ≡ a → ⊥) → after_choice s n refused answer ≡ a → (choice_of s n).number ≡ 0
  unfolding after_choice
  answer_chosen refused answer a other h = elim (dec_lt (choice_of s n).number 1) [
    | yes k ↦ omega arith
    | no k ↦ absurd (other (choice_of s n) (rw (ne_eqb (choice_of s n).number 0 (λ z. omega arith)) at h))
  ]

  -- Where the schedule is refused, nothing is chosen.
  pub fault_answers : {A : Type 0} (refused : Refusal → A) (answer : Chain → A) (r : Refusal) → Err r ≡ passed (fault_of s) → refused r ≡ after_choice s n refused answer
  unfolding after_choice choice_of
  fault_answers refused answer r h =
      let p = refused_passed (fault_of s) r h in
      ap refused p.0 ∙ rw (ne_eqb (fault_of s).number 0 p.1, ne_eqb (fault_of s).number 0 p.1)

  -- What an analysis answers, by what was chosen.
  module _ {A : Type 0} (refused : Refusal → A) (answer : Chain → A) where
    pub choice_refused : (r : Refusal) → Err r ≡ chosen_of s n → refused r ≡ after_choice s n refused answer
    unfolding after_choice
    choice_refused r e = let k = is_refused r e in ap refused k.1 ∙ rw (ne_eqb (choice_of s n).number 0 k.0)

    pub choice_made : (c : Chain) → Ok c ≡ chosen_of s n → answer c ≡ after_choice s n refused answer
    unfolding after_choice
    choice_made c e = let k = is_chosen c e in ap answer k.1 ∙ rw (eq-eqb (choice_of s n).number 0 k.0)
