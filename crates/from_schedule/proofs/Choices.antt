-- What holds after the choice of a chain, one law for each return.
use Rattle.std.specs.Prelude.{Ok, Err}
use Prim.Native.Nat.{ℕ}
use mathlib.Core.Path.{◌≡◌}
use Rattle.refusal.specs.declared.Refusal.{Refusal}
use Rattle.chain.specs.declared.Chain.{Chain}
use Rattle.schedule.specs.declared.Schedule.{Schedule}
use Rattle.schedule_checks.specs.Checks.{choice_of, chosen_of}
use Rattle.schedule_checks.proofs.ChosenChain.{is_chosen, is_refused}
use Rattle.from_schedule.specs.Answers.{HoldsAfter}

module _ (s : Schedule) (n : ℕ) (Refused : Refusal → Type 0) (Answered : Chain → Type 0) where
  pub holds_refused : (r : Refusal) → Err r ≡ chosen_of s n → Refused r → HoldsAfter s n Refused Answered
  holds_refused r e k =
      let i = is_refused s n r e in
      record { refused = λ z. rw i.1 at k; answered = λ z. absurd (i.0 z) }

  pub holds_made : (c : Chain) → Ok c ≡ chosen_of s n → Answered c → HoldsAfter s n Refused Answered
  holds_made c e k =
      let i = is_chosen s n c e in
      record { refused = λ z. absurd (z i.0); answered = λ z. rw i.1 at k }
