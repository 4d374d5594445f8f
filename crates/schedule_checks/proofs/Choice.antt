-- What the choice of a chain leads to, one law for each return.
use Rattle.std.specs.Prelude.{Ok, Err}
use Prim.Native.Nat.{ℕ, ◌-◌}
use lib.ListN.{get_or}
use mathlib.Core.Path.{◌≡◌, sym, ap, ◌∙◌}
use mathlib.Core.Bool.{true, false}
use borrow.Author.Tests.{eq-eqb, ne_eqb}
use Rattle.refusal.specs.declared.Refusal.{Refusal}
use Rattle.refusal.specs.Refusals.{refusal}
use Rattle.chain.specs.declared.Chain.{Chain}
use Rattle.schedule.specs.declared.Schedule.{Schedule}
use Rattle.schedule.specs.Schedules.{tasks_in, no_route, chain_of, chain_at}
use Rattle.schedule.specs.ChainTasks.{route_there}
use Rattle.schedule_checks.specs.Checks.{count_right, fault_of, passed, choice_of, chosen_of}
use Rattle.schedule_checks.proofs.Passed.{refused_passed}
use Rattle.schedule_checks.proofs.SoundSchedule.{count_right_holds}

module _ (s : Schedule) (n : ℕ) where
  pub schedule_refused : (r : Refusal) → Err r ≡ passed (fault_of s) → Err r ≡ chosen_of s n
  unfolding choice_of chosen_of
  schedule_refused r h =
      let p = refused_passed (fault_of s) r h in
      rw (p.0, ne_eqb (fault_of s).number 0 p.1, ne_eqb (fault_of s).number 0 p.1)

  module _ (fine : (fault_of s).number ≡ 0) where
    pub chain_chosen : (c : Chain) → count_right n s.chains ≡ true → c ≡ chain_of s.gap (tasks_in s) (get_or s.routes (n - 1) no_route) → Ok c ≡ chosen_of s n
    unfolding choice_of chosen_of
    chain_chosen c h e =
        let k = count_right_holds n s.chains h in
        let there : c ≡ chain_at s n = e ∙ ap (chain_of s.gap (tasks_in s)) (sym (route_there s n k.0 k.1)) in
        rw (there, eq-eqb (fault_of s).number 0 fine, h)

    pub number_refused : count_right n s.chains ≡ false → Err (refusal 16 0) ≡ chosen_of s n
    unfolding choice_of chosen_of
    number_refused h = rw (eq-eqb (fault_of s).number 0 fine, h)
