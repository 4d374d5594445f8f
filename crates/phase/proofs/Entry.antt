-- From a schedule to the tasks and numbers at the places of the chain that was chosen.
use Rattle.std.specs.Prelude.{Ok, Err, Option, Result}
use Prim.Native.Nat.{ℕ, ◌-◌, ◌≤◌, ◌<◌}
use native.Mathlib.Omega.{arith}
use mathlib.Core.Path.{◌≡◌, sym, ap, ◌∙◌, subst}
use mathlib.Core.List.{List}
use lib.ListN.{get_or, take}
use Rattle.refusal.specs.declared.Refusal.{Refusal}
use Rattle.chain.specs.declared.Chain.{Chain}
use Rattle.chain.specs.Chains.{given_of}
use Rattle.schedule.specs.declared.Route.{Route}
use Rattle.schedule.specs.declared.Schedule.{Schedule}
use Rattle.schedule.specs.Schedules.{no_route, chain_at}
use Rattle.schedule.specs.Arrays.{Arrays}
use Rattle.schedule.specs.ChainTasks.{route_there}
use Rattle.schedule_checks.specs.Checks.{choice_of, chosen_of}
use Rattle.schedule_checks.proofs.ChosenChain.{is_chosen, choice_sound, choice_refused}
use Rattle.phase.specs.Phases.{places_at, phase_from}
use Rattle.phase.specs.InList.{phase_in, Filled}
use Rattle.phase.specs.MovedSchedule.{places_filled, places_few, in_list}

pub entry_refused : (s : Schedule) (n number bound : ℕ) (r : Refusal) → Err r ≡ chosen_of s n → Err r ≡ phase_from s n number bound
entry_refused s n number bound r e = choice_refused s n Err _ r e

module _ (s : Schedule) (n number bound : ℕ) (c : Chain) (is : Ok c ≡ chosen_of s n) where
  module _ (a : Arrays s) where
    chosen : (choice_of s n).number ≡ 0
    chosen = (is_chosen s n c is).0

    chain_is : c ≡ chain_at s n
    chain_is = (is_chosen s n c is).1

    pub entry_number : (1 ≤ n) × (n - 1 < 4)
    entry_number = let k = choice_sound s n chosen in (k.1, omega (arith, k.1, k.2, k.0.few_chains))

    abbrev route : Route
    route = get_or s.routes (n - 1) no_route

    places_are : take c.places route.places ≡ places_at s n
    places_are =
        let k = choice_sound s n chosen in
        ap (λ (x : Chain). take x.places route.places) chain_is ∙ ap (λ (r : Route). take (chain_at s n).places r.places) (sym (route_there s n k.1 k.2))

    pub entry_given : (c.places ≤ 12) × Filled (take c.places route.places) (given_of c)
    entry_given = (
      omega (arith, ap (λ (x : Chain). x.places) chain_is, (places_few s a n chosen).1),
      subst (λ (x : Chain). Filled (take c.places route.places) (given_of x)) (sym chain_is) (subst (λ (ps : List ℕ). Filled ps (given_of (chain_at s n))) (sym places_are) (places_filled s a n chosen)),
    )

    pub entry_answer : (r : Result (Option ℕ) Refusal) → r ≡ phase_in c.gap (take c.places route.places) (given_of c) number bound → r ≡ phase_from s n number bound
    entry_answer r e =
        e ∙ ap (λ (x : Chain). phase_in x.gap (take c.places route.places) (given_of x) number bound) chain_is
        ∙ ap (λ (ps : List ℕ). phase_in s.gap ps (given_of (chain_at s n)) number bound) places_are ∙ sym (in_list s a n chosen number bound)
