-- mo_smallest_phase: what its numbers say, for every schedule and all numbers. With code 0 and none 0 the phase is the smallest that keeps the bound (`found_for_c`), with none 1 there is no such phase (`none_for_c`),
-- and each of the two is answered wherever it is so (`smallest_for_c`, `no_phase_for_c`). What the phase means for the presses is said in phase/specs/Smallest.
use Rattle.std.specs.Prelude.{ℕ, ◌≡◌, refl, List, [], ◌∷◌, get_or, Err, None, Ok, Option, Result, Some}
use Rattle.std.proofs.Common.{arith, sym, ap, ◌∙◌}
use Rattle.refusal.specs.declared.Refusal.{Refusal}
use Rattle.schedule.specs.declared.Schedule.{Schedule}
use Rattle.phase.specs.Phases.{keeps_bound, period_of, phase_from}
use Rattle.phase.specs.Search.{SmallestPhase, NoPhase}
use Rattle.phase.specs.Smallest.{Passed, smallest_phase, none_exactly}
use Rattle.phase.specs.Refusals.{SmallPhase, refusals_small}
use Rattle.capi_phase.specs.Calls.{phase_numbers, GivesPhase}

-- entry i of two equal lists
entry : (i : ℕ) {l m : List ℕ} → l ≡ m → get_or l i 0 ≡ get_or m i 0
entry i e = ap (λ (x : List ℕ). get_or x i 0) e

module _ (s : Schedule) (n number bound code phase none : ℕ) (gives : GivesPhase s n number bound code phase none) where
  pub found_for_c : code ≡ 0 → none ≡ 0 → Passed s n number × SmallestPhase (keeps_bound s n number bound) (period_of s number) phase
  found_for_c fine some = go (phase_from s n number bound) refl gives (refusals_small s n number bound)
    where
      go : (p : Result (Option ℕ) Refusal) → phase_from s n number bound ≡ p → (code ∷ phase ∷ none ∷ []) ≡ phase_numbers p → SmallPhase p
          → Passed s n number × SmallestPhase (keeps_bound s n number bound) (period_of s number) phase
      go (Ok (Some F)) e g k = (smallest_phase s n number bound phase).0 (e ∙ ap (λ (x : ℕ). Ok (Some x)) (sym (entry 1 g)))
      go (Ok None) e g k = absurd (omega (arith, entry 2 g))
      go (Err r) e g k = absurd (omega (arith, entry 0 g, k.0))

  pub none_for_c : none ≡ 1 → (code ≡ 0) × Passed s n number × NoPhase (keeps_bound s n number bound) (period_of s number)
  none_for_c some = go (phase_from s n number bound) refl gives
    where
      go : (p : Result (Option ℕ) Refusal) → phase_from s n number bound ≡ p → (code ∷ phase ∷ none ∷ []) ≡ phase_numbers p
          → (code ≡ 0) × Passed s n number × NoPhase (keeps_bound s n number bound) (period_of s number)
      go (Ok (Some F)) e g = absurd (omega (arith, entry 2 g))
      go (Ok None) e g = let k = (none_exactly s n number bound).0 e in (entry 0 g, k.0, k.1)
      go (Err r) e g = absurd (omega (arith, entry 2 g))

  pub smallest_for_c : (F : ℕ) → Passed s n number → SmallestPhase (keeps_bound s n number bound) (period_of s number) F → (code ≡ 0) × (phase ≡ F) × (none ≡ 0)
  smallest_for_c F a k =
      let g : (code ∷ phase ∷ none ∷ []) ≡ 0 ∷ F ∷ 0 ∷ [] = gives ∙ ap phase_numbers ((smallest_phase s n number bound F).1 (a, k)) in
      (entry 0 g, entry 1 g, entry 2 g)

  pub no_phase_for_c : Passed s n number → NoPhase (keeps_bound s n number bound) (period_of s number) → (code ≡ 0) × (phase ≡ 0) × (none ≡ 1)
  no_phase_for_c a k =
      let g : (code ∷ phase ∷ none ∷ []) ≡ 0 ∷ 0 ∷ 1 ∷ [] = gives ∙ ap phase_numbers ((none_exactly s n number bound).1 (a, k)) in
      (entry 0 g, entry 1 g, entry 2 g)
