-- What the smallest phase answers, as C gets it.
use Rattle.std.specs.Prelude.{Err, None, Ok, Option, Result, Some}
use Prim.Native.Nat.{ℕ, ◌≤◌, ◌<◌}
use mathlib.Core.Path.{◌≡◌, refl, sym, ap, ◌∙◌}
use mathlib.Core.List.{[], ◌∷◌}
use Rattle.refusal.specs.declared.Refusal.{Refusal}
use Rattle.refusal.specs.Refusals.{code_of}
use Rattle.refusal.proofs.Arms.{gives, gives_refusal}
use Rattle.schedule.specs.declared.Schedule.{Schedule}
use Rattle.phase.specs.Phases.{phase_from}
use Rattle.phase.specs.Refusals.{SmallPhase, refusals_small}
use Rattle.capi_phase.specs.Calls.{phase_numbers, GivesPhase}

-- s is the schedule that was made, u the one that the lists mean
module _ (s u : Schedule) (n number bound : ℕ) (a : Result (Option ℕ) Refusal) (same : s ≡ u) (is : a ≡ phase_from s n number bound) where
  answer : a ≡ phase_from u n number bound
  answer = is ∙ ap (λ (x : Schedule). phase_from x n number bound) same

  pub gives_phase : (F : ℕ) → a ≡ Ok (Some F) → GivesPhase u n number bound 0 F 0
  gives_phase F e = gives phase_numbers answer e

  pub gives_none : a ≡ Ok None → GivesPhase u n number bound 0 0 1
  gives_none e = gives phase_numbers answer e

  pub refuses : (r : Refusal) (code : ℕ) → a ≡ Err r → code ≡ code_of r → GivesPhase u n number bound code 0 0
  refuses r code e c = gives_refusal phase_numbers answer e r (0 ∷ 0 ∷ []) refl code c

  pub code_fits : (r : Refusal) → a ≡ Err r → (r.number < 256) × (r.place ≤ 1000000000)
  code_fits r e = let k : SmallPhase (Err r) = rw (sym answer ∙ e) at (refusals_small u n number bound) in (k.1, k.2)
