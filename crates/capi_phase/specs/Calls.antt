-- Order 9 of document 02: how the smallest phase is given to C, as plain numbers.
use Rattle.std.specs.Prelude.{ℕ, ◌≡◌, List, [], ◌∷◌, Err, None, Ok, Option, Result, Some}
use Rattle.refusal.specs.declared.Refusal.{Refusal}
use Rattle.refusal.specs.Refusals.{code_of}
use Rattle.schedule.specs.declared.Schedule.{Schedule}
use Rattle.phase.specs.Phases.{phase_from}

-- The code, 0 for a success; the phase; and 1 where there is none, beside which the phase is 0. A refusal has zeros.
abbrev pub phase_numbers : Result (Option ℕ) Refusal → List ℕ
phase_numbers (Ok (Some F)) = 0 ∷ F ∷ 0 ∷ []
phase_numbers (Ok None) = 0 ∷ 0 ∷ 1 ∷ []
phase_numbers (Err r) = code_of r ∷ 0 ∷ 0 ∷ []

-- The code and the two numbers lent.
abbrev pub GivesPhase : Schedule → ℕ → ℕ → ℕ → ℕ → ℕ → ℕ → Type 0
GivesPhase s n number bound code phase none = (code ∷ phase ∷ none ∷ []) ≡ phase_numbers (phase_from s n number bound)
