-- Order 1 of document 02: how the bookings of two chains are given to C, as plain numbers.
use Rattle.std.specs.Prelude.{ℕ, ◌≡◌, List, [], ◌∷◌, Err, Result, Ok}
use Rattle.refusal.specs.declared.Refusal.{Refusal}
use Rattle.bookings.specs.declared.Bookings.{Bookings}
use Rattle.refusal.specs.Refusals.{code_of}
use Rattle.schedule.specs.declared.Schedule.{Schedule}
use Rattle.from_schedule.specs.Answers.{bookings_from}

-- The code, 0 for a success; the later and the earlier booking, their difference, and the greatest. A refusal has zeros.
abbrev pub booking_numbers : Result Bookings Refusal → List ℕ
booking_numbers (Ok b) = 0 ∷ b.later.0 ∷ b.earlier.0 ∷ b.difference ∷ b.greatest ∷ []
booking_numbers (Err r) = code_of r ∷ 0 ∷ 0 ∷ 0 ∷ 0 ∷ []

-- The code and the four numbers lent.
abbrev pub GivesBookings : Schedule → ℕ → ℕ → ℕ → ℕ → List ℕ → Type 0
GivesBookings s first second t code figures = (code ∷ figures) ≡ booking_numbers (bookings_from s first second t)
