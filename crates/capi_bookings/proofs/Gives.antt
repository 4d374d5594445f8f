-- What the bookings of two chains answer, as C gets it.
use Rattle.std.specs.Prelude.{Err, Result}
use Prim.Native.Nat.{ℕ, ◌≤◌, ◌<◌}
use mathlib.Core.Path.{◌≡◌, refl, sym, ap, ◌∙◌}
use mathlib.Core.List.{[], ◌∷◌}
use Rattle.bookings.specs.Bookings.{both_booked}
use Rattle.bookings.specs.declared.Bookings.{Bookings}
use Rattle.refusal.specs.declared.Refusal.{Refusal}
use Rattle.refusal.specs.Refusals.{code_of}
use Rattle.refusal.proofs.Arms.{gives, gives_refusal}
use Rattle.task.specs.declared.Tick.{Tick}
use Rattle.schedule.specs.declared.Schedule.{Schedule}
use Rattle.from_schedule.specs.Answers.{bookings_from}
use Rattle.capi_bookings.specs.Calls.{booking_numbers, GivesBookings}
use Rattle.capi_bookings.proofs.Small.{from_small}

-- s is the schedule that was made, u the one that the lists mean
module _ (s u : Schedule) (first second t : ℕ) (b : Result Bookings Refusal) (same : s ≡ u) (is : b ≡ bookings_from s first second t) where
  answer : b ≡ bookings_from u first second t
  answer = is ∙ ap (λ (x : Schedule). bookings_from x first second t) same

  pub gives_both : (later earlier : Tick) (difference greatest : ℕ) → b ≡ both_booked later earlier difference greatest
      → GivesBookings u first second t 0 (later.0 ∷ earlier.0 ∷ difference ∷ greatest ∷ [])
  gives_both later earlier difference greatest e = gives booking_numbers answer e

  pub refuses : (r : Refusal) (code : ℕ) → b ≡ Err r → code ≡ code_of r → GivesBookings u first second t code (0 ∷ 0 ∷ 0 ∷ 0 ∷ [])
  refuses r code e c = gives_refusal booking_numbers answer e r (0 ∷ 0 ∷ 0 ∷ 0 ∷ []) refl code c

  pub code_fits : (r : Refusal) → b ≡ Err r → (r.number < 256) × (r.place ≤ 1000000000)
  code_fits r e = rw (sym answer ∙ e) at (from_small u first second t)
