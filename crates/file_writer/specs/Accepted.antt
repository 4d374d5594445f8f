-- What is known of a schedule that writing does not refuse.
use Rattle.std.specs.Prelude.{ℕ, ◌≤◌, Bool, length, Err, Ok}
use Rattle.std.proofs.Common.{arith}
use Rattle.std.proofs.Math.Path.{◌≡◌, refl}
use Rattle.std.proofs.Math.Bool.{true, false, cond}
use Rattle.std.proofs.Math.Dec.{leb, eqb}
use borrow.Author.Tests.{leb-true, eqb-true, eq-eqb}
use Rattle.refusal.specs.Refusals.{refusal}
use Rattle.schedule.specs.declared.Schedule.{Schedule}
use Rattle.schedule_checks.specs.Checks.{fault_of}
use Rattle.schedule_checks.proofs.SoundSchedule.{SoundSchedule, sound}
use Rattle.file_writer.specs.FileBytes.{file_bytes}
use Rattle.file_writer.specs.Writing.{length_verdict, written_of}

pub record Accepted (s : Schedule) (lent n : ℕ) : Type 0 where
  pub is_sound : SoundSchedule s
  pub long : n ≡ length (file_bytes s)
  pub fits : n ≤ lent

-- Of a schedule that the judge finds sound the length decides.
pub sound_written : (s : Schedule) (lent : ℕ) → (fault_of s).number ≡ 0 → written_of s lent ≡ length_verdict (length (file_bytes s)) lent
unfolding written_of
sound_written s lent e = rw (eq-eqb (fault_of s).number 0 e)

module _ (s : Schedule) (lent n : ℕ) where
  fits_file : (long : ℕ) → length_verdict long lent ≡ Ok n → (n ≡ long) × (n ≤ lent)
  unfolding length_verdict
  fits_file long = go (leb long lent) refl
    where
      go : (b : Bool) → leb long lent ≡ b → cond b (Ok long) (Err (refusal 11 0)) ≡ Ok n → (n ≡ long) × (n ≤ lent)
      go true e h = let q : n ≡ long = cc in (q, omega (arith, leb-true long lent e))
      go false e h = absurd (let z : ◌≡◌ {A = ℕ} 0 1 = cc in omega arith)

  pub accepted : written_of s lent ≡ Ok n → Accepted s lent n
  unfolding written_of
  accepted = go (eqb (fault_of s).number 0) refl
    where
      go : (b : Bool) → eqb (fault_of s).number 0 ≡ b → cond b (length_verdict (length (file_bytes s)) lent) (Err (fault_of s)) ≡ Ok n → Accepted s lent n
      go false e h = absurd (let z : ◌≡◌ {A = ℕ} 0 1 = cc in omega arith)
      go true e h =
          let f = fits_file (length (file_bytes s)) h in
          record { is_sound = sound s (eqb-true (fault_of s).number 0 e); long = f.0; fits = f.1 }
