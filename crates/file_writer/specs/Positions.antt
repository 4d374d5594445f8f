-- The number and the place of a refusal of writing are small.
use Rattle.std.specs.Prelude.{ℕ, Bool, true, false, cond, leb, eqb, length, Err, Ok, Result}
use Rattle.std.proofs.Common.{arith}
use Rattle.refusal.specs.declared.Refusal.{Refusal}
use Rattle.refusal.specs.Refusals.{refusal}
use Rattle.schedule.specs.declared.Schedule.{Schedule}
use Rattle.schedule_checks.specs.Checks.{fault_of}
use Rattle.schedule_checks.proofs.Positions.{SmallFault, fault_small}
use Rattle.file_writer.specs.FileBytes.{file_bytes}
use Rattle.file_writer.specs.Writing.{length_verdict, written_of}

abbrev pub SmallWritten : Result ℕ Refusal → Type 0
SmallWritten (Ok n) = Unit {0}
SmallWritten (Err r) = SmallFault r

pub written_small : (s : Schedule) (lent : ℕ) → SmallWritten (written_of s lent)
unfolding written_of length_verdict
written_small s lent = go (eqb (fault_of s).number 0) (leb (length (file_bytes s)) lent)
  where
    go : (a b : Bool) → SmallWritten (cond a (cond b (Ok (length (file_bytes s))) (Err (refusal 11 0))) (Err (fault_of s)))
    go true true = tt
    go true false = record { number = omega arith; place = omega arith }
    go false b = fault_small s
