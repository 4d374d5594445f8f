-- What each call has done when it returns.
use Rattle.std.specs.Prelude.{Err, Ok, Result}
use Prim.Native.Nat.{ℕ, ◌≤◌}
use native.Mathlib.Omega.{arith}
use mathlib.Core.Path.{◌≡◌, refl, sym, ap, ◌∙◌}
use mathlib.Core.List.{List, ◌++◌}
use lib.ListN.{length, take, drop, length-append}
use lib.Seq.{take_at, length-take-le}
use Rattle.refusal.specs.declared.Refusal.{Refusal}
use Rattle.little_endian.specs.LittleEndian.{Bytes}
use Rattle.schedule.specs.declared.Schedule.{Schedule}
use Rattle.schedule.specs.Arrays.{Arrays}
use Rattle.file_reader.specs.Reading.{read_file}
use Rattle.file_writer.specs.FileBytes.{file_bytes}
use Rattle.file_writer.specs.Writing.{left_bytes, written_of, Writes}
use Rattle.file_writer.specs.Accepted.{accepted}
use Rattle.round_trip.specs.RoundTrips.{rewritten_of, reread_after, Rewrites, Rereads}
use Rattle.round_trip.proofs.RoundTrips.{read_after_write, spelt_again, written_again}

-- ---- reading, then writing

pub rewrite_refused : (file old : List ℕ) (r : Refusal) → Err r ≡ read_file file → Rewrites file old (Err r) old
unfolding rewritten_of
rewrite_refused file old r e = record {
  answers = ap (λ (x : Result Schedule Refusal). rewritten_of x (length file) (length old)) e;
  leaves = refl;
}

pub rewrite_written : (file old new : List ℕ) (s : Schedule) (w : Result ℕ Refusal) → Bytes file → Ok s ≡ read_file file → Writes s old w new → Rewrites file old w new
unfolding rewritten_of
rewrite_written file old new s w is e d = record {
  answers = d.answers ∙ written_again file is s (sym e) (length old) ∙ ap (λ (x : Result Schedule Refusal). rewritten_of x (length file) (length old)) e;
  leaves = d.leaves ∙ ap (λ (x : Result ℕ Refusal). left_bytes x (file_bytes s) old) (sym d.answers) ∙ ap (λ (f : List ℕ). left_bytes w f old) (spelt_again file is s (sym e));
}

-- ---- writing, then reading

module _ (s : Schedule) (old new : List ℕ) where
  pub reread_refused : (r : Refusal) → Writes s old (Err r) new → Rereads s old (Err r) new
  unfolding reread_after
  reread_refused r d = record { answers = ap (reread_after s) d.answers; leaves = d.leaves }

  module _ (n : ℕ) (d : Writes s old (Ok n) new) where
    answer : written_of s (length old) ≡ Ok n
    answer = sym d.answers

    long : length (file_bytes s) ≡ n
    long = sym (accepted s (length old) n answer).long

    stored : new ≡ file_bytes s ++ drop (length (file_bytes s)) old
    stored = d.leaves ∙ ap (λ (x : Result ℕ Refusal). left_bytes x (file_bytes s) old) answer

    pub file_inside : n ≤ length new
    file_inside = omega (arith, ap length stored, length-append (file_bytes s) (drop (length (file_bytes s)) old), long)

    pub file_part : n ≡ length (take n new)
    file_part = sym (length-take-le n new file_inside)

    pub reread_read : (read : Result Schedule Refusal) → Arrays s → read ≡ read_file (take n new) → Rereads s old read new
    unfolding reread_after
    reread_read read a f = record {
      answers = f ∙ ap read_file (ap (take n) stored ∙ take_at (file_bytes s) (drop (length (file_bytes s)) old) n long)
          ∙ read_after_write s (length old) n a answer ∙ ap (reread_after s) (sym answer);
      leaves = d.leaves;
    }
