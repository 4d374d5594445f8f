-- An accepted schedule's file fits the lent bytes, part by part; what is left in them.
use Rattle.std.specs.Prelude.{Err, Ok, Result}
use Prim.Native.Nat.{ℕ, ◌+◌, ◌*◌, ◌≤◌, ◌<◌}
use native.Mathlib.Omega.{arith}
use mathlib.Core.Path.{◌≡◌, sym, ap, ◌∙◌}
use mathlib.Core.Bool.{Bool, true, cond}
use mathlib.Core.List.{List, ◌++◌}
use lib.ListN.{length, drop}
use lib.Seq.{length-take-le}
use borrow.Author.Tests.{le-leb, lt-leb, ne_eqb}
use Rattle.refusal.specs.declared.Refusal.{Refusal}
use Rattle.refusal.specs.Refusals.{refusal}
use Rattle.schedule.specs.declared.Schedule.{Schedule}
use Rattle.schedule.specs.Schedules.{tasks_in, routes_in, chains_in}
use Rattle.schedule_checks.specs.Checks.{places_right, fault_of, passed}
use Rattle.schedule_checks.proofs.Passed.{refused_passed}
use Rattle.schedule_checks.proofs.SoundSchedule.{SoundSchedule}
use Rattle.file_writer.specs.FileBytes.{chains_bytes, gap_bytes, file_bytes}
use Rattle.file_writer.proofs.Lengths.{length_file}
use Rattle.file_writer.specs.Writing.{length_verdict, written_of, left_bytes}
use Rattle.file_writer.specs.Accepted.{Accepted, sound_written}

-- the length that the code works out
pub file_long : (s : Schedule) → length s.tasks ≡ 32 → s.count ≤ 32 → 18 * s.count + length (chains_bytes (chains_in s)) + length (gap_bytes s.gap) + 4 ≡ length (file_bytes s)
file_long s a few = omega (arith, length_file (tasks_in s) (chains_in s) s.gap, length-take-le s.count s.tasks (omega arith))

pub record Room (s : Schedule) (lent : ℕ) : Type 0 where
  pub few : s.count ≤ 32
  pub few_chains : s.chains ≤ 4
  pub placed : places_right (routes_in s) ≡ true
  pub fits : 18 * s.count + length (chains_bytes (chains_in s)) + length (gap_bytes s.gap) + 4 ≤ lent
  pub whole : length (file_bytes s) ≤ lent
  pub counted : 18 * s.count ≡ 18 * length (tasks_in s)

pub room_of : (s : Schedule) (lent n : ℕ) → length s.tasks ≡ 32 → Accepted s lent n → Room s lent
room_of s lent n a w =
    let k : SoundSchedule s = w.is_sound in
    record {
      few = k.few;
      few_chains = k.few_chains;
      placed = k.placed;
      fits = omega (arith, w.long, w.fits, file_long s a k.few);
      whole = omega (arith, w.long, w.fits);
      counted = ap (λ (k : ℕ). 18 * k) (sym (length-take-le s.count s.tasks (omega (arith, k.few))));
    }

-- ---- what each check leads to

module _ (s : Schedule) (lent : ℕ) where
  pub fault_refused : (r : Refusal) → Err r ≡ passed (fault_of s) → Err r ≡ written_of s lent
  unfolding written_of
  fault_refused r h =
      let p = refused_passed (fault_of s) r h in
      ap (λ (x : Refusal). Err x) p.0 ∙ rw (ne_eqb (fault_of s).number 0 p.1)

  module _ (fine : (fault_of s).number ≡ 0) (long : ℕ) (whole : long ≡ length (file_bytes s)) where
    judged : length_verdict long lent ≡ written_of s lent
    judged = ap (λ (n : ℕ). length_verdict n lent) whole ∙ sym (sound_written s lent fine)

    pub too_short : lent < long → Err (refusal 11 0) ≡ written_of s lent
    unfolding length_verdict
    too_short h = ap (λ (b : Bool). cond b (Ok long) (Err (refusal 11 0))) (sym (lt-leb long lent h)) ∙ judged

    pub long_enough : long ≤ lent → Ok long ≡ written_of s lent
    unfolding length_verdict
    long_enough h = ap (λ (b : Bool). cond b (Ok long) (Err (refusal 11 0))) (sym (le-leb long lent h)) ∙ judged

-- ---- what is left

pub kept : (w : Result ℕ Refusal) (r : Refusal) (file old : List ℕ) → w ≡ Err r → old ≡ left_bytes w file old
kept w r file old e = rw e

pub stored : (w : Result ℕ Refusal) (n : ℕ) (file old new : List ℕ) → w ≡ Ok n → new ≡ file ++ drop (length file) old → new ≡ left_bytes w file old
stored w n file old new e h = rw e h
