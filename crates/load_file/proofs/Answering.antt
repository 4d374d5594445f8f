-- What the returns of the answer show.
use Prim.Native.Nat.{ℕ, zero, suc, ◌≤◌}
use native.Mathlib.Omega.{arith}
use mathlib.Core.Path.{◌≡◌, sym, ap, ◌∙◌}
use mathlib.Core.List.{List, [], ◌∷◌, ◌++◌}
use lib.ListN.{length, drop, replicate, length-replicate}
use borrow.Author.Tests.{eq-eqb, ne_eqb, le-leb}
use Rattle.refusal.specs.declared.Refusal.{Refusal}
use Rattle.chain.specs.declared.Chain.{Chain}
use Rattle.schedule.specs.declared.Schedule.{Schedule}
use Rattle.schedule.specs.Schedules.{padded}
use Rattle.schedule.specs.Padding.{padded_none}
use Rattle.schedule_checks.proofs.SoundSchedule.{no_refusal}
use Rattle.file_writer.specs.FileBytes.{file_bytes}
use Rattle.file_writer.specs.Writing.{length_verdict, written_of, left_bytes, Writes}
use Rattle.file_writer.specs.Accepted.{sound_written}
use Rattle.load.specs.Load.{loaded, load_of}
use Rattle.load.proofs.Passes as passes
use Rattle.std.specs.Prelude.{Option, Some, None, Err, Ok, Result}
use Rattle.decimal.specs.Numbers.{number_of}
use Rattle.load_file.specs.declared.Text.{Text}
use Rattle.load_file.specs.LoadFile.{alone_of, file_of_load}
use Rattle.load_file.specs.Answers.{told, places_line, seed_line, words_line, after_load, file_answer, after_places, places_answer, after_seed, answer_to}
use Rattle.load_file.specs.ReadBack.{sound_load, file_length}

-- ---- the file

-- a list at the front of an array of d, as the file and a line stand in front of zeros
pub front_padded : {A : Type 0} (d : A) (n : ℕ) (l : List A) → length l ≤ n → l ++ drop (length l) (replicate n d) ≡ padded n d l
unfolding padded
front_padded d n [] h = sym (padded_none d n)
front_padded d zero (x ∷ l) h = absurd (omega arith)
front_padded d (suc n) (x ∷ l) h = ap (λ (m : List _). x ∷ m) (front_padded d n l (omega arith))

-- a load that is refused
pub refused_places : (seed places : ℕ) (r : Refusal) → Err r ≡ load_of seed places → told places_line ≡ file_answer seed places
unfolding after_load
refused_places seed places r e = ap after_load e

-- a load that was made
module _ (seed places : ℕ) (c : Chain) (is : Ok c ≡ load_of seed places) where
  inside : (1 ≤ places) × (places ≤ 12) × (c ≡ loaded seed places)
  inside = passes.not_refused seed places c is

  pub few_places : c.places ≤ 12
  few_places = rw inside.2 inside.1

  module _ (s : Schedule) (alone : s ≡ alone_of c) where
    of_load : s ≡ alone_of (loaded seed places)
    of_load = alone ∙ ap alone_of inside.2

    fits : length (file_of_load seed places) ≤ 256
    fits = omega (arith, file_length seed places inside.0 inside.1, inside.1)

    -- 256 bytes hold it, so it is written,
    written : written_of s 256 ≡ Ok (length (file_of_load seed places))
    unfolding length_verdict
    written =
        ap (λ (x : Schedule). written_of x 256) of_load
        ∙ sound_written (alone_of (loaded seed places)) 256 (ap (λ (r : Refusal). r.number) (no_refusal (alone_of (loaded seed places)) (sound_load seed places inside.0 inside.1)))
        ∙ rw (le-leb (length (file_of_load seed places)) 256 fits)

    module _ (w : Result ℕ Refusal) (new : List ℕ) (writes : Writes s (replicate 256 0) w new) where
      answered : w ≡ Ok (length (file_of_load seed places))
      answered = writes.answers ∙ ap (written_of s) (length-replicate {A = ℕ} 256 0) ∙ written

      pub not_refused : (r : Refusal) → w ≡ Err r → ⊥
      not_refused r e =
          let k : Ok (length (file_of_load seed places)) ≡ Err r = sym answered ∙ e in
          let z : ◌≡◌ {A = ℕ} 0 1 = cc in
          omega arith

      -- and stands in front of zeros.
      left : new ≡ padded 256 0 (file_of_load seed places)
      left =
          writes.leaves ∙ ap (λ (x : Result ℕ Refusal). left_bytes x (file_bytes s) (replicate 256 0)) (ap (written_of s) (length-replicate {A = ℕ} 256 0) ∙ written)
          ∙ ap (λ (x : Schedule). file_bytes x ++ drop (length (file_bytes x)) (replicate 256 0)) of_load
          ∙ front_padded 0 256 (file_of_load seed places) fits

      pub file_given : (long : ℕ) → w ≡ Ok long → ◌≡◌ {A = Result Text Text} (Ok (record { long = long; bytes = new })) (file_answer seed places)
      unfolding after_load
      file_given long e =
          let k : Ok long ≡ Ok (length (file_of_load seed places)) = sym e ∙ answered in
          let n : long ≡ length (file_of_load seed places) = cc in
          rw (passes.made seed places inside.0 inside.1)
          (ap (λ (k : ℕ). Ok (record { long = k; bytes = new })) n ∙ ap (λ (l : List ℕ). Ok (record { long = length (file_of_load seed places); bytes = l })) left)

-- ---- the words

module _ (seed : ℕ) (places : List ℕ) (x : Option ℕ) (is : x ≡ number_of places) where
  pub wrong_places : x ≡ None → told places_line ≡ places_answer seed places
  unfolding after_places
  wrong_places e = ap (after_places seed) (sym e ∙ is)

  pub right_places : (n : ℕ) → x ≡ Some n → file_answer seed n ≡ places_answer seed places
  unfolding after_places
  right_places n e = ap (after_places seed) (sym e ∙ is)

module _ (count : ℕ) (seed places : List ℕ) where
  pub wrong_count : (count ≡ 3 → ⊥) → told words_line ≡ answer_to count seed places
  unfolding answer_to
  wrong_count h = rw (ne_eqb count 3 h)

  module _ (three : count ≡ 3) (x : Option ℕ) (is : x ≡ number_of seed) where
    pub wrong_seed : x ≡ None → told seed_line ≡ answer_to count seed places
    unfolding answer_to after_seed
    wrong_seed e = rw (eq-eqb count 3 three) (ap (λ (y : Option ℕ). after_seed y places) (sym e ∙ is))

    pub right_seed : (n : ℕ) → x ≡ Some n → places_answer n places ≡ answer_to count seed places
    unfolding answer_to after_seed
    right_seed n e = rw (eq-eqb count 3 three) (ap (λ (y : Option ℕ). after_seed y places) (sym e ∙ is))
