-- What the answers of chainload have: every answer fits its 256 bytes (`answer_fits`); every seed of 64 bits and each number of places has words, in plain decimal, for which the file is put out
-- (`every_seed`, `puts_file`); and whoever has the same two numbers, with leading zeros or without, has the same answer (`same_bytes`).
use Rattle.std.specs.Prelude.{ℕ, ◌^◌, ◌≤◌, ◌<◌, ◌≡◌, refl, Bool, true, false, cond, List, eqb, length, take, Option, Some, None, Ok, Err, Result}
use Rattle.std.proofs.Common.{arith, ap, ◌∙◌}
use Rattle.refusal.specs.declared.Refusal.{Refusal}
use Rattle.chain.specs.declared.Chain.{Chain}
use Rattle.schedule.specs.Padding.{take_padded, length_padded}
use Rattle.load.specs.Load.{load_of}
use Rattle.load.proofs.Passes as passes
use Rattle.text.specs.Text.{decimal}
use Rattle.decimal.specs.Numbers.{number_of}
use Rattle.decimal.specs.ReadBack.{decimal_number}
use Rattle.load_file.specs.declared.Text.{Text}
use Rattle.load_file.specs.LoadFile.{file_of_load}
use Rattle.load_file.specs.Answers.{text_of, told, given, words_line, seed_line, places_line, after_load, file_answer, after_places, after_seed, answer_to}
use Rattle.load_file.specs.ReadBack.{file_length}

-- ---- every answer fits

-- The text of an answer, of a file or of a line.
abbrev pub text_in : Result Text Text → Text
text_in (Ok t) = t
text_in (Err t) = t

pub record Fits (t : Text) : Type 0 where
  pub short : t.long ≤ 256
  pub whole : length t.bytes ≡ 256

-- a text of at most 256 bytes
fits : (bytes : List ℕ) → length bytes ≤ 256 → Fits (text_of bytes)
fits bytes h = record { short = h; whole = length_padded 0 256 bytes h }

-- the file of places inside their limits has at most 248 bytes
file_short : (seed places : ℕ) → 1 ≤ places → places ≤ 12 → length (file_of_load seed places) ≤ 248
file_short seed places low high = omega (arith, file_length seed places low high)

file_fits : (seed places : ℕ) → Fits (text_in (file_answer seed places))
unfolding after_load
file_fits seed places = go (load_of seed places) refl
  where
    go : (m : Result Chain Refusal) → m ≡ load_of seed places → Fits (text_in (after_load m))
    go (Ok c) e =
        let k = passes.not_refused seed places c e in
        rw (k.2) (fits (file_of_load seed places) (omega (arith, file_short seed places k.0 k.1)))
    go (Err r) e = fits places_line (omega arith)

places_fit : (seed : ℕ) (x : Option ℕ) → Fits (text_in (after_places seed x))
unfolding after_places
places_fit seed (Some n) = file_fits seed n
places_fit seed None = fits places_line (omega arith)

seed_fits : (x : Option ℕ) (places : List ℕ) → Fits (text_in (after_seed x places))
unfolding after_seed
seed_fits (Some n) places = places_fit n (number_of places)
seed_fits None places = fits seed_line (omega arith)

pub answer_fits : (count : ℕ) (seed places : List ℕ) → Fits (text_in (answer_to count seed places))
unfolding answer_to
answer_fits count seed places = go (eqb count 3)
  where
    go : (b : Bool) → Fits (text_in (cond b (after_seed (number_of seed) places) (told words_line)))
    go true = seed_fits (number_of seed) places
    go false = fits words_line (omega arith)

-- ---- every seed, and the same bytes

-- The first bytes, as many as are counted, are put out.
abbrev pub put_out : Text → List ℕ
put_out t = take t.long t.bytes

module _ (seed places : ℕ) (wide : seed < 2 ^ 64) (low : 1 ≤ places) (high : places ≤ 12) where
  file_made : file_answer seed places ≡ given (file_of_load seed places)
  unfolding after_load
  file_made = rw (passes.made seed places low high)

  pub every_seed : answer_to 3 (decimal seed) (decimal places) ≡ given (file_of_load seed places)
  unfolding answer_to after_seed after_places
  every_seed = rw (decimal_number seed wide, decimal_number places (omega arith)) file_made

  -- What is put out is the file.
  pub puts_file : put_out (text_in (answer_to 3 (decimal seed) (decimal places))) ≡ file_of_load seed places
  puts_file = ap (λ (a : Result Text Text). put_out (text_in a)) every_seed ∙ take_padded 0 256 (file_of_load seed places) (omega (arith, file_length seed places low high))

pub same_bytes : (seed seed' places places' : List ℕ) → number_of seed ≡ number_of seed' → number_of places ≡ number_of places' → answer_to 3 seed places ≡ answer_to 3 seed' places'
unfolding answer_to after_seed
same_bytes seed seed' places places' e f =
    ap (λ (x : Option ℕ). after_seed x places) e ∙ go (number_of seed')
  where
    go : (x : Option ℕ) → after_seed x places ≡ after_seed x places'
    go (Some n) = ap (after_places n) f
    go None = refl
