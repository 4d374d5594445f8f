-- What the program `chainload SEED PLACES` puts out for its words: the schedule file on standard output, or one line on standard error (docs/DECISIONS.md, "Order 8 of 02").
use Rattle.std.specs.Prelude.{ℕ, cond, List, [], ◌∷◌, ◌++◌, eqb, length, Option, Some, None, Ok, Err, Result}
use Prim.Native.String.{String}
use Rattle.refusal.specs.declared.Refusal.{Refusal}
use Rattle.chain.specs.declared.Chain.{Chain}
use Rattle.schedule.specs.Schedules.{padded}
use Rattle.file_writer.specs.FileBytes.{file_bytes}
use Rattle.load.specs.Load.{load_of}
use Rattle.text.specs.Text.{ascii, line_feed}
use Rattle.decimal.specs.Numbers.{number_of}
use Rattle.load_file.specs.declared.Text.{Text}
use Rattle.load_file.specs.LoadFile.{alone_of}

abbrev pub line_of : String → List ℕ
line_of words = ascii words ++ (line_feed ∷ [])

-- A text in 256 bytes: how many they are, and zeros past them.
abbrev pub text_of : List ℕ → Text
text_of bytes = record { long = length bytes; bytes = padded 256 0 bytes }

-- A line, for standard error.
abbrev pub told : List ℕ → Result Text Text
told line = Err (text_of line)

-- A file, for standard output.
abbrev pub given : List ℕ → Result Text Text
given file = Ok (text_of file)

abbrev pub words_line : List ℕ
words_line = line_of "chainload: two words are needed: chainload SEED PLACES"

abbrev pub seed_line : List ℕ
seed_line = line_of "chainload: SEED must be a number from 0 to 18446744073709551615, in at most 20 decimal digits"

abbrev pub places_line : List ℕ
places_line = line_of "chainload: PLACES must be a number from 1 to 12, in at most 20 decimal digits"

-- Places outside 1 to 12 are refused,
unfoldable pub after_load : Result Chain Refusal → Result Text Text
after_load (Ok c) = given (file_bytes (alone_of c))
after_load (Err r) = told places_line

abbrev pub file_answer : ℕ → ℕ → Result Text Text
file_answer seed places = after_load (load_of seed places)

-- and so is a word that is no number;
unfoldable pub after_places : ℕ → Option ℕ → Result Text Text
after_places seed (Some n) = file_answer seed n
after_places seed None = told places_line

abbrev pub places_answer : ℕ → List ℕ → Result Text Text
places_answer seed places = after_places seed (number_of places)

-- before it the word for the seed,
unfoldable pub after_seed : Option ℕ → List ℕ → Result Text Text
after_seed (Some n) places = places_answer n places
after_seed None places = told seed_line

-- and first the number of words: with the program's own name there are three.
unfoldable pub answer_to : ℕ → List ℕ → List ℕ → Result Text Text
answer_to count seed places = cond (eqb count 3) (after_seed (number_of seed) places) (told words_line)
