-- Document 01, program `chainreport`: lines of text as bytes. A line is a word and numbers, one blank before each number, and ends with one LF.
use Rattle.std.specs.Prelude.{ℕ, zero, suc, ◌+◌, ◌/◌, ◌%◌, ◌≡◌, cond, List, [], ◌∷◌, ◌++◌, ltb, length}
use Prim.Native.Char.{code}
use Prim.Native.String as string
use Prim.Native.String.{String}
use Rattle.std.proofs.lemmas.List.Edits.{sets}

-- The bytes of a text of ASCII characters.
abbrev pub ascii : String → List ℕ
ascii string.[] = []
ascii (string.◌∷◌ c s) = code c ∷ ascii s

abbrev pub blank : ℕ
blank = 32

abbrev pub line_feed : ℕ
line_feed = 10

-- The byte of a digit.
abbrev pub digit : ℕ → ℕ
digit d = 48 + d

-- The last digits of a number, at most k of them, without leading zeros.
unfoldable pub last_digits : ℕ → ℕ → List ℕ
last_digits zero n = []
last_digits (suc k) n = cond (ltb n 10) (digit n ∷ []) (last_digits k (n / 10) ++ (digit (n % 10) ∷ []))

-- A number in plain decimal. It has fewer digits than n + 2.
unfoldable pub decimal : ℕ → List ℕ
decimal n = last_digits (suc n) n

-- Numbers, a blank before each, and the end of the line.
unfoldable pub fields : List ℕ → List ℕ
fields [] = line_feed ∷ []
fields (n ∷ l) = (blank ∷ decimal n) ++ fields l

unfoldable pub line : List ℕ → List ℕ → List ℕ
line word numbers = word ++ fields numbers

-- A text is stored from `at` on: `to` is the place after it. Bytes past the end of the lent list are left out.
pub record Puts (text : List ℕ) (at : ℕ) (old new : List ℕ) (to : ℕ) : Type 0 where
  pub ends : to ≡ at + length text
  pub leaves : new ≡ sets old at text
