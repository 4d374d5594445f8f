-- A word of 1 to 20 decimal digits whose number is below 2^64. Leading zeros are allowed; a sign, a blank or any other byte is not. No number of 64 bits has more than 20 digits.
use Rattle.std.specs.Prelude.{ℕ, ◌^◌, Bool, true, false, cond, ◌&&◌, List, [], ◌∷◌, leb, ltb, length, Option, Some, None}
use Rattle.text.specs.Decimal.{spells}

-- The bytes of 0 to 9.
abbrev pub is_digit : ℕ → Bool
is_digit b = leb 48 b && leb b 57

unfoldable pub all_digits : List ℕ → Bool
all_digits [] = true
all_digits (b ∷ l) = cond (is_digit b) (all_digits l) false

unfoldable pub number_of : List ℕ → Option ℕ
number_of word = cond (leb 1 (length word) && leb (length word) 20) (cond (all_digits word) (cond (ltb (spells 0 word) (2 ^ 64)) (Some (spells 0 word)) None) None) None
