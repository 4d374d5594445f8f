-- Document 01, "Schedule file": little-endian numbers in bytes. Bytes are numbers below 256.
use Rattle.std.specs.Prelude.{ℕ, zero, suc, ◌+◌, ◌*◌, ◌/◌, ◌%◌, ◌<◌, List, [], ◌∷◌, get_or, take, drop}

-- The number that bytes spell, the lowest first.
unfoldable pub value_of : List ℕ → ℕ
value_of [] = 0
value_of (b ∷ l) = b + value_of l * 256

-- How many numbers w bytes spell.
unfoldable pub power : ℕ → ℕ
power zero = 1
power (suc w) = power w * 256

-- A number in w bytes, the lowest first.
unfoldable pub bytes_of : ℕ → ℕ → List ℕ
bytes_of zero x = []
bytes_of (suc w) x = x % 256 ∷ bytes_of w (x / 256)

-- The number in w bytes from an offset on.
unfoldable pub number_at : List ℕ → ℕ → ℕ → ℕ
number_at l at w = value_of (take w (drop at l))

-- Every element is a byte.
abbrev pub Bytes : List ℕ → Type 0
Bytes l = (i : ℕ) → get_or l i 0 < 256
