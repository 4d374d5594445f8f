-- What the report writes in plain decimal is read back as the number (`decimal_number`); so each number of 64 bits has a word.
use Rattle.std.specs.Prelude.{ℕ, suc, ◌/◌, ◌%◌, ◌^◌, ◌≤◌, ◌<◌, ◌≡◌, refl, true, List, [], ◌∷◌, length, get_or, Some}
use Rattle.std.proofs.Common.{arith, length-append, le-leb, lt-ltb}
use Rattle.std.proofs.Math.Decide.{dec_lt}
use Rattle.text.specs.Text.{digit, decimal}
use Rattle.text.specs.Decimal.{IsDigit, decimal_one, decimal_more, decimal_reads, decimal_digits, decimal_20}
use Rattle.decimal.specs.Numbers.{all_digits, number_of}

digits_all : (l : List ℕ) → ((i : ℕ) → i < length l → IsDigit (get_or l i 0)) → all_digits l ≡ true
unfolding all_digits
digits_all [] h = refl
digits_all (b ∷ l) h = rw (le-leb 48 b (h 0 (omega arith)).0, le-leb b 57 (h 0 (omega arith)).1) (digits_all l (λ i k. h (suc i) (omega arith)))

some_digit : (n : ℕ) → 1 ≤ length (decimal n)
some_digit n = elim (dec_lt n 10) [
  | yes h ↦ rw (decimal_one n h) (omega arith)
  | no h ↦ rw (decimal_more n (omega arith)) (omega (arith, length-append (decimal (n / 10)) (digit (n % 10) ∷ [])))
]

pub decimal_number : (n : ℕ) → n < 2 ^ 64 → number_of (decimal n) ≡ Some n
unfolding number_of
decimal_number n h =
    rw (le-leb 1 (length (decimal n)) (some_digit n), le-leb (length (decimal n)) 20 (decimal_20 n h), digits_all (decimal n) (decimal_digits n), decimal_reads n, lt-ltb n (2 ^ 64) h)
