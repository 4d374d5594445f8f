-- The digits of a number, and lines from their parts.
use Prim.Native.Nat.{ℕ, ◌+◌, ◌/◌, ◌%◌, ◌≤◌, ◌<◌}
use native.Mathlib.Omega.{arith}
use mathlib.Core.List.{List, [], ◌∷◌}
use Rattle.text.specs.Text.{blank, line_feed, digit, decimal, fields, line, Puts}
use Rattle.text.specs.Decimal.{decimal_one, decimal_more, decimal_20}
use Rattle.text.specs.Putting.{puts_two}

-- ---- the digits of a number

pub number_one : (n at to : ℕ) (l m : List ℕ) → n < 10 → Puts (digit n ∷ []) at l m to → Puts (decimal n) at l m to
number_one n at to l m h p = rw (decimal_one n h) p

pub number_more : (n at last to : ℕ) (l m o : List ℕ) → 10 ≤ n → Puts (decimal (n / 10)) at l m last → Puts (digit (n % 10) ∷ []) last m o to → Puts (decimal n) at l o to
number_more n at last to l m o h p q = rw (decimal_more n h) (puts_two (decimal (n / 10)) (digit (n % 10) ∷ []) at last to l m o p q)

pub number_short : (n at to : ℕ) (l m : List ℕ) → n < 18446744073709551616 → Puts (decimal n) at l m to → to ≤ at + 20
number_short n at to l m h p = omega (arith, p.ends, decimal_20 n h)

-- ---- lines

pub one_field : (word : List ℕ) (n at a b to : ℕ) (k l m o : List ℕ) → Puts word at k l a → Puts (blank ∷ decimal n) a l m b → Puts (line_feed ∷ []) b m o to
    → Puts (line word (n ∷ [])) at k o to
unfolding line fields
one_field word n at a b to k l m o p q r = puts_two word _ at a to k l o p (puts_two (blank ∷ decimal n) _ a b to l m o q r)

pub two_fields : (word : List ℕ) (n i at a b d to : ℕ) (k l m o u : List ℕ) → Puts word at k l a → Puts (blank ∷ decimal n) a l m b → Puts (blank ∷ decimal i) b m o d
    → Puts (line_feed ∷ []) d o u to → Puts (line word (n ∷ i ∷ [])) at k u to
unfolding line fields
two_fields word n i at a b d to k l m o u p q r s =
    puts_two word _ at a to k l u p (puts_two (blank ∷ decimal n) _ a b to l m u q (puts_two (blank ∷ decimal i) _ b d to m o u r s))
