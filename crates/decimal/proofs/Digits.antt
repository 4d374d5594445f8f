-- One digit of a word: what is left to read, and the bytes that end it.
use Prim.Native.Nat.{ℕ, suc, ◌+◌, ◌-◌, ◌*◌, ◌^◌, ◌≤◌, ◌<◌}
use native.Mathlib.Omega.{arith}
use native.Mathlib.Numerals.{add-one}
use mathlib.Core.Path.{◌≡◌, refl, sym, ap, ◌∙◌}
use mathlib.Core.Bool.{Bool, true, false, cond}
use mathlib.Core.Logic.{inl, inr}
use mathlib.Core.List.{List, [], ◌∷◌}
use lib.Dec.{ltb}
use lib.ListN.{length, get_or, drop, drop_of_length-le}
use lib.Seq.{drop-cons}
use borrow.Author.Tests.{le-leb, lt-leb, lt-ltb, le-ltb}
use Rattle.std.specs.Prelude.{Option, Some, None}
use Rattle.std.specs.Char.{IsNotAsciiDigit}
use Rattle.text.specs.Decimal.{spells}
use Rattle.decimal.specs.Numbers.{all_digits, number_of}

-- The number of digits that come after those of n.
unfoldable pub number_from : ℕ → List ℕ → Option ℕ
number_from n l = cond (all_digits l) (cond (ltb (spells n l) (2 ^ 64)) (Some (spells n l)) None) None

pub no_byte : (l : List ℕ) → length l ≡ 0 → None ≡ number_of l
unfolding number_of
no_byte l h = rw (lt-leb 1 (length l) (omega arith))

pub too_long : (l : List ℕ) → 1 ≤ length l → 20 < length l → None ≡ number_of l
unfolding number_of
too_long l g h = rw (le-leb 1 (length l) g, lt-leb (length l) 20 h)

pub from_first : (l : List ℕ) → 1 ≤ length l → length l ≤ 20 → number_of l ≡ number_from 0 (drop 0 l)
unfolding number_of number_from
from_first l g h = rw (le-leb 1 (length l) g, le-leb (length l) 20 h)

-- ---- what a first byte does

one_more : (n b : ℕ) (l : List ℕ) → 48 ≤ b → b ≤ 57 → number_from n (b ∷ l) ≡ number_from (n * 10 + (b - 48)) l
unfolding number_from all_digits spells
one_more n b l h k = rw (le-leb 48 b h, le-leb b 57 k)

low_byte : (n b : ℕ) (l : List ℕ) → b < 48 → number_from n (b ∷ l) ≡ None
unfolding number_from all_digits
low_byte n b l h = rw (lt-leb 48 b h)

high_byte : (n b : ℕ) (l : List ℕ) → 48 ≤ b → 57 < b → number_from n (b ∷ l) ≡ None
unfolding number_from all_digits
high_byte n b l h k = rw (le-leb 48 b h, lt-leb b 57 k)

-- digits only add
spells_ge : (n : ℕ) (l : List ℕ) → n ≤ spells n l
unfolding spells
spells_ge n [] = omega arith
spells_ge n (b ∷ l) = omega (arith, spells_ge (n * 10 + (b - 48)) l)

too_large : (n : ℕ) (l : List ℕ) → 2 ^ 64 ≤ n → number_from n l ≡ None
unfolding number_from
too_large n l h = rw (le-ltb (spells n l) (2 ^ 64) (omega (arith, spells_ge n l))) (go (all_digits l))
  where
    go : (a : Bool) → ◌≡◌ {A = Option ℕ} (cond a None None) None
    go true = refl
    go false = refl

-- ---- in the loop, at byte i of a word

module _ (w : List ℕ) (i : ℕ) (h : i < length w) (n : ℕ) where
  abbrev b : ℕ
  b = get_or w i 0

  here : number_from n (drop i w) ≡ number_from n (b ∷ drop (suc i) w)
  here = ap (number_from n) (drop-cons w i 0 h)

  pub digit_on : 48 ≤ b → b ≤ 57 → number_from n (drop i w) ≡ number_from (n * 10 + (b - 48)) (drop (i + 1) w)
  digit_on p q = here ∙ one_more n b (drop (suc i) w) p q ∙ ap (λ (k : ℕ). number_from (n * 10 + (b - 48)) (drop k w)) (sym (add-one i))

  pub no_digit : IsNotAsciiDigit b → number_from n (drop i w) ≡ None
  no_digit out = elim out [ inl p ↦ here ∙ low_byte n b (drop (suc i) w) p | inr p ↦ here ∙ high_byte n b (drop (suc i) w) (omega arith) p ]

  pub above_64 : 48 ≤ b → b ≤ 57 → 2 ^ 64 ≤ n * 10 + (b - 48) → number_from n (drop i w) ≡ None
  above_64 p q k = digit_on p q ∙ too_large (n * 10 + (b - 48)) (drop (i + 1) w) k

-- at the word's end
pub at_end : (w : List ℕ) (i n : ℕ) → length w ≤ i → n < 2 ^ 64 → number_from n (drop i w) ≡ Some n
unfolding number_from all_digits spells
at_end w i n h k = ap (number_from n) (drop_of_length-le w h) ∙ rw (lt-ltb n (2 ^ 64) k)
