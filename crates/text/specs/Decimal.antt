-- Plain decimal is right: read back it is the number (`decimal_reads`), of digits only (`decimal_digits`), with no leading zero (`decimal_lead`, `decimal_zero`).
use Rattle.std.specs.Prelude.{ℕ, zero, suc, ◌+◌, ◌-◌, ◌*◌, ◌/◌, ◌%◌, ◌≤◌, ◌<◌, ◌≡◌, refl, List, [], ◌∷◌, ◌++◌, length, get_or}
use Rattle.std.proofs.Common.{arith, sym, ap, ◌∙◌, length-append, lt-ltb, le-ltb}
use Rattle.std.proofs.Math.Decide.{dec_lt}
use Rattle.text.specs.Text.{digit, last_digits, decimal}

-- ---- one digit, and one digit more

last_one : (k n : ℕ) → n < 10 → last_digits (suc k) n ≡ digit n ∷ []
unfolding last_digits
last_one k n h = rw (lt-ltb n 10 h)

last_more : (k n : ℕ) → 10 ≤ n → last_digits (suc k) n ≡ last_digits k (n / 10) ++ (digit (n % 10) ∷ [])
unfolding last_digits
last_more k n h = rw (le-ltb n 10 h)

-- any k above n gives all digits
enough : (k m n : ℕ) → n < k → n < m → last_digits k n ≡ last_digits m n
enough zero m n h g = absurd (omega arith)
enough (suc k) zero n h g = absurd (omega arith)
enough (suc k) (suc m) n h g = elim (dec_lt n 10) [
  | yes s ↦ last_one k n s ∙ sym (last_one m n s)
  | no s ↦
      last_more k n (omega arith)
      ∙ ap (λ (l : List ℕ). l ++ (digit (n % 10) ∷ [])) (enough k m (n / 10) (omega arith) (omega arith))
      ∙ sym (last_more m n (omega arith))
]

pub decimal_one : (n : ℕ) → n < 10 → decimal n ≡ digit n ∷ []
unfolding decimal
decimal_one n h = last_one n n h

pub decimal_more : (n : ℕ) → 10 ≤ n → decimal n ≡ decimal (n / 10) ++ (digit (n % 10) ∷ [])
unfolding decimal
decimal_more n h =
    last_more n n h ∙ ap (λ (l : List ℕ). l ++ (digit (n % 10) ∷ [])) (enough n (suc (n / 10)) (n / 10) (omega arith) (omega arith))

-- what holds of one digit and of one digit more holds of every number below m
below : (P : ℕ → Type 0) → ((n : ℕ) → n < 10 → P n) → ((n : ℕ) → 10 ≤ n → P (n / 10) → P n) → (m n : ℕ) → n < m → P n
below P one more zero n h = absurd (omega arith)
below P one more (suc m) n h = elim (dec_lt n 10) [
  | yes s ↦ one n s
  | no s ↦ more n (omega arith) (below P one more m (n / 10) (omega arith))
]

by_digits : (P : ℕ → Type 0) → ((n : ℕ) → n < 10 → P n) → ((n : ℕ) → 10 ≤ n → P (n / 10) → P n) → (n : ℕ) → P n
by_digits P one more n = below P one more (suc n) n (omega arith)

-- ---- read back

-- The number that digits spell, v being the number of the digits before them.
unfoldable pub spells : ℕ → List ℕ → ℕ
spells v [] = v
spells v (b ∷ l) = spells (v * 10 + (b - 48)) l

spells_append : (v : ℕ) (l : List ℕ) (b : ℕ) → spells v (l ++ (b ∷ [])) ≡ spells v l * 10 + (b - 48)
unfolding spells
spells_append v [] b = refl
spells_append v (x ∷ l) b = spells_append (v * 10 + (x - 48)) l b

pub decimal_reads : (n : ℕ) → spells 0 (decimal n) ≡ n
unfolding spells
decimal_reads = by_digits (λ n. spells 0 (decimal n) ≡ n) (λ n h. rw (decimal_one n h) (omega arith))
    (λ n h e. rw (decimal_more n h, spells_append, e) (omega arith))

-- ---- the digits

at_end : (P : ℕ → Type 0) (l : List ℕ) (b i : ℕ) → i < length (l ++ (b ∷ [])) → ((j : ℕ) → j < length l → P (get_or l j 0)) → P b → P (get_or (l ++ (b ∷ [])) i 0)
at_end P [] b zero h f p = p
at_end P [] b (suc i) h f p = absurd (omega arith)
at_end P (x ∷ l) b zero h f p = f 0 (omega arith)
at_end P (x ∷ l) b (suc i) h f p = at_end P l b i (omega arith) (λ j k. f (suc j) (omega arith)) p

-- A byte of a digit.
abbrev pub IsDigit : ℕ → Type 0
IsDigit b = (48 ≤ b) × (b ≤ 57)

pub decimal_digits : (n i : ℕ) → i < length (decimal n) → IsDigit (get_or (decimal n) i 0)
decimal_digits = by_digits (λ n. (i : ℕ) → i < length (decimal n) → IsDigit (get_or (decimal n) i 0)) one more
  where
    one : (n : ℕ) → n < 10 → (i : ℕ) → i < length (decimal n) → IsDigit (get_or (decimal n) i 0)
    one n h = rw (decimal_one n h) (λ i k. at_end IsDigit [] (digit n) i k (λ j g. absurd (omega arith)) (omega arith, omega arith))

    more : (n : ℕ) → 10 ≤ n → ((i : ℕ) → i < length (decimal (n / 10)) → IsDigit (get_or (decimal (n / 10)) i 0)) → (i : ℕ) → i < length (decimal n) → IsDigit (get_or (decimal n) i 0)
    more n h f = rw (decimal_more n h) (λ i k. at_end IsDigit (decimal (n / 10)) (digit (n % 10)) i k f (omega arith, omega arith))

pub decimal_zero : decimal 0 ≡ 48 ∷ []
decimal_zero = decimal_one 0 (omega arith)

first_stays : (l : List ℕ) (b : ℕ) → 49 ≤ get_or l 0 0 → 49 ≤ get_or (l ++ (b ∷ [])) 0 0
first_stays [] b h = absurd (omega arith)
first_stays (x ∷ l) b h = h

-- The first digit of a number that is not 0 is 1 to 9.
pub decimal_lead : (n : ℕ) → 1 ≤ n → 49 ≤ get_or (decimal n) 0 0
decimal_lead = by_digits (λ n. 1 ≤ n → 49 ≤ get_or (decimal n) 0 0) (λ n h k. rw (decimal_one n h) (omega arith))
    (λ n h f k. rw (decimal_more n h) (first_stays (decimal (n / 10)) (digit (n % 10)) (f (omega arith))))

-- ---- how long

-- Ten to the power k.
unfoldable pub tens : ℕ → ℕ
tens zero = 1
tens (suc k) = tens k * 10

-- A number below ten to the power k has at most k digits, and one at least.
pub decimal_long : (k n : ℕ) → n < tens k → 1 ≤ k → length (decimal n) ≤ k
unfolding tens
decimal_long zero n h g = absurd (omega arith)
decimal_long (suc zero) n h g = rw (decimal_one n (omega arith)) (omega arith)
decimal_long (suc (suc k)) n h g = elim (dec_lt n 10) [
  | yes s ↦ rw (decimal_one n s) (omega arith)
  | no s ↦
      rw (decimal_more n (omega arith))
      (omega (arith, length-append (decimal (n / 10)) (digit (n % 10) ∷ []), decimal_long (suc k) (n / 10) (omega arith) (omega arith)))
]

-- A 64-bit number has at most 20 digits.
pub decimal_20 : (n : ℕ) → n < 18446744073709551616 → length (decimal n) ≤ 20
unfolding tens
decimal_20 n h = decimal_long 20 n (omega arith) (omega arith)
