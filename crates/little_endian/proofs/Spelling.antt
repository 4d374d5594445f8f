-- One spelling, at every width: a number is read back from its bytes (`value_of_bytes`), and bytes are those of the number that they spell (`bytes_of_value`).
use Rattle.std.specs.Prelude.{ℕ, zero, suc, ◌+◌, ◌*◌, ◌/◌, ◌%◌, ◌≤◌, ◌<◌, ◌≡◌, refl, List, [], ◌∷◌, length}
use Rattle.std.proofs.Common.{arith, ap}
use Rattle.little_endian.specs.LittleEndian.{value_of, bytes_of, Bytes, power}

pub length_bytes : (w x : ℕ) → length (bytes_of w x) ≡ w
unfolding bytes_of
length_bytes zero x = refl
length_bytes (suc w) x = ap suc (length_bytes w _)

pub bytes_are : (w x : ℕ) → Bytes (bytes_of w x)
unfolding bytes_of
bytes_are zero x i = omega arith
bytes_are (suc w) x zero = omega arith
bytes_are (suc w) x (suc i) = bytes_are w _ i

-- A number that fits is read back from its bytes,
pub value_of_bytes : (w x : ℕ) → x < power w → value_of (bytes_of w x) ≡ x
unfolding value_of bytes_of power
value_of_bytes zero x h = omega arith
value_of_bytes (suc w) x h = rw (value_of_bytes w (x / 256) (omega arith)) (omega arith)

-- and bytes are those of the number that they spell.
pub bytes_of_value : (l : List ℕ) → Bytes l → bytes_of (length l) (value_of l) ≡ l
unfolding value_of bytes_of
bytes_of_value [] h = refl
bytes_of_value (b ∷ l) h =
    let a : b < 256 = h 0 in
    let m : (b + value_of l * 256) % 256 ≡ b = omega arith in
    let d : (b + value_of l * 256) / 256 ≡ value_of l = omega arith in
    rw (m, d, bytes_of_value l (λ i. h (suc i)))

pub value_below : (l : List ℕ) → Bytes l → value_of l < power (length l)
unfolding value_of power
value_below [] h = omega arith
value_below (b ∷ l) h = omega (arith, h 0, value_below l (λ i. h (suc i)))

-- At most four bytes are read.
pub power_four : (w : ℕ) → w ≤ 3 → power w ≤ 16777216
unfolding power
power_four zero h = omega arith
power_four (suc zero) h = omega arith
power_four (suc (suc zero)) h = omega arith
power_four (suc (suc (suc zero))) h = omega arith
power_four (suc (suc (suc (suc w)))) h = absurd (omega arith)
