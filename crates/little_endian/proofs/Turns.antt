-- What one turn of each loop does.
use Prim.Native.Nat.{ℕ, zero, suc, ◌+◌, ◌-◌, ◌*◌, ◌/◌, ◌%◌, ◌≤◌, ◌<◌}
use native.Mathlib.Omega.{arith}
use mathlib.Core.Path.{◌≡◌, sym, ap, ◌∙◌}
use mathlib.Core.List.{List, [], append-nil, append_assoc}
use lib.ListN.{length, get_or, set, take, drop, length-drop, drop_of_length-le}
use lib.Seq.{sets, drop-cons, drop-drop, length-take-le}
use borrow.Rule.Slice.PartMut.{put_mid}
use Rattle.std.proofs.lemmas.List.Edits.{sets-eq}
use Rattle.little_endian.specs.Stores.{sets_front}
use Rattle.little_endian.proofs.Spelling.{length_bytes}
use Rattle.little_endian.specs.LittleEndian.{value_of, bytes_of, number_at, power}
use Rattle.little_endian.proofs.Spelling.{power_four}

-- No bytes spell 0.
pub number_none : (l : List ℕ) (at w : ℕ) → 0 ≡ number_at l at (w - w)
unfolding number_at value_of
number_none l at w = let e : w - w ≡ 0 = omega arith in rw e

pub power_none : (w : ℕ) → 0 < power (w - w)
unfolding power
power_none w = let e : w - w ≡ 0 = omega arith in rw e (omega arith)

-- One byte more in front.
number_more : (l : List ℕ) (at w : ℕ) → at < length l → get_or l at 0 + number_at l (suc at) w * 256 ≡ number_at l at (suc w)
unfolding number_at value_of
number_more l at w h = rw (drop-cons l at 0 h)

-- The turn of reading: byte i - 1 is taken in.
module _ (l : List ℕ) (at w i x b : ℕ) (some : 0 < i) (low : i ≤ w) (inside : at + w ≤ length l) (is : x ≡ number_at l (at + i) (w - i)) (byte : b ≡ get_or l (at + (i - 1)) 0) where
  pub number_turn : x * 256 + b ≡ number_at l (at + (i - 1)) (w - (i - 1))
  number_turn =
      let s : w - (i - 1) ≡ suc (w - i) = omega arith in
      let t : at + i ≡ suc (at + (i - 1)) = omega arith in
      let n : x ≡ number_at l (suc (at + (i - 1))) (w - i) = is ∙ ap (λ (k : ℕ). number_at l k (w - i)) t in
      rw (s, ← (number_more l (at + (i - 1)) (w - i) (omega arith)), ← n, ← byte) (omega arith)

pub power_turn : (w i x b : ℕ) → 0 < i → i ≤ w → b < 256 → x < power (w - i) → x * 256 + b < power (w - (i - 1))
unfolding power
power_turn w i x b some low h k = let s : w - (i - 1) ≡ suc (w - i) = omega arith in rw s (omega arith)

below_five : (w x : ℕ) → w ≤ 4 → x < power w → x < 4294967296
unfolding power
below_five zero x h k = omega arith
below_five (suc w) x h k = omega (arith, power_four w (omega arith), k)

-- The end of reading.
pub number_whole : (l : List ℕ) (at w i x : ℕ) → w ≤ 4 → i ≤ 0 → x ≡ number_at l (at + i) (w - i) → x < power (w - i) → (x ≡ number_at l at w) × (x < 4294967296)
number_whole l at w i x four h is k =
    let a : at + i ≡ at = omega arith in
    let b : w - i ≡ w = omega arith in
    (is ∙ ap (λ (n : ℕ). number_at l n (w - i)) a ∙ ap (number_at l at) b, below_five w x four (rw b at k))

-- The turn of writing: byte i of the part is stored.
pub put_turn : (part : List ℕ) (w i r : ℕ) → i < w → sets part i (bytes_of (w - i) r) ≡ sets (set part i (r % 256)) (i + 1) (bytes_of (w - (i + 1)) (r / 256))
unfolding bytes_of
put_turn part w i r h =
    let s : w - i ≡ suc (w - (i + 1)) = omega arith in
    let t : i + 1 ≡ suc i = omega arith in
    rw (s, t)

put_none : (part : List ℕ) (w i r : ℕ) → w ≤ i → sets part i (bytes_of (w - i) r) ≡ part
unfolding bytes_of
put_none part w i r h = let s : w - i ≡ 0 = omega arith in rw s

-- The part has as many bytes as are written,
pub part_long : (out : List ℕ) (at w : ℕ) → at + w ≤ length out → length (take (at + w - at) (drop at out)) ≡ w
part_long out at w h = omega (arith, length-take-le (at + w - at) (drop at out) (omega (arith, length-drop at out)))

-- and at the end of writing it is back in its list.
pub put_whole : (out part : List ℕ) (at w i x r : ℕ) → at + w ≤ length out → w ≤ i → sets (take (at + w - at) (drop at out)) 0 (bytes_of w x) ≡ sets part i (bytes_of (w - i) r)
    → put_mid at (at + w - at) out part ≡ sets out at (bytes_of w x)
put_whole out part at w i x r h full is =
    let k : at + w - at ≡ w = omega arith in
    let long : length (take (at + w - at) (drop at out)) ≡ w = part_long out at w h in
    let n : length (bytes_of w x) ≡ w = length_bytes w x in
    let front = sets_front (take (at + w - at) (drop at out)) (bytes_of w x) (omega arith) in
    let none : drop (length (bytes_of w x)) (take (at + w - at) (drop at out)) ≡ [] = drop_of_length-le (take (at + w - at) (drop at out)) (omega arith) in
    let stored : part ≡ bytes_of w x = sym (is ∙ put_none part w i r full) ∙ front ∙ rw (none, append-nil) in
    let rest : drop (at + w - at) (drop at out) ≡ drop (at + length (bytes_of w x)) out = rw (k, n) (drop-drop w at out) in
    rw (stored, rest, ← append_assoc) (sym (sets-eq (bytes_of w x) out at (omega arith)))
