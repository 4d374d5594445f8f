-- Fields of a list of bytes, at every width: a field that was put in front is read back, a field further on is read past what stands before it,
-- and the bytes of a field are those of the number that it spells.
use Rattle.std.specs.Prelude.{ℕ, ◌+◌, ◌≤◌, ◌<◌, ◌≡◌, List, ◌++◌, length, take, drop}
use Rattle.std.proofs.Common.{arith, sym, ap, ◌∙◌, length-drop, take_at, drop-drop, take-add, get_or-drop, get_or-take, length-take-le}
use Rattle.std.proofs.Math.Decide.{dec_lt}
use Rattle.std.proofs.Math.ListN.{get_or-eq_default}
use Rattle.std.proofs.Math.Seq.{drop-append-add}
use Rattle.little_endian.specs.LittleEndian.{value_of, bytes_of, number_at, Bytes, power}
use Rattle.little_endian.proofs.Spelling.{length_bytes, value_of_bytes, bytes_of_value}

pub number_front : (w x : ℕ) (rest : List ℕ) → x < power w → number_at (bytes_of w x ++ rest) 0 w ≡ x
unfolding number_at
number_front w x rest h = ap value_of (take_at (bytes_of w x) rest w (length_bytes w x)) ∙ value_of_bytes w x h

pub number_past : (a rest : List ℕ) (n at w : ℕ) → length a ≡ n → number_at (a ++ rest) (n + at) w ≡ number_at rest at w
unfolding number_at
number_past a rest n at w e =
    ap (λ (k : ℕ). value_of (take w (drop (k + at) (a ++ rest)))) (sym e) ∙ ap (λ (l : List ℕ). value_of (take w l)) (drop-append-add a rest at)

pub bytes_drop : (l : List ℕ) (n : ℕ) → Bytes l → Bytes (drop n l)
bytes_drop l n h i = rw (get_or-drop n l i 0) (h (n + i))

pub bytes_take : (l : List ℕ) (n : ℕ) → n ≤ length l → Bytes l → Bytes (take n l)
bytes_take l n g h i = elim (dec_lt i n) [
  | yes k ↦ rw (get_or-take n l i 0 k) (h i)
  | no k ↦ rw (get_or-eq_default (take n l) 0 {n = i} (omega (arith, length-take-le n l g))) (omega arith)
]

pub bytes_of_number : (l : List ℕ) (at w : ℕ) → Bytes l → at + w ≤ length l → bytes_of w (number_at l at w) ≡ take w (drop at l)
unfolding number_at
bytes_of_number l at w h g =
    let long : w ≤ length (drop at l) = omega (arith, length-drop at l) in
    ap (λ (k : ℕ). bytes_of k (value_of (take w (drop at l)))) (sym (length-take-le w (drop at l) long))
    ∙ bytes_of_value (take w (drop at l)) (bytes_take (drop at l) w long (bytes_drop l at h))

-- two parts that follow one another are one
pub take_join : (l : List ℕ) (at a next b : ℕ) → at + a ≡ next → take a (drop at l) ++ take b (drop next l) ≡ take (a + b) (drop at l)
take_join l at a next b e =
    ap (λ (k : ℕ). take a (drop at l) ++ take b (drop k l)) (sym e)
    ∙ ap (λ (r : List ℕ). take a (drop at l) ++ take b r) (sym (drop-drop a at l)) ∙ sym (take-add a b (drop at l))
