-- One record: its bytes are read back as it was written, and are written back as it was read.
use Prim.Native.Nat.{ℕ, zero, suc, ◌+◌, ◌*◌, ◌≤◌, ◌<◌}
use native.Mathlib.Omega.{arith}
use Rattle.std.specs.Prelude.{◌≡◌, drop}
use Rattle.std.proofs.Math.Path.{refl, ap}
use Rattle.std.proofs.Common.{sym, ◌∙◌, length-append, take-append-drop}
use mathlib.Core.List.{List, [], ◌∷◌, ◌++◌, append_assoc}
use Rattle.std.proofs.Math.ListN.{length, take}
use Rattle.std.proofs.Math.Seq.{take_all}
use Rattle.little_endian.specs.LittleEndian.{bytes_of, number_at, Bytes, power}
use Rattle.little_endian.proofs.Spelling.{length_bytes}
use Rattle.little_endian.proofs.Fields.{number_front, number_past, bytes_of_number, take_join}
use Rattle.schedule.specs.declared.NumberedTask.{NumberedTask}
use Rattle.file_reader.specs.Reading.{length_field, kind_field, task_field, numbers_from, chain_field, gap_field}
use Rattle.file_writer.specs.FileBytes.{task_bytes, numbers_bytes, chain_bytes, gap_bytes, end_bytes}

-- Values that fit their fields.
pub record FitsTask (t : NumberedTask) : Type 0 where
  pub number : t.number < power 2
  pub period : t.task.period < power 4
  pub duration : t.task.duration < power 4
  pub phase : t.task.phase < power 4

two : (x : ℕ) → x < 65536 → x < power 2
unfolding power
two x h = omega arith

-- ---- what was written is read

-- the length and the kind in front of any rest
module _ (long kind : ℕ) (body : List ℕ) (a : long < 65536) (b : kind < 65536) where
  pub head_length : length_field (bytes_of 2 long ++ (bytes_of 2 kind ++ body)) ≡ long
  head_length = number_front 2 long (bytes_of 2 kind ++ body) (two long a)

  pub head_kind : kind_field (bytes_of 2 long ++ (bytes_of 2 kind ++ body)) ≡ kind
  head_kind = number_past (bytes_of 2 long) (bytes_of 2 kind ++ body) 2 0 2 (length_bytes 2 long) ∙ number_front 2 kind body (two kind b)

-- past both
past_head : (long kind : ℕ) (body : List ℕ) (at w : ℕ) → number_at (bytes_of 2 long ++ (bytes_of 2 kind ++ body)) (2 + (2 + at)) w ≡ number_at body at w
past_head long kind body at w =
    number_past (bytes_of 2 long) (bytes_of 2 kind ++ body) 2 (2 + at) w (length_bytes 2 long)
    ∙ number_past (bytes_of 2 kind) body 2 at w (length_bytes 2 kind)

module _ (t : NumberedTask) (rest : List ℕ) where
  task_body : List ℕ
  task_body = bytes_of 2 t.number ++ (bytes_of 4 t.task.period ++ (bytes_of 4 t.task.duration ++ (bytes_of 4 t.task.phase ++ rest)))

  pub task_front : task_bytes t ++ rest ≡ bytes_of 2 18 ++ (bytes_of 2 1 ++ (bytes_of 2 t.number ++ (bytes_of 4 t.task.period ++ (bytes_of 4 t.task.duration ++ (bytes_of 4 t.task.phase ++ rest)))))
  unfolding task_bytes
  task_front = simp append_assoc

  in_body : (at w : ℕ) → number_at (task_bytes t ++ rest) (2 + (2 + at)) w ≡ number_at task_body at w
  unfolding task_body
  in_body at w = ap (λ (l : List ℕ). number_at l (2 + (2 + at)) w) task_front ∙ past_head 18 1 task_body at w

  pub task_read : FitsTask t → task_field (task_bytes t ++ rest) ≡ t
  unfolding task_body
  task_read f =
      let d4 : List ℕ = bytes_of 4 t.task.phase ++ rest in
      let d3 : List ℕ = bytes_of 4 t.task.duration ++ d4 in
      let d2 : List ℕ = bytes_of 4 t.task.period ++ d3 in
      let n : number_at (task_bytes t ++ rest) 4 2 ≡ t.number = in_body 0 2 ∙ number_front 2 t.number d2 f.number in
      let p : number_at (task_bytes t ++ rest) 6 4 ≡ t.task.period
      = in_body 2 4 ∙ number_past (bytes_of 2 t.number) d2 2 0 4 (length_bytes 2 t.number) ∙ number_front 4 t.task.period d3 f.period in
      let d : number_at (task_bytes t ++ rest) 10 4 ≡ t.task.duration
      = in_body 6 4 ∙ number_past (bytes_of 2 t.number) d2 2 4 4 (length_bytes 2 t.number)
      ∙ number_past (bytes_of 4 t.task.period) d3 4 0 4 (length_bytes 4 t.task.period) ∙ number_front 4 t.task.duration d4 f.duration in
      let h : number_at (task_bytes t ++ rest) 14 4 ≡ t.task.phase
      = in_body 10 4 ∙ number_past (bytes_of 2 t.number) d2 2 8 4 (length_bytes 2 t.number)
      ∙ number_past (bytes_of 4 t.task.period) d3 4 4 4 (length_bytes 4 t.task.period)
      ∙ number_past (bytes_of 4 t.task.duration) d4 4 0 4 (length_bytes 4 t.task.duration) ∙ number_front 4 t.task.phase rest f.phase in
      rw (n, p, d, h)

-- Every number fits two bytes.
pub data Small : List ℕ → Type 0 where
  none : Small []
  more : {n : ℕ} {l : List ℕ} → n < 65536 → Small l → Small (n ∷ l)

numbers_read : (ch a rest : List ℕ) (at : ℕ) → length a ≡ at → Small ch → numbers_from (a ++ (numbers_bytes ch ++ rest)) at (length ch) ≡ ch
unfolding numbers_from numbers_bytes
numbers_read [] a rest at e none = refl
numbers_read (n ∷ ch) a rest at e (more h s) =
    let z : at + 0 ≡ at = omega arith in
    let w : a ++ ((bytes_of 2 n ++ numbers_bytes ch) ++ rest) ≡ (a ++ bytes_of 2 n) ++ (numbers_bytes ch ++ rest) = simp append_assoc in
    let v : number_at (a ++ ((bytes_of 2 n ++ numbers_bytes ch) ++ rest)) at 2 ≡ n
    = ap (λ (k : ℕ). number_at (a ++ ((bytes_of 2 n ++ numbers_bytes ch) ++ rest)) k 2) (sym z) ∙ number_past a ((bytes_of 2 n ++ numbers_bytes ch) ++ rest) at 0 2 e
    ∙ ap (λ (l : List ℕ). number_at l 0 2) (append_assoc (bytes_of 2 n) (numbers_bytes ch) rest) ∙ number_front 2 n (numbers_bytes ch ++ rest) (two n h) in
    let r : numbers_from ((a ++ bytes_of 2 n) ++ (numbers_bytes ch ++ rest)) (2 + at) (length ch) ≡ ch
    = numbers_read ch (a ++ bytes_of 2 n) rest (2 + at) (length-append a (bytes_of 2 n) ∙ ap (λ (k : ℕ). length a + k) (length_bytes 2 n) ∙ (omega arith)) s in
    ap (λ (k : ℕ). k ∷ numbers_from (a ++ ((bytes_of 2 n ++ numbers_bytes ch) ++ rest)) (2 + at) (length ch)) v
    ∙ ap (λ (l : List ℕ). n ∷ numbers_from l (2 + at) (length ch)) w ∙ ap (λ (l : List ℕ). n ∷ l) r

module _ (ch rest : List ℕ) where
  pub chain_front : chain_bytes ch ++ rest ≡ bytes_of 2 (4 + 2 * length ch) ++ (bytes_of 2 2 ++ (numbers_bytes ch ++ rest))
  unfolding chain_bytes
  chain_front = simp append_assoc

  pub chain_read : Small ch → chain_field (chain_bytes ch ++ rest) (length ch) ≡ ch
  chain_read s =
      ap (λ (l : List ℕ). numbers_from l 4 (length ch)) (chain_front ∙ sym (append_assoc (bytes_of 2 (4 + 2 * length ch)) (bytes_of 2 2) (numbers_bytes ch ++ rest)))
      ∙ numbers_read ch (bytes_of 2 (4 + 2 * length ch) ++ bytes_of 2 2) rest 4 (simp (length-append, length_bytes)) s

-- a gap that has a record
module _ (g : ℕ) (rest : List ℕ) where
  pub gap_front : gap_bytes (suc g) ++ rest ≡ bytes_of 2 6 ++ (bytes_of 2 4 ++ (bytes_of 2 (suc g) ++ rest))
  unfolding gap_bytes
  gap_front = simp append_assoc

  pub gap_read : suc g < 65536 → gap_field (gap_bytes (suc g) ++ rest) ≡ suc g
  gap_read h =
      ap (λ (l : List ℕ). number_at l 4 2) gap_front ∙ past_head 6 4 (bytes_of 2 (suc g) ++ rest) 0 2 ∙ number_front 2 (suc g) rest (two (suc g) h)

-- ---- what was read is written

module _ (l : List ℕ) (is : Bytes l) where
  field : (at w : ℕ) → at + w ≤ length l → bytes_of w (number_at l at w) ≡ take w (drop at l)
  field at w h = bytes_of_number l at w is h

  -- the length and the kind that were read
  module _ (long kind : ℕ) (a : length_field l ≡ long) (b : kind_field l ≡ kind) (four : 4 ≤ length l) where
    pub head_back : bytes_of 2 long ++ bytes_of 2 kind ≡ take 4 l
    head_back =
        ap (λ (n : ℕ). bytes_of 2 n ++ bytes_of 2 kind) (sym a) ∙ ap (λ (n : ℕ). bytes_of 2 (length_field l) ++ bytes_of 2 n) (sym b)
        ∙ ap (λ (r : List ℕ). r ++ bytes_of 2 (kind_field l)) (field 0 2 (omega arith)) ∙ ap (λ (r : List ℕ). take 2 l ++ r) (field 2 2 (omega arith))
        ∙ take_join l 0 2 2 2 refl

    -- with a body of n bytes behind them
    pub body_back : (body : List ℕ) (n : ℕ) → 4 + n ≤ length l → body ≡ take n (drop 4 l) → (bytes_of 2 long ++ (bytes_of 2 kind ++ body)) ++ drop (4 + n) l ≡ l
    body_back body n h e =
        ap (λ (r : List ℕ). r ++ drop (4 + n) l) (sym (append_assoc (bytes_of 2 long) (bytes_of 2 kind) body) ∙ ap (λ (r : List ℕ). r ++ body) head_back ∙ ap (λ (r : List ℕ). take 4 l ++ r) e ∙ take_join l 0 4 4 n refl)
        ∙ take-append-drop (4 + n) l

  pub task_back : length_field l ≡ 18 → kind_field l ≡ 1 → 18 ≤ length l → task_bytes (task_field l) ++ drop 18 l ≡ l
  unfolding task_bytes
  task_back a b h =
      body_back 18 1 a b (omega arith) _ 14 h
      (ap (λ (r : List ℕ). r ++ (bytes_of 4 (number_at l 6 4) ++ (bytes_of 4 (number_at l 10 4) ++ bytes_of 4 (number_at l 14 4)))) (field 4 2 (omega arith))
      ∙ ap (λ (r : List ℕ). take 2 (drop 4 l) ++ (r ++ (bytes_of 4 (number_at l 10 4) ++ bytes_of 4 (number_at l 14 4)))) (field 6 4 (omega arith))
      ∙ ap (λ (r : List ℕ). take 2 (drop 4 l) ++ (take 4 (drop 6 l) ++ (r ++ bytes_of 4 (number_at l 14 4)))) (field 10 4 (omega arith))
      ∙ ap (λ (r : List ℕ). take 2 (drop 4 l) ++ (take 4 (drop 6 l) ++ (take 4 (drop 10 l) ++ r))) (field 14 4 (omega arith))
      ∙ ap (λ (r : List ℕ). take 2 (drop 4 l) ++ (take 4 (drop 6 l) ++ r)) (take_join l 10 4 14 4 refl)
      ∙ ap (λ (r : List ℕ). take 2 (drop 4 l) ++ r) (take_join l 6 4 10 8 refl)
      ∙ take_join l 4 2 6 12 refl)

  numbers_back : (n at : ℕ) → at + 2 * n ≤ length l → numbers_bytes (numbers_from l at n) ≡ take (2 * n) (drop at l)
  unfolding numbers_from numbers_bytes
  numbers_back zero at h = refl
  numbers_back (suc n) at h =
      let e : 2 * suc n ≡ 2 + 2 * n = omega arith in
      let f : at + 2 ≡ 2 + at = omega arith in
      ap (λ (r : List ℕ). r ++ numbers_bytes (numbers_from l (2 + at) n)) (field at 2 (omega arith))
      ∙ ap (λ (r : List ℕ). take 2 (drop at l) ++ r) (numbers_back n (2 + at) (omega arith))
      ∙ take_join l at 2 (2 + at) (2 * n) f ∙ ap (λ (k : ℕ). take k (drop at l)) (sym e)

  pub chain_back : (p : ℕ) → length_field l ≡ 4 + 2 * p → kind_field l ≡ 2 → 4 + 2 * p ≤ length l → length (chain_field l p) ≡ p → chain_bytes (chain_field l p) ++ drop (4 + 2 * p) l ≡ l
  unfolding chain_bytes
  chain_back p a b h e =
      let s : length_field l ≡ 4 + 2 * length (chain_field l p) = a ∙ ap (λ (n : ℕ). 4 + 2 * n) (sym e) in
      body_back (4 + 2 * length (chain_field l p)) 2 s b (omega arith) (numbers_bytes (chain_field l p)) (2 * p) h (numbers_back p 4 h)

  pub gap_back : (g : ℕ) → length_field l ≡ 6 → kind_field l ≡ 4 → 6 ≤ length l → 1 ≤ g → g ≡ gap_field l → gap_bytes g ++ drop 6 l ≡ l
  unfolding gap_bytes
  gap_back zero a b h some e = absurd (omega arith)
  gap_back (suc g) a b h some e = body_back 6 4 a b (omega arith) (bytes_of 2 (suc g)) 2 h (ap (bytes_of 2) e ∙ field 4 2 h)

  pub end_back : length_field l ≡ 4 → kind_field l ≡ 3 → 4 ≤ length l → length l ≤ 4 → end_bytes ≡ l
  unfolding end_bytes
  end_back a b h g = head_back 4 3 a b h ∙ take_all 4 l g
