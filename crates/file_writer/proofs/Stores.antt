-- What stores one after the other leave.
use Prim.Native.Nat.{ℕ, zero, suc, ◌+◌, ◌*◌, ◌≤◌, ◌<◌}
use native.Mathlib.Omega.{arith}
use mathlib.Core.Path.{◌≡◌, refl, sym, ap, ◌∙◌}
use mathlib.Core.List.{List, [], ◌++◌, map, append_assoc}
use lib.ListN.{length, drop, get_or, length-append}
use lib.Seq.{sets, length-sets}
use Rattle.little_endian.specs.LittleEndian.{bytes_of}
use Rattle.little_endian.proofs.Spelling.{length_bytes}
use Rattle.little_endian.specs.Stores.{sets_append, sets_front}
use Rattle.std.proofs.lemmas.List.{drop_more, drop_all}
use Rattle.schedule.specs.declared.NumberedTask.{NumberedTask}
use Rattle.schedule.specs.declared.Route.{Route}
use Rattle.schedule.specs.Schedules.{zero_numbered, no_route, places_of}
use Rattle.file_writer.specs.FileBytes.{task_bytes, tasks_bytes, numbers_bytes, chain_bytes, chains_bytes, gap_bytes, end_bytes, file_of}
use Rattle.file_writer.proofs.Lengths.{length_task, length_tasks}

-- two runs, the second w bytes on
pub two_runs : (l m n : List ℕ) (at next : ℕ) (a b : List ℕ) → at + length a ≡ next → m ≡ sets l at a → n ≡ sets m next b → n ≡ sets l at (a ++ b)
two_runs l m n at next a b e f g = g ∙ ap (λ (k : ℕ). sets m k b) (sym e) ∙ ap (λ (x : List ℕ). sets x (at + length a) b) f ∙ sym (sets_append l at a b)

-- one more field in front of a run
pub field_run : (l m n : List ℕ) (at next w x : ℕ) (b : List ℕ) → at + w ≡ next → m ≡ sets l at (bytes_of w x) → n ≡ sets m next b → n ≡ sets l at (bytes_of w x ++ b)
field_run l m n at next w x b e f g = two_runs l m n at next (bytes_of w x) b (ap (λ (k : ℕ). at + k) (length_bytes w x) ∙ e) f g

-- a run leaves the length
pub run_long : (l m : List ℕ) (at n : ℕ) (vs : List ℕ) → m ≡ sets l at vs → length l ≡ n → length m ≡ n
run_long l m at n vs e h = ap length e ∙ length-sets l at vs ∙ h

-- ---- turns of the loops

pub tasks_turn : (out m : List ℕ) (ts : List NumberedTask) (i : ℕ) → i < length ts → m ≡ sets out (18 * i) (task_bytes (get_or ts i zero_numbered))
    → sets out (18 * i) (tasks_bytes (drop i ts)) ≡ sets m (18 * (i + 1)) (tasks_bytes (drop (i + 1) ts))
unfolding tasks_bytes
tasks_turn out m ts i h e =
    let s : 18 * i + length (task_bytes (get_or ts i zero_numbered)) ≡ 18 * (i + 1) = omega (arith, length_task (get_or ts i zero_numbered)) in
    rw (drop_more ts i zero_numbered h)
    (sym (two_runs out m _ (18 * i) (18 * (i + 1)) (task_bytes (get_or ts i zero_numbered)) (tasks_bytes (drop (i + 1) ts)) s e refl))

pub tasks_end : (out : List ℕ) (ts : List NumberedTask) (at i : ℕ) → length ts ≤ i → sets out at (tasks_bytes (drop i ts)) ≡ out
unfolding tasks_bytes
tasks_end out ts at i h = rw (drop_all i ts h)

pub places_start : (out : List ℕ) (at : ℕ) (b : List ℕ) → sets out at b ≡ sets out (at + 2 * 0) b
places_start out at b = let e : at + 2 * 0 ≡ at = omega arith in rw e

pub places_turn : (out m ch : List ℕ) (at i : ℕ) → i < length ch → m ≡ sets out (at + 2 * i) (bytes_of 2 (get_or ch i 0))
    → sets out (at + 2 * i) (numbers_bytes (drop i ch)) ≡ sets m (at + 2 * (i + 1)) (numbers_bytes (drop (i + 1) ch))
unfolding numbers_bytes
places_turn out m ch at i h e =
    let s : at + 2 * i + 2 ≡ at + 2 * (i + 1) = omega arith in
    rw (drop_more ch i 0 h)
    (sym (field_run out m _ (at + 2 * i) (at + 2 * (i + 1)) 2 (get_or ch i 0) (numbers_bytes (drop (i + 1) ch)) s e refl))

pub places_end : (out ch : List ℕ) (at i : ℕ) → length ch ≤ i → sets out at (numbers_bytes (drop i ch)) ≡ out
unfolding numbers_bytes
places_end out ch at i h = rw (drop_all i ch h)

-- a record's length and kind are 4 bytes
head_long : (at long kind : ℕ) → at + length (bytes_of 2 long ++ bytes_of 2 kind) ≡ at + 4
head_long at long kind = simp (length-append, length_bytes)

-- ---- chains

-- a chain record is its head and its numbers
module _ (a b c ch : List ℕ) (at places : ℕ) (counted : places ≡ length ch) where
  pub chain_stored : b ≡ sets a at (bytes_of 2 (4 + 2 * places) ++ bytes_of 2 2) → c ≡ sets b (at + 4) (numbers_bytes ch) → c ≡ sets a at (chain_bytes ch)
  unfolding chain_bytes
  chain_stored hb hc =
      two_runs a b c at (at + 4) (bytes_of 2 (4 + 2 * places) ++ bytes_of 2 2) (numbers_bytes ch) (head_long at (4 + 2 * places) 2) hb hc
      ∙ ap (sets a at) (append_assoc (bytes_of 2 (4 + 2 * places)) (bytes_of 2 2) (numbers_bytes ch))
      ∙ ap (λ (n : ℕ). sets a at (bytes_of 2 (4 + 2 * n) ++ (bytes_of 2 2 ++ numbers_bytes ch))) counted

-- the chains from i on
abbrev pub left : List Route → ℕ → List ℕ
left rs i = chains_bytes (map places_of (drop i rs))

module _ (rs : List Route) (i : ℕ) (h : i < length rs) where
  left_cons : left rs i ≡ chain_bytes (places_of (get_or rs i no_route)) ++ left rs (i + 1)
  unfolding chains_bytes
  left_cons = rw (drop_more rs i no_route h)

  pub left_long : length (left rs i) ≡ length (chain_bytes (places_of (get_or rs i no_route))) + length (left rs (i + 1))
  left_long = ap length left_cons ∙ length-append (chain_bytes (places_of (get_or rs i no_route))) (left rs (i + 1))

  pub routes_turn : (out m : List ℕ) (at next : ℕ) → at + length (chain_bytes (places_of (get_or rs i no_route))) ≡ next → m ≡ sets out at (chain_bytes (places_of (get_or rs i no_route)))
      → sets out at (left rs i) ≡ sets m next (left rs (i + 1))
  routes_turn out m at next s e =
      ap (sets out at) left_cons ∙ sym (two_runs out m _ at next (chain_bytes (places_of (get_or rs i no_route))) (left rs (i + 1)) s e refl)

module _ (rs : List Route) (i : ℕ) (h : length rs ≤ i) where
  pub left_none : left rs i ≡ []
  unfolding chains_bytes
  left_none = rw (drop_all i rs h)

-- ---- the gap

-- a gap record is its head and the gap
pub gap_stored : (a b c : List ℕ) (at g : ℕ) → (g ≡ 0 → ⊥) → b ≡ sets a at (bytes_of 2 6 ++ bytes_of 2 4) → c ≡ sets b (at + 4) (bytes_of 2 g) → c ≡ sets a at (gap_bytes g)
unfolding gap_bytes
gap_stored a b c at zero h hb hc = absurd (h refl)
gap_stored a b c at (suc g) h hb hc =
    two_runs a b c at (at + 4) (bytes_of 2 6 ++ bytes_of 2 4) (bytes_of 2 (suc g)) (head_long at 6 4) hb hc
    ∙ ap (sets a at) (append_assoc (bytes_of 2 6) (bytes_of 2 4) (bytes_of 2 (suc g)))

-- ---- the whole file

module _ (l a b c d : List ℕ) (ts : List NumberedTask) (chs : List (List ℕ)) (g from at end : ℕ) (fits : length (file_of ts chs g) ≤ length l) (start : from ≡ 18 * length ts) (next : at ≡ from + length (chains_bytes chs)) (last : end ≡ at + length (gap_bytes g)) where
  pub file_stored : a ≡ sets l 0 (tasks_bytes ts) → b ≡ sets a from (chains_bytes chs) → c ≡ sets b at (gap_bytes g) → d ≡ sets c end (bytes_of 2 4 ++ bytes_of 2 3) → d ≡ file_of ts chs g ++ drop (length (file_of ts chs g)) l
  unfolding file_of end_bytes
  file_stored ha hb hc hd =
      let f : 0 + length (tasks_bytes ts) ≡ from = omega (arith, length_tasks ts) in
      let h : d ≡ sets b at (gap_bytes g ++ end_bytes) = two_runs b c d at end (gap_bytes g) end_bytes (sym last) hc hd in
      let k : d ≡ sets a from (chains_bytes chs ++ (gap_bytes g ++ end_bytes)) = two_runs a b d from at (chains_bytes chs) (gap_bytes g ++ end_bytes) (sym next) hb h in
      two_runs l a d 0 from (tasks_bytes ts) (chains_bytes chs ++ (gap_bytes g ++ end_bytes)) f ha k ∙ sets_front l (file_of ts chs g) fits
