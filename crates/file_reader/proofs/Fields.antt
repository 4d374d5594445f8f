-- The numbers of a chain record, one after the other.
use Prim.Native.Nat.{ℕ, zero, suc, ◌+◌, ◌-◌, ◌*◌, ◌≤◌, ◌<◌}
use native.Mathlib.Omega.{arith}
use Rattle.std.specs.Prelude.{eqb, position, is_some}
use mathlib.Core.Path.{◌≡◌, sym, ap, ◌∙◌}
use mathlib.Core.Bool.{true, false}
use mathlib.Core.List.{List, [], ◌∷◌, ◌++◌}
use lib.ListN.{set, replicate}
use Rattle.little_endian.specs.LittleEndian.{number_at}
use Rattle.schedule.specs.declared.NumberedTask.{NumberedTask}
use Rattle.schedule.specs.Schedules.{padded}
use Rattle.schedule.specs.Padding.{padded_none, padded_set}
use Rattle.schedule.specs.Numbers.{search_known}
use Rattle.file_reader.proofs.Records.{length_numbers}
use Rattle.file_reader.specs.Reading.{numbers_from, chain_field, task_field, all_known}

numbers_more : (l : List ℕ) (at n : ℕ) → numbers_from l at (suc n) ≡ numbers_from l at n ++ (number_at l (at + 2 * n) 2 ∷ [])
unfolding numbers_from
numbers_more l at zero = let e : at + 2 * 0 ≡ at = omega arith in rw e
numbers_more l at (suc n) =
    let e : 2 + at + 2 * n ≡ at + 2 * suc n = omega arith in
    let h = numbers_more l (2 + at) n in
    ap (λ (r : List ℕ). number_at l at 2 ∷ r) (rw e at h)

pub entries_none : (l : List ℕ) → padded 12 0 (chain_field l 0) ≡ replicate 12 0
unfolding numbers_from
entries_none l = padded_none 0 12

-- one number more in an array of twelve
pub entries_more : (l : List ℕ) (i : ℕ) → i < 12 → set (padded 12 0 (chain_field l i)) i (number_at l (4 + 2 * i) 2) ≡ padded 12 0 (chain_field l (i + 1))
entries_more l i h =
    let e : i + 1 ≡ suc i = omega arith in
    padded_set 0 12 (chain_field l i) i (number_at l (4 + 2 * i) 2) (length_numbers l 4 i) h
    ∙ ap (padded 12 0) (sym (numbers_more l 4 i)) ∙ ap (λ (k : ℕ). padded 12 0 (chain_field l k)) (sym e)

-- ---- the numbers are known, from the front

pub all_on : (ns l : List ℕ) (at n i : ℕ) → i < n → is_some (position (λ m. eqb m (number_at l (at + 2 * i) 2)) ns) ≡ true
    → all_known ns (numbers_from l (at + 2 * i) (n - i)) ≡ all_known ns (numbers_from l (at + 2 * (i + 1)) (n - (i + 1)))
unfolding all_known numbers_from
all_on ns l at n i h k =
    let e : n - i ≡ suc (n - (i + 1)) = omega arith in
    let f : 2 + (at + 2 * i) ≡ at + 2 * (i + 1) = omega arith in
    let z = sym (search_known (number_at l (at + 2 * i) 2) ns) ∙ k in
    rw (e, z, f)

pub all_off : (ns l : List ℕ) (at n i : ℕ) → i < n → is_some (position (λ m. eqb m (number_at l (at + 2 * i) 2)) ns) ≡ false
    → all_known ns (numbers_from l (at + 2 * i) (n - i)) ≡ false
unfolding all_known numbers_from
all_off ns l at n i h k =
    let e : n - i ≡ suc (n - (i + 1)) = omega arith in
    let z = sym (search_known (number_at l (at + 2 * i) 2) ns) ∙ k in
    rw (e, z)

pub all_end : (ns l : List ℕ) (at n i : ℕ) → n ≤ i → all_known ns (numbers_from l at (n - i)) ≡ true
unfolding all_known numbers_from
all_end ns l at n i h = let e : n - i ≡ 0 = omega arith in rw e

-- ---- the fields of a task

pub task_fields_holds : (l : List ℕ) {n t d f : ℕ} → n ≡ number_at l 4 2 → t ≡ number_at l 6 4 → d ≡ number_at l 10 4 → f ≡ number_at l 14 4
    → ◌≡◌ {A = NumberedTask} (record { number = n; task = record { period = t; duration = d; phase = f } }) (task_field l)
task_fields_holds l a b c e = rw (a, b, c, e)
