-- Flat lists and arrays, an element at a time.
use Prim.Native.Nat.{ℕ, zero, suc, ◌+◌, ◌-◌, ◌*◌, ◌≤◌, ◌<◌}
use native.Mathlib.Omega.{arith}
use native.Mathlib.Nat.{mul-le-mul_left}
use native.Mathlib.Decide.{dec_le}
use native.Mathlib.Numerals.{add-one}
use borrow.Author.Tests.{le-leb, lt-leb}
use mathlib.Core.Path.{◌≡◌, sym, ap, ◌∙◌}
use mathlib.Core.List.{List, [], ◌∷◌, ◌++◌, append_assoc, append-nil}
use lib.ListN.{get_or-eq_default, length, get_or, set, take, replicate, length-append, length-set, length-replicate}
use lib.Seq.{sets, take_all, length-take-le}
use Rattle.chain.specs.Flat.{flat_of, length_flat, flat_more}
use denote.Param.Members.{Mut, Called}
use Rattle.std.specs.Array.{IsFromFnResultFrom, IsFromFnResult}
use native.Mathlib.Decide.{dec_lt}
use Rattle.ranges.specs.Entries.{entries, entries_length, entries_more, entries_are}
use Rattle.schedule.specs.declared.NumberedTask.{NumberedTask}
use Rattle.schedule.specs.Schedules.{padded, zero_numbered}
use Rattle.capi_schedule.specs.FlatSchedule.{held_from}
use Rattle.schedule.specs.Padding.{padded_none, padded_set, padded_same, padded_whole}

-- a task by default is zeros
pub zero_task_is : (t : NumberedTask) → (t.number ≡ 0) × ((t.task.period ≡ 0) × ((t.task.duration ≡ 0) × (t.task.phase ≡ 0))) → t ≡ zero_numbered
zero_task_is t e = go t.number t.task.period t.task.duration t.task.phase e.0 e.1.0 e.1.1.0 e.1.1.1
  where
    go : (n p d f : ℕ) → n ≡ 0 → p ≡ 0 → d ≡ 0 → f ≡ 0 → ◌≡◌ {A = NumberedTask} (record { number = n; task = record { period = p; duration = d; phase = f } }) zero_numbered
    go n p d f a b c e = rw (a, b, c, e)

-- ---- arrays from a rule

module _ {A : Type 0} (f : ℕ → A) where
  more : (n i : ℕ) (d : A) → padded n d (entries f 0 i ++ (f i ∷ [])) ≡ padded n d (entries f 0 (i + 1))
  more n i d =
      let e : 0 + i ≡ i = omega arith in
      ap (λ (k : ℕ). padded n d (entries f 0 i ++ (f k ∷ []))) (sym e) ∙ ap (padded n d) (sym (entries_more f 0 i)) ∙ ap (λ (k : ℕ). padded n d (entries f 0 k)) (sym (add-one i))

  -- a loop that fills an array of n entries from the front has come to entry i; d is what the array held before
  abbrev pub Filled : ℕ → A → ℕ → List A → Type 0
  Filled n d i l = (i ≤ n) × (length l ≡ n) × (l ≡ padded n d (entries f 0 i))

  pub fill_start : (n : ℕ) (d : A) → Filled n d 0 (replicate n d)
  unfolding entries
  fill_start n d = (omega arith, length-replicate n d, sym (padded_none d n))

  pub fill_more : (n : ℕ) (d : A) (i : ℕ) (l : List A) (x : A) → i < n → Filled n d i l → x ≡ f i → Filled n d (i + 1) (set l i x)
  fill_more n d i l x h k e = (
    omega arith,
    length-set l i x ∙ k.1,
    ap (λ (y : List A). set y i x) k.2 ∙ ap (set (padded n d (entries f 0 i)) i) e ∙ padded_set d n (entries f 0 i) i (f i) (entries_length f 0 i) h ∙ more n i d,
  )

  -- where the entry is what was there before
  pub fill_leave : (n : ℕ) (d : A) (i : ℕ) (l : List A) → i < n → Filled n d i l → f i ≡ d → Filled n d (i + 1) l
  fill_leave n d i l h k e = (
    omega arith,
    k.1,
    k.2 ∙ padded_same d n (entries f 0 i) (omega (arith, entries_length f 0 i)) ∙ ap (λ (x : A). padded n d (entries f 0 i ++ (x ∷ []))) (sym e) ∙ more n i d,
  )

  pub fill_end : (n : ℕ) (d : A) (i : ℕ) (l : List A) → n ≤ i → Filled n d i l → l ≡ entries f 0 n
  fill_end n d i l h k =
      let e : i ≡ n = omega (arith, k.0) in
      k.2 ∙ ap (λ (j : ℕ). padded n d (entries f 0 j)) e ∙ padded_whole d n (entries f 0 n) (omega (arith, entries_length f 0 n))

-- ---- arrays from calls

module _ {F A : Type 0} {g : Mut F (ℕ × Unit {0}) A} (Same : F → Type 0) (rule : ℕ → A) (step : (p q : F) (i : ℕ) (y : A) → Same p → Called g p (i, tt) y q → Same q × (y ≡ rule i)) where
  calls_at : (l : List A) (d : A) (n i : ℕ) (f : F) → Same f → IsFromFnResultFrom g f l i n → (k : ℕ) → i ≤ k → k < i + n → rule k ≡ get_or l k d
  calls_at l d zero i f same from k h b = absurd (omega arith)
  calls_at l d (suc n) i f same (q, y, el, called, from) k h b =
      let t = step f q i y same called in
      elim (dec_lt i k) [
        | yes a ↦ calls_at l d n (i + 1) q t.0 from k (omega arith) (omega arith)
        | no a ↦ let e : i ≡ k = omega arith in rw (← e) (sym (el.1 d ∙ t.1))
      ]

-- an array whose entries calls from the first state on gave has the entries of the rule
pub from_calls : {F A : Type 0} {g : Mut F (ℕ × Unit {0}) A} {f : F} (n : ℕ) {l : List A} → IsFromFnResult g f l n → (d : A) (rule : ℕ → A) (Same : F → Type 0) → Same f
    → ((p q : F) (i : ℕ) (y : A) → Same p → Called g p (i, tt) y q → Same q × (y ≡ rule i)) → l ≡ entries rule 0 n
from_calls {f = f} n {l} items d rule Same same step = sym (entries_are rule d l n items.long (λ i h. calls_at Same rule step l d n 0 f same items.each i (omega arith) (omega arith)))

-- ---- flat lists

-- a run of stores at the list's end makes it longer
padded_sets : (n d : ℕ) (vs l : List ℕ) (at : ℕ) → length l ≡ at → at + length vs ≤ n → sets (padded n d l) at vs ≡ padded n d (l ++ vs)
padded_sets n d [] l at e h = ap (padded n d) (sym (append-nil l))
padded_sets n d (v ∷ vs) l at e h =
    ap (λ (m : List ℕ). sets m (suc at) vs) (padded_set d n l at v e (omega arith))
    ∙ padded_sets n d vs (l ++ (v ∷ [])) (suc at) (length-append l (v ∷ []) ∙ (omega arith)) (omega arith)
    ∙ ap (padded n d) (append_assoc l (v ∷ []) vs)

module _ {A : Type 0} (f : A → List ℕ) (k : ℕ) (each : (x : A) → length (f x) ≡ k) where
  pub flat_none : (n : ℕ) (all : List A) → replicate n 0 ≡ padded n 0 (flat_of f (take 0 all))
  unfolding flat_of
  flat_none n all = sym (padded_none 0 n)

  pub flat_turn : (n : ℕ) (d : A) (all : List A) (i : ℕ) (flat : List ℕ) → i < length all → k * length all ≤ n → flat ≡ padded n 0 (flat_of f (take i all))
      → sets flat (k * i) (f (get_or all i d)) ≡ padded n 0 (flat_of f (take (i + 1) all))
  flat_turn n d all i flat h g e =
      let t : length (take i all) ≡ i = length-take-le i all (omega arith) in
      let m : k * suc i ≤ k * length all = mul-le-mul_left k (omega arith) in
      ap (λ (l : List ℕ). sets l (k * i) (f (get_or all i d))) e
      ∙ padded_sets n 0 (f (get_or all i d)) (flat_of f (take i all)) (k * i) (length_flat f k each (take i all) ∙ ap (λ (x : ℕ). k * x) t) (omega (arith, each (get_or all i d)))
      ∙ ap (padded n 0) (sym (flat_more f k each d all i h)) ∙ ap (λ (x : ℕ). padded n 0 (flat_of f (take x all))) (sym (add-one i))

  -- all elements are stored, in an array of just their length
  pub flat_end : (n : ℕ) (all : List A) (i : ℕ) (flat : List ℕ) → length all ≤ i → n ≡ k * length all → flat ≡ padded n 0 (flat_of f (take i all)) → flat ≡ flat_of f all
  flat_end n all i flat h g e =
      e ∙ ap (λ (l : List A). padded n 0 (flat_of f l)) (take_all i all h) ∙ padded_whole 0 n (flat_of f all) (omega (arith, length_flat f k each all))

three_stores : (l : List ℕ) (at a b c : ℕ) → set (set (set l at a) (at + 1) b) (at + 2) c ≡ sets l at (a ∷ b ∷ c ∷ [])
three_stores l at a b c =
    let p : at + 1 ≡ suc at = omega arith in
    let q : at + 2 ≡ suc (suc at) = omega arith in
    rw (p, q)

pub four_stores : (l : List ℕ) (at a b c d : ℕ) → set (set (set (set l at a) (at + 1) b) (at + 2) c) (at + 3) d ≡ sets l at (a ∷ b ∷ c ∷ d ∷ [])
four_stores l at a b c d =
    let r : at + 3 ≡ suc (suc (suc at)) = omega arith in
    rw r (ap (λ (m : List ℕ). set m (suc (suc (suc at))) d) (three_stores l at a b c))

-- ---- counts

-- none is always held
held_none : (long : ℕ) → held_from long 0 ≡ 0
unfolding held_from
held_none long = rw (le-leb 0 long (omega arith))

-- a list that ends before an entry gives 0 for it, so no places
pub none_counted : (places : List ℕ) (c long : ℕ) → length places ≤ c → held_from long (get_or places c 0) ≡ 0
none_counted places c long h = ap (held_from long) (get_or-eq_default places 0 {n = c} h) ∙ held_none long

-- and so does one that ends before the chain begins
pub none_held : (long from count : ℕ) → long < from → held_from (long - from) count ≡ 0
unfolding held_from
none_held long from count h = elim (dec_le count (long - from)) [
  | yes k ↦ let e : count ≡ 0 = omega arith in rw (le-leb count (long - from) k) e
  | no k ↦ rw (lt-leb count (long - from) (omega arith))
]
