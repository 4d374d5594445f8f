-- Laws of the counts: each entry is a difference of two counts of the ticks with a delay of at least some bound, and those go anchor by anchor; entries and rest come to H.
use Rattle.std.specs.Prelude.{◌≡◌, ℕ, zero, suc, ◌+◌, ◌-◌, ◌*◌, ◌<◌, ◌≤◌, min, Bool, true, false, ◌&&◌, leb, List, nat_le, nat_lt}
use native.Mathlib.Omega.{arith}
use Rattle.std.proofs.Common.{add-zero, mul-le-mul_right, sym, ap, ◌∙◌, le-leb, lt-ltb, le-ltb}
use Rattle.std.proofs.Math.Decide.{dec_le, dec_lt}
use Rattle.std.proofs.Math.Path.{refl}
use Rattle.std.proofs.lemmas.Bool.{lt-leb}
use Rattle.ranges.specs.Entries.{entries, sum}
use Rattle.table.specs.Anchors.{Anchor, first_start}
use Rattle.table.specs.Reading.{delay_at}
use Rattle.table.specs.Segments.{Formed}
use Rattle.figures.specs.Ticks.{ticks, total}
use Rattle.figures.specs.Folding.{adding, total_ticks}
use Rattle.figures.specs.ByAnchors.{segments, table_ticks}
use Rattle.histogram.specs.Histogram.{one, count, in_entry, beyond, entry_of, rest_of}

-- the ticks whose figure is at least x
abbrev pub count_at_least : ℕ → (ℕ → ℕ) → ℕ → ℕ → ℕ
count_at_least x = count (leb x)

module _ (f : ℕ → ℕ) where
  -- every tick is counted from 0 on
  count_all : (n s : ℕ) → count_at_least 0 f s n ≡ n
  unfolding total
  count_all zero s = refl
  count_all (suc n) s = rw (le-leb 0 (f s) (omega arith)) (omega (arith, count_all n (suc s)))

  -- no count is above the number of ticks
  pub count_most : (test : ℕ → Bool) (n s : ℕ) → count test f s n ≤ n
  unfolding total
  count_most test zero s = omega arith
  count_most test (suc n) s = go (test (f s)) (count_most test n (suc s))
    where
      go : (t : Bool) → count test f (suc s) n ≤ n → one t + count test f (suc s) n ≤ suc n
      go true h = omega arith
      go false h = omega arith

  -- between two bounds: those from the lower less those from the upper
  between : (lo hi v : ℕ) → lo ≤ hi → one (nat_le lo v && nat_lt v hi) + one (nat_le hi v) ≡ one (nat_le lo v)
  between lo hi v h = elim (dec_le lo v) [
    | yes a ↦ elim (dec_lt v hi) [
      | yes b ↦ rw (le-leb lo v a, lt-ltb v hi b, lt-leb hi v b)
      | no b ↦ rw (le-leb lo v a, le-ltb v hi (omega arith), le-leb hi v (omega arith))
    ]
    | no a ↦ rw (lt-leb lo v (omega arith), lt-leb hi v (omega arith))
  ]

  count_between : (lo hi : ℕ) → lo ≤ hi → (n s : ℕ) → count (λ v. nat_le lo v && nat_lt v hi) f s n + count_at_least hi f s n ≡ count_at_least lo f s n
  unfolding total
  count_between lo hi h zero s = refl
  count_between lo hi h (suc n) s = omega (arith, between lo hi (f s) h, count_between lo hi h n (suc s))

  -- the k entries from i on and those beyond come to those from i × width on
  entries_rest : (width s n k i : ℕ) → sum (entries (λ j. count (in_entry width j) f s n) i k) + count (beyond width (i + k)) f s n ≡ count_at_least (i * width) f s n
  unfolding entries sum
  entries_rest width s n zero i = rw (add-zero i) (omega arith)
  entries_rest width s n (suc k) i =
      let e : i + suc k ≡ suc i + k = omega arith in
      let next : suc i * width ≡ (i + 1) * width = omega arith in
      let rest = entries_rest width s n k (suc i) in
      rw e (omega (arith, rw next at rest, count_between (i * width) ((i + 1) * width) (mul-le-mul_right width (omega arith)) n s))

  -- The entries and the rest come to all ticks, of any figure, for every width and every length of the list.
  pub all_counted : (width s n k : ℕ) → sum (entries (λ i. count (in_entry width i) f s n) 0 k) + count (beyond width k) f s n ≡ n
  all_counted width s n k =
      let z : 0 + k ≡ k = omega arith in
      let o : 0 * width ≡ 0 = omega arith in
      rw z at (entries_rest width s n k 0) ∙ ap (λ (x : ℕ). count_at_least x f s n) o ∙ count_all n s

  -- two bounds that no figure lies between count the same
  pub count_same : (x y n s : ℕ) → ((t : ℕ) → s ≤ t → nat_le x (f t) ≡ nat_le y (f t)) → count_at_least x f s n ≡ count_at_least y f s n
  unfolding total
  count_same x y zero s h = refl
  count_same x y (suc n) s h = rw (h s (omega arith), count_same x y n (suc s) (λ t l. h t (omega arith)))

-- ---- anchor by anchor

-- what an anchor with latency v and d ticks adds to those of at least x
abbrev pub add_at_least : ℕ → ℕ → ℕ → ℕ → ℕ
add_at_least x z d v = z + min d (v + 1 - x)

fall_yes : (x w n c : ℕ) → x ≤ suc w → c ≡ min n (suc w - x) → 1 + c ≡ min (suc n) (suc w + 1 - x)
fall_yes x w n c h e = omega arith

fall_no : (x w n c : ℕ) → suc w < x → c ≡ min n (suc w - x) → 0 + c ≡ min (suc n) (suc w + 1 - x)
fall_no x w n c h e = omega arith

-- n figures that fall by one from w on
falling : (x v n k w : ℕ) → v ≡ k + w → n ≤ w → count_at_least x (λ i. v - i) k n ≡ min n (w + 1 - x)
unfolding total
falling x v zero k w e h = omega arith
falling x v (suc n) k zero e h = absurd (omega arith)
falling x v (suc n) k (suc w) e h =
    let q : v - k ≡ suc w = omega arith in
    let a : w + 1 ≡ suc w = omega arith in
    let ih : count_at_least x (λ i. v - i) (suc k) n ≡ min n (suc w - x) = rw a at (falling x v n (suc k) w (omega arith) (omega arith)) in
    elim (dec_le x (suc w)) [
      | yes l ↦ rw (q, le-leb x (suc w) l) (fall_yes x w n _ l ih)
      | no l ↦ rw (q, lt-leb x (suc w) (omega arith)) (fall_no x w n _ (omega arith) ih)
    ]

abbrev of_bound : ℕ → ℕ → ℕ
of_bound x w = one (nat_le x w)

add_exact : (x z d v : ℕ) → d < v → ticks (adding (of_bound x)) (λ i. v - i) 0 d z ≡ add_at_least x z d v
add_exact x z d v h = total_ticks (of_bound x) (λ i. v - i) d 0 z ∙ ap (λ (c : ℕ). z + c) (falling x v d 0 v (omega arith) (omega arith))

-- The ticks of a hyperperiod with a delay of at least x, in one pass over the anchors: the third use of `table_ticks`.
pub from_anchors : (x H : ℕ) (l : List Anchor) → Formed H l → count_at_least x (delay_at H l) (first_start l) H ≡ segments (add_at_least x) (first_start l + H) l 0
from_anchors x H l f =
    sym (total_ticks (of_bound x) (delay_at H l) H (first_start l) 0 ∙ omega arith)
    ∙ table_ticks (adding (of_bound x)) (add_at_least x) (λ z. Unit {0}) (λ z d v i. tt) (λ z d v i h. add_exact x z d v h) H l f 0 tt

-- Entry i as a difference of two such counts.
pub entry_difference : (width H : ℕ) (l : List Anchor) (i : ℕ)
    → entry_of width H l i + count_at_least ((i + 1) * width) (delay_at H l) (first_start l) H ≡ count_at_least (i * width) (delay_at H l) (first_start l) H
entry_difference width H l i = count_between (delay_at H l) (i * width) ((i + 1) * width) (mul-le-mul_right width (omega arith)) H (first_start l)

-- The entries and the rest come to H, for every width and every length of the list.
pub come_to_H : (width H : ℕ) (l : List Anchor) (n : ℕ) → sum (entries (entry_of width H l) 0 n) + rest_of width H l n ≡ H
come_to_H width H l n = all_counted (delay_at H l) width (first_start l) H n
