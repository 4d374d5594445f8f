-- How the counts are had without a look at each tick. The list holds the differences of neighbouring entries, modulo 2 ^ 64. A range of delays, from `low` up to below `end`, changes
-- four of them, however many entries it covers: from the entry of `low` on, each gets its delays from `low` on, and from the entry of `end` on, those from `end` on are taken off
-- again. The sums of the first 1, 2, 3, .. differences are then the entries.
use Rattle.std.specs.Prelude.{◌≡◌, ℕ, zero, suc, ◌+◌, ◌-◌, ◌*◌, ◌/◌, ◌%◌, ◌<◌, ◌≤◌, min, max, Bool, true, false, cond, List, [], ◌∷◌, length, take, nat_lt, slice_index, refl}
use native.Mathlib.Omega.{arith}
use Rattle.std.proofs.Common.{div-add-mod', mul-le-mul_right, sym, ◌∙◌, length-set, lt-ltb, le-ltb}
use Rattle.std.proofs.Math.Nat.{mod-lt, mod-add-mod, add-mod-mod}
use Rattle.std.proofs.Math.Decide.{dec_lt}
use Rattle.std.proofs.Math.Path.{ap}
use Rattle.ranges.specs.Entries.{sum}
use Rattle.table.specs.Anchors.{Anchor, distance}
use Rattle.table.specs.Segments.{Spaced}
use Rattle.figures.specs.ByAnchors.{segments}
use Rattle.histogram.proofs.Counting.{add_at_least}
use Rattle.histogram.specs.Differences.{modulus, added_at, opposite, shifted, with_range, with_anchor, up_to}

-- ---- one difference more

length_added : (l : List ℕ) (at more : ℕ) → length (added_at at more l) ≡ length l
unfolding added_at
length_added l at more = length-set l at ((slice_index l at + more) % modulus)

same_sum : (x a b : ℕ) → a % modulus ≡ b % modulus → (x + a) % modulus ≡ (x + b) % modulus
same_sum x a b e = sym (add-mod-mod x a modulus) ∙ ap (λ (y : ℕ). (x + y) % modulus) e ∙ add-mod-mod x b modulus

test_suc : (a n : ℕ) → nat_lt (suc a) (suc n) ≡ nat_lt a n
test_suc a n = elim (dec_lt a n) [
  | yes h ↦ rw (lt-ltb (suc a) (suc n) (omega arith), lt-ltb a n h)
  | no h ↦ rw (le-ltb (suc a) (suc n) (omega arith), le-ltb a n (omega arith))
]

front_added : (l : List ℕ) (at more n : ℕ) → n ≤ length l → sum (take n (added_at at more l)) % modulus ≡ (sum (take n l) + cond (nat_lt at n) more 0) % modulus
unfolding added_at sum
front_added [] at more zero h = rw (le-ltb at 0 (omega arith))
front_added [] at more (suc n) h = absurd (omega arith)
front_added (x ∷ l) at more zero h = rw (le-ltb at 0 (omega arith)) (empty at)
  where
    empty : (at : ℕ) → sum (take 0 (added_at at more (x ∷ l))) % modulus ≡ 0 % modulus
    empty zero = refl
    empty (suc at) = refl
front_added (x ∷ l) zero more (suc n) h =
    rw (lt-ltb 0 (suc n) (omega arith))
    (mod-add-mod (x + more) modulus (sum (take n l)) ∙ ap (λ (y : ℕ). y % modulus) {x = x + more + sum (take n l)} {y = x + sum (take n l) + more} (omega arith))
front_added (x ∷ l) (suc at) more (suc n) h =
    rw (test_suc at n)
    (same_sum x (sum (take n (added_at at more l))) (sum (take n l) + cond (nat_lt at n) more 0) (front_added l at more n (omega arith))
    ∙ ap (λ (y : ℕ). y % modulus) {x = x + (sum (take n l) + cond (nat_lt at n) more 0)} {y = x + sum (take n l) + cond (nat_lt at n) more 0} (omega arith))

front_shifted : (l : List ℕ) (at here next n : ℕ) → n ≤ length l
    → sum (take n (shifted at here next l)) % modulus ≡ (sum (take n l) + (cond (nat_lt at n) here 0 + cond (nat_lt (at + 1) n) next 0)) % modulus
front_shifted l at here next n h =
    omega (arith, front_added l at here n h, front_added (added_at at here l) (at + 1) next n (rw (length_added l at here) h))

-- ---- one range more

-- how many delays of entry i are from b on
abbrev from_on : ℕ → ℕ → ℕ → ℕ
from_on width b i = (i + 1) * width - max (i * width) b

-- by the entry of b and what is left of the division
by_parts : (width b i p r : ℕ) → p * width + r ≡ b → r < width → cond (nat_lt p (i + 1)) (width - r) 0 + cond (nat_lt (p + 1) (i + 1)) r 0 ≡ from_on width b i
by_parts width b i p r e l = elim (dec_lt p i) [
  | yes h ↦ rw (lt-ltb p (i + 1) (omega arith), lt-ltb (p + 1) (i + 1) (omega arith)) (omega (arith, mul-le-mul_right {m = p + 1} {n = i} width (omega arith)))
  | no h ↦ elim (dec_lt i p) [
    | yes k ↦ rw (le-ltb p (i + 1) (omega arith), le-ltb (p + 1) (i + 1) (omega arith)) (omega (arith, mul-le-mul_right {m = i + 1} {n = p} width (omega arith)))
    | no k ↦
        let q : p ≡ i = omega arith in
        rw (lt-ltb p (i + 1) (omega arith), le-ltb (p + 1) (i + 1) (omega arith)) (omega (arith, ap (λ (x : ℕ). x * width) q))
  ]
]

opposites : (s t : Bool) (x y : ℕ) → x ≤ modulus → y ≤ modulus → (cond s (opposite x) 0 + cond t (opposite y) 0 + (cond s x 0 + cond t y 0)) % modulus ≡ 0
opposites true true x y h k = omega arith
opposites true false x y h k = omega arith
opposites false true x y h k = omega arith
opposites false false x y h k = omega arith

module _ (width : ℕ) (some : 1 ≤ width) (fits : width ≤ modulus) (i : ℕ) where
  parts : (b : ℕ) → cond (nat_lt (b / width) (i + 1)) (width - b % width) 0 + cond (nat_lt (b / width + 1) (i + 1)) (b % width) 0 ≡ from_on width b i
  parts b = by_parts width b i (b / width) (b % width) (div-add-mod' b width) (mod-lt b some)

  front_range : (low end : ℕ) (l : List ℕ) → i < length l → (up_to (with_range width low end l) i + from_on width end i) % modulus ≡ (up_to l i + from_on width low i) % modulus
  unfolding with_range
  front_range low end l h =
      let up : List ℕ = shifted (low / width) (width - low % width) (low % width) l in
      let e : length up ≡ length l = length_added _ _ _ ∙ length_added _ _ _ in
      joined _ _ _ _ _ _ (front_shifted l (low / width) (width - low % width) (low % width) (i + 1) (omega arith) ∙ ap (λ (x : ℕ). (up_to l i + x) % modulus) (parts low))
      (front_shifted up (end / width) (opposite (width - end % width)) (opposite (end % width)) (i + 1) (omega (arith, e)))
      (opposites (nat_lt (end / width) (i + 1)) (nat_lt (end / width + 1) (i + 1)) (width - end % width) (end % width) (omega arith) (omega (arith, mod-lt end some)))
      (parts end)
    where
      joined : (a b c on off down : ℕ) → b % modulus ≡ (a + on) % modulus → c % modulus ≡ (b + down) % modulus → (down + off) % modulus ≡ 0 → {e : ℕ} → off ≡ e → (c + e) % modulus ≡ (a + on) % modulus
      joined a b c on off down p q r k = omega arith

-- the numbers from b on, below y and not below x
part : (x y b : ℕ) → x ≤ y → (y - max x b) + (x - b) ≡ y - b
part x y b h = omega arith

-- of the d numbers below low + d, those from z on
top : (d low z : ℕ) → min d (low + d - z) + (low - z) ≡ low + d - z
top d low z = omega arith

-- one of the two differences is 0
swapped : (z b : ℕ) → (z - b) + b ≡ (b - z) + z
swapped z b = omega arith

-- a range of d delays from `low` on, and the entry from x up to below y: its delays from `low` on less those from low + d on are the range's from x on less those from y on
one_range : (x y d low : ℕ) → x ≤ y → (y - max x low) + min d (low + d - y) ≡ (y - max x (low + d)) + min d (low + d - x)
one_range x y d low h =
    all _ _ _ _ _ _ _ _ _ _ _ _ (low + d) refl (part x y low h) (part x y (low + d) h) (top d low y) (top d low x) (swapped y low) (swapped y (low + d)) (swapped x low) (swapped x (low + d))
  where
    all : (a b c e xl yl xe ye ly ey lx ex end : ℕ) → end ≡ low + d → a + xl ≡ yl → b + xe ≡ ye → c + ly ≡ ey → e + lx ≡ ex
        → yl + low ≡ ly + y → ye + end ≡ ey + y → xl + low ≡ lx + x → xe + end ≡ ex + x → a + c ≡ b + e
    all a b c e xl yl xe ye ly ey lx ex end h p q r s i j k l = omega arith

-- ---- all anchors

moved : (a b on off x y : ℕ) → (b + off) % modulus ≡ (a + on) % modulus → on + y ≡ off + x → (b + y) % modulus ≡ (a + x) % modulus
moved a b on off x y p q = omega arith

cancel : (a b x : ℕ) → (a + x) % modulus ≡ (b + x) % modulus → a % modulus ≡ b % modulus
cancel a b x e = omega arith

turned : (a b c p q x y more less : ℕ) → (b + less) % modulus ≡ (a + more) % modulus → (c + p + (x + more)) % modulus ≡ (b + q + (y + less)) % modulus
    → (c + p + x) % modulus ≡ (a + q + y) % modulus
turned a b c p q x y more less e f =
    cancel (c + p + x) (a + q + y) more
    (ap left {x = c + p + x + more} {y = c + p + (x + more)} (omega arith) ∙ f ∙ ap left {x = b + q + (y + less)} {y = q + y + (b + less)} (omega arith) ∙ same_sum (q + y) (b + less) (a + more) e
    ∙ ap left {x = q + y + (a + more)} {y = a + q + y + more} (omega arith))
  where
    left : ℕ → ℕ
    left n = n % modulus

pub length_range : (width low end : ℕ) (l : List ℕ) → length (with_range width low end l) ≡ length l
unfolding with_range
length_range width low end l = length_added _ _ _ ∙ length_added _ _ _ ∙ length_added _ _ _ ∙ length_added _ _ _

module _ (width : ℕ) (some : 1 ≤ width) (fits : width ≤ modulus) (i : ℕ) where
  front_anchor : (d v : ℕ) → d < v → (l : List ℕ) → i < length l
      → (up_to (with_anchor width l d v) i + min d (v + 1 - (i + 1) * width)) % modulus ≡ (up_to l i + min d (v + 1 - i * width)) % modulus
  front_anchor d v h l k =
      let e : v + 1 - d + d ≡ v + 1 = omega arith in
      moved _ _ _ _ _ _ (front_range width some fits i (v + 1 - d) (v + 1) l k) (rw e at (one_range (i * width) ((i + 1) * width) d (v + 1 - d) (mul-le-mul_right width (omega arith))))

  pub front_anchors : (limit : ℕ) (l : List Anchor) → Spaced limit l → (c : List ℕ) → i < length c → (x y : ℕ)
      → (up_to (segments (with_anchor width) limit l c) i + segments (add_at_least ((i + 1) * width)) limit l y + x) % modulus
      ≡ (up_to c i + segments (add_at_least (i * width)) limit l x + y) % modulus
  unfolding segments
  front_anchors limit [] sp c h x y = ap (λ (n : ℕ). n % modulus) {x = up_to c i + y + x} {y = up_to c i + x + y} (omega arith)
  front_anchors limit (a ∷ l) sp c h x y =
      let d : ℕ = distance limit a l in
      let v : ℕ = a.latency in
      let more : ℕ = min d (v + 1 - i * width) in
      let less : ℕ = min d (v + 1 - (i + 1) * width) in
      turned _ _ _ _ _ x y more less (front_anchor d v sp.2 c h)
      (front_anchors limit l sp.3 (with_anchor width c d v) (rw (length_range width (v + 1 - d) (v + 1) c) h) (x + more) (y + less))

-- the list keeps its length
pub length_anchors : (width limit : ℕ) (l : List Anchor) (c : List ℕ) → length (segments (with_anchor width) limit l c) ≡ length c
unfolding segments
length_anchors width limit [] c = refl
length_anchors width limit (a ∷ l) c = length_anchors width limit l (with_anchor width c (distance limit a l) a.latency) ∙ length_range width _ _ c
