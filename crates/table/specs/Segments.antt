-- The segment law: over the d ticks from an anchor's start to the next start, the delays are L, L - 1, .., L - d + 1, L being its
-- latency. And the delay repeats every H ticks.
use Rattle.std.specs.Prelude.{◌≡◌, refl, List, [], ◌∷◌, ℕ, ◌+◌, ◌-◌, ◌*◌, ◌≤◌, ◌<◌}
use Rattle.std.proofs.Common.{mod-eq_of_lt, arith, le-leb}
use Rattle.std.proofs.Math.Nat.{add-mul-mod_self_right}
use Rattle.std.proofs.lemmas.Bool.{lt-leb}
use Rattle.table.specs.Anchors.{Anchor, first_start, next, distance}
use Rattle.table.specs.WellFormed.{latency_limit}
use Rattle.table.specs.Reading.{last_at, gives, delay_at}

-- each start lies below the next, the last below limit; each latency is within its limit and greater than the distance
abbrev pub Spaced : ℕ → List Anchor → Type 0
Spaced limit [] = Unit {0}
Spaced limit (x ∷ l) = (x.start < next limit l) × (x.latency ≤ latency_limit) × (distance limit x l < x.latency) × Spaced limit l

-- what a well-formed table is to the laws: a first anchor, the others, and the H ticks from the first start over which they are spaced
pub record Formed (H : ℕ) (l : List Anchor) : Type 0 where
  pub head : Anchor
  pub tail : List Anchor
  pub whole : l ≡ head ∷ tail
  pub some : 0 < H
  pub spacing : Spaced (head.start + H) (head ∷ tail)

-- a start lies below limit
pub below : (limit : ℕ) (x : Anchor) (l : List Anchor) → Spaced limit (x ∷ l) → x.start < limit
below limit x [] sp = sp.0
below limit x (y ∷ l) sp = omega (arith, below limit y l sp.3)

-- what the anchors give at u, a tick of the first hyperperiod
abbrev pub delay_in : Anchor → List Anchor → ℕ → ℕ
delay_in x l u = gives u (last_at u x l)

-- before the next start the anchor stays
pub early : (limit u : ℕ) (x : Anchor) (l : List Anchor) → Spaced limit l → u < next limit l → last_at u x l ≡ x
unfolding last_at
early limit u x [] sp h = refl
early limit u x (y ∷ l) sp h = rw (lt-leb y.start u h, last_at) (early limit u x l sp.3 (omega arith))

-- from the next start on the rest of the anchors speaks
pub later : (u : ℕ) (x y : Anchor) (l : List Anchor) → y.start ≤ u → last_at u x (y ∷ l) ≡ last_at u y l
unfolding last_at
later u x y l h = rw (le-leb y.start u h, last_at)

-- THE SEGMENT LAW
pub segment : (limit : ℕ) (x : Anchor) (l : List Anchor) → Spaced limit (x ∷ l) → (i : ℕ) → i < distance limit x l → delay_in x l (x.start + i) ≡ x.latency - i
segment limit x l sp i h = rw (early limit (x.start + i) x l sp.3 (omega arith)) (omega arith)

-- within the first hyperperiod the delay is what the anchors give
pub delay_first : (H : ℕ) (x : Anchor) (l : List Anchor) (i : ℕ) → i < H → delay_at H (x ∷ l) (x.start + i) ≡ delay_in x l (x.start + i)
unfolding delay_at
delay_first H x l i h = let e : (x.start + i - x.start) ≡ i = omega arith in rw (e, mod-eq_of_lt h)

-- the delay repeats with period H
pub delay_again : (H : ℕ) (l : List Anchor) → Formed H l → (t k : ℕ) → first_start l ≤ t → delay_at H l (t + k * H) ≡ delay_at H l t
unfolding delay_at
delay_again H l f = rw f.whole (go f.head f.tail)
  where
    go : (x : Anchor) (l : List Anchor) (t k : ℕ) → x.start ≤ t → delay_at H (x ∷ l) (t + k * H) ≡ delay_at H (x ∷ l) t
    go x l t k h = let e : t + k * H - x.start ≡ t - x.start + k * H = omega arith in rw (e, add-mul-mod_self_right)
