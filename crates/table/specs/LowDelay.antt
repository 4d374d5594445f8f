-- The low of a well-formed table: every delay of all time is above it, and some delay is one more. So a delay is at least 2.
use Rattle.std.specs.Prelude.{◌≡◌, List, [], ◌∷◌, ℕ, ◌+◌, ◌-◌, ◌≤◌, ◌<◌, min}
use Rattle.std.proofs.Common.{sym, ap, ◌∙◌, arith}
use Rattle.std.proofs.Math.Nat.{min-eq_left, min-eq_right}
use Rattle.std.proofs.Math.Decide.{dec_lt, dec_le}
use Rattle.table.specs.Anchors.{Anchor, first_start, distance}
use Rattle.table.specs.Reading.{last_at, delay_at}
use Rattle.table.specs.Figures.{low_to, low}
use Rattle.table.specs.Segments.{Spaced, Formed, early, later, delay_in}
use Rattle.table.specs.GreatestDelay.{Meets, here, past, met, every}

-- f stays above v from tick `from` on, and comes as near as a whole number can
pub record Nears (f : ℕ → ℕ) (from v : ℕ) : Type 0 where
  pub above : (t : ℕ) → from ≤ t → v < f t
  pub at : ℕ
  pub late : from ≤ at
  pub nears : f at ≡ v + 1

-- one anchor in plain numbers: latency v over d ticks, m the low of the later anchors
last_tick : (v d : ℕ) → 0 < d → d < v → v - (d - 1) ≡ v - d + 1
last_tick v d h k = omega arith

falls_above : (v d m i : ℕ) → i < d → d < v → min (v - d) m < v - i
falls_above v d m i h k = omega arith

least_some : (v d m : ℕ) → d < v → 1 ≤ m → 1 ≤ min (v - d) m
least_some v d m h k = omega arith

-- the last tick before the next start
low_meets : (limit : ℕ) (x : Anchor) (l : List Anchor) → Spaced limit (x ∷ l) → Meets limit x l (low_to limit x l + 1)
unfolding low_to
low_meets limit x [] sp = here limit x [] (distance limit x [] - 1) sp (omega arith) (last_tick x.latency (distance limit x []) (omega arith) sp.2)
low_meets limit x (y ∷ l) sp = elim (dec_le (x.latency - distance limit x (y ∷ l)) (low_to limit y l)) [
  | yes h ↦ here limit x (y ∷ l) (distance limit x (y ∷ l) - 1) sp (omega arith)
      (last_tick x.latency (distance limit x (y ∷ l)) (omega arith) sp.2 ∙ ap (λ (n : ℕ). n + 1) (sym (min-eq_left h)))
  | no h ↦
      let e : low_to limit y l ≡ min (x.latency - distance limit x (y ∷ l)) (low_to limit y l) = sym (min-eq_right (omega arith)) in
      rw (← e) (past limit x y l sp (low_meets limit y l sp.3))
]

low_under : (limit : ℕ) (x : Anchor) (l : List Anchor) → Spaced limit (x ∷ l) → (u : ℕ) → x.start ≤ u → u < limit → low_to limit x l < delay_in x l u
unfolding low_to last_at
low_under limit x [] sp u h k = omega arith
low_under limit x (y ∷ l) sp u h k = elim (dec_lt u y.start) [
  | yes d ↦ rw (early limit u x (y ∷ l) sp.3 d) (falls_above x.latency (y.start - x.start) (low_to limit y l) (u - x.start) (omega arith) sp.2)
  | no d ↦ rw (later u x y l (omega arith)) (omega (arith, low_under limit y l sp.3 u (omega arith) k))
]

low_some : (limit : ℕ) (x : Anchor) (l : List Anchor) → Spaced limit (x ∷ l) → 1 ≤ low_to limit x l
unfolding low_to
low_some limit x [] sp = omega arith
low_some limit x (y ∷ l) sp = least_some x.latency (distance limit x (y ∷ l)) (low_to limit y l) sp.2 (low_some limit y l sp.3)

pub low_delay : (H : ℕ) (l : List Anchor) → Formed H l → Nears (delay_at H l) (first_start l) (low H l)
unfolding low
low_delay H l f = rw f.whole (go f.head f.tail f.some f.spacing)
  where
    go : (x : Anchor) (l : List Anchor) → 0 < H → Spaced (x.start + H) (x ∷ l) → Nears (delay_at H (x ∷ l)) x.start (low_to (x.start + H) x l)
    go x l p sp =
        let m = low_meets (x.start + H) x l sp in
        record {
          above = λ t h. every (λ v. low_to (x.start + H) x l < v) H x l p (low_under (x.start + H) x l sp) t;
          at = m.at;
          late = m.late;
          nears = met H x l m;
        }

-- a delay is at least 2
pub low_positive : (H : ℕ) (l : List Anchor) → Formed H l → 1 ≤ low H l
unfolding low
low_positive H l f = rw f.whole (low_some (f.head.start + H) f.head f.tail f.spacing)
