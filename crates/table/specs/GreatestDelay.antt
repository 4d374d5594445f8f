-- The greatest latency of a well-formed table is its greatest delay over all time, and some tick has it.
use Rattle.std.specs.Prelude.{◌≡◌, List, [], ◌∷◌, ℕ, ◌+◌, ◌-◌, ◌%◌, ◌≤◌, ◌<◌, max}
use Rattle.std.proofs.Common.{sym, ◌∙◌, mod-lt, arith}
use Rattle.std.proofs.Math.Nat.{max-eq_right}
use Rattle.std.proofs.Math.Decide.{dec_lt, dec_le}
use Rattle.table.specs.Anchors.{Anchor, first_start, distance}
use Rattle.table.specs.Reading.{last_at, delay_at}
use Rattle.table.specs.Figures.{greatest}
use Rattle.table.specs.Segments.{Spaced, Formed, early, later, below, delay_in, segment, delay_first}

-- v is the greatest of f from tick `from` on
pub record GreatestFrom (f : ℕ → ℕ) (from v : ℕ) : Type 0 where
  pub bound : (t : ℕ) → from ≤ t → f t ≤ v
  pub at : ℕ
  pub late : from ≤ at
  pub meets : f at ≡ v

-- a tick of the first hyperperiod at which the anchors give v
pub record Meets (limit : ℕ) (x : Anchor) (l : List Anchor) (v : ℕ) : Type 0 where
  pub at : ℕ
  pub late : x.start ≤ at
  pub soon : at < limit
  pub has : delay_in x l at ≡ v

-- what an anchor gives i ticks past its start
pub here : (limit : ℕ) (x : Anchor) (l : List Anchor) (i : ℕ) {v : ℕ} → Spaced limit (x ∷ l) → i < distance limit x l → x.latency - i ≡ v → Meets limit x l v
here limit x [] i sp h e = record { at = x.start + i; late = omega arith; soon = omega arith; has = segment limit x [] sp i h ∙ e }
here limit x (y ∷ l) i sp h e = record {
  at = x.start + i;
  late = omega arith;
  soon = omega (arith, below limit y l sp.3);
  has = segment limit x (y ∷ l) sp i h ∙ e;
}

-- what a later anchor gives, the whole gives
pub past : (limit : ℕ) (x y : Anchor) (l : List Anchor) {v : ℕ} → Spaced limit (x ∷ y ∷ l) → Meets limit y l v → Meets limit x (y ∷ l) v
past limit x y l sp m = record {
  at = m.at;
  late = omega arith;
  soon = m.soon;
  has = rw (later m.at x y l m.late) m.has;
}

greatest_meets : (limit : ℕ) (x : Anchor) (l : List Anchor) → Spaced limit (x ∷ l) → Meets limit x l (greatest (x ∷ l))
unfolding greatest
greatest_meets limit x [] sp = here limit x [] 0 sp (omega arith) (omega arith)
greatest_meets limit x (y ∷ l) sp = elim (dec_le (greatest (y ∷ l)) x.latency) [
  | yes h ↦ here limit x (y ∷ l) 0 sp (omega arith) (omega arith)
  | no h ↦
      let e : greatest (y ∷ l) ≡ max x.latency (greatest (y ∷ l)) = sym (max-eq_right (omega arith)) in
      rw (← e) (past limit x y l sp (greatest_meets limit y l sp.3))
]

greatest_bound : (limit : ℕ) (x : Anchor) (l : List Anchor) → Spaced limit (x ∷ l) → (u : ℕ) → x.start ≤ u → u < limit → delay_in x l u ≤ greatest (x ∷ l)
unfolding greatest last_at
greatest_bound limit x [] sp u h k = omega arith
greatest_bound limit x (y ∷ l) sp u h k = elim (dec_lt u y.start) [
  | yes d ↦ rw (early limit u x (y ∷ l) sp.3 d) (omega arith)
  | no d ↦ rw (later u x y l (omega arith)) (omega (arith, greatest_bound limit y l sp.3 u (omega arith) k))
]

-- a tick of the first hyperperiod is a tick of all time
pub met : (H : ℕ) (x : Anchor) (l : List Anchor) {v : ℕ} (m : Meets (x.start + H) x l v) → delay_at H (x ∷ l) m.at ≡ v
met H x l m =
    let e : x.start + (m.at - x.start) ≡ m.at = omega arith in
    rw e at (delay_first H x l (m.at - x.start) (omega arith)) ∙ m.has

-- what holds of each delay in the first hyperperiod holds of each delay
pub every : (P : ℕ → Type 0) (H : ℕ) (x : Anchor) (l : List Anchor) → 0 < H
    → ((u : ℕ) → x.start ≤ u → u < x.start + H → P (delay_in x l u)) → (t : ℕ) → P (delay_at H (x ∷ l) t)
unfolding delay_at
every P H x l p h t = h (x.start + (t - x.start) % H) (omega arith) (omega (arith, mod-lt (t - x.start) p))

pub greatest_delay : (H : ℕ) (l : List Anchor) → Formed H l → GreatestFrom (delay_at H l) (first_start l) (greatest l)
greatest_delay H l f = rw f.whole (go f.head f.tail f.some f.spacing)
  where
    go : (x : Anchor) (l : List Anchor) → 0 < H → Spaced (x.start + H) (x ∷ l) → GreatestFrom (delay_at H (x ∷ l)) x.start (greatest (x ∷ l))
    go x l p sp =
        let m = greatest_meets (x.start + H) x l sp in
        record {
          bound = λ t h. every (λ v. v ≤ greatest (x ∷ l)) H x l p (greatest_bound (x.start + H) x l sp) t;
          at = m.at;
          late = m.late;
          meets = met H x l m;
        }
