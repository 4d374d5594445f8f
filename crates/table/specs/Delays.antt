-- Delays of a well-formed table: by the place of the anchor that gives them, and their range.
use Rattle.std.specs.Prelude.{◌≡◌, List, [], ◌∷◌}
use Rattle.std.proofs.Math.Path.{sym}
use Rattle.std.proofs.Common.{ap, ◌∙◌, arith}
use Prim.Native.Nat.{ℕ, zero, suc, ◌+◌, ◌-◌, ◌%◌, ◌≤◌, ◌<◌}
use Rattle.std.proofs.Math.Nat.{mod-lt}
use Rattle.std.proofs.Math.Decide.{dec_lt}
use Rattle.std.proofs.Math.ListN.{get_or, drop}
use Rattle.table.specs.Anchors.{Anchor, anchor, anchors, first_start, next}
use Rattle.table.specs.WellFormed.{latency_limit, next_start, WellFormed}
use Rattle.table.specs.Reading.{last_at, gives, delay_at}
use Rattle.table.specs.Figures.{greatest}
use Rattle.table.specs.Segments.{Spaced, early, later}
use Rattle.table.specs.GreatestDelay.{greatest_delay}
use Rattle.table.specs.LowDelay.{low_delay, low_positive}
use Rattle.table.specs.Places.{anchors_at, anchors_first, next_at, next_inner, next_last}
use Rattle.table.specs.BothWays.{well_formed_laws, well_spaced}

-- place i holds the last of the first g starts that is at most u, in lists whose starts rise
pub record LastStart (starts : List ℕ) (g u i : ℕ) : Type 0 where
  pub inside : i < g
  pub here : get_or starts i 0 ≤ u
  pub next : i + 1 < g → u < get_or starts (i + 1) 0

spaced_drop : (limit : ℕ) (l : List Anchor) (i : ℕ) → Spaced limit l → Spaced limit (drop i l)
spaced_drop limit l zero h = h
spaced_drop limit [] (suc i) h = h
spaced_drop limit (x ∷ l) (suc i) h = spaced_drop limit l i h.3

greatest_limit : (limit : ℕ) (l : List Anchor) → Spaced limit l → greatest l ≤ latency_limit
unfolding greatest
greatest_limit limit [] sp = omega arith
greatest_limit limit (x ∷ l) sp = omega (arith, greatest_limit limit l sp.3)

module _ (s v : List ℕ) (g H : ℕ) (w : WellFormed s v g H) where
  -- starts do not fall over k places
  pub rises : (k i : ℕ) → i + k < g → get_or s i 0 ≤ get_or s (i + k) 0
  rises zero i h = let e : i + 0 ≡ i = omega arith in rw e (omega arith)
  rises (suc k) i h =
      let e : i + suc k ≡ i + k + 1 = omega arith in
      rw e (omega (arith, rises k i (omega arith), w.rising (i + k) (omega arith)))

  -- going on from place j, k places before the last start at most u
  last_from : (u i : ℕ) → LastStart s g u i → u < get_or s 0 0 + H → (k j : ℕ) → j + k ≡ i → (x : Anchor)
      → last_at u x (drop j (anchors s v g)) ≡ anchor (get_or s i 0) (get_or v i 0)
  last_from u i f h zero j e x =
      let c : j ≡ i = omega arith in
      let a : Anchor = anchor (get_or s i 0) (get_or v i 0) in
      let n : u < next (get_or s 0 0 + H) (drop (i + 1) (anchors s v g)) = rw (next_at s v g w.fits (omega arith) (get_or s 0 0 + H) i f.inside) (before) in
      rw (c, anchors_at s v g w.fits (omega arith) i f.inside, later u x a (drop (i + 1) (anchors s v g)) f.here)
      (early (get_or s 0 0 + H) u a (drop (i + 1) (anchors s v g)) (spaced_drop (get_or s 0 0 + H) (anchors s v g) (i + 1) (well_spaced s v g H w)) n)
    where
      before : u < next_start s g (get_or s 0 0 + H) i
      before = elim (dec_lt (i + 1) g) [
        | yes k ↦ rw (next_inner s g (get_or s 0 0 + H) i k) (f.next k)
        | no k ↦ rw (next_last s g (get_or s 0 0 + H) i (omega (arith, f.inside))) h
      ]
  last_from u i f h (suc k) j e x =
      let a : Anchor = anchor (get_or s j 0) (get_or v j 0) in
      let c : j + suc k ≡ i = e in
      let le : get_or s j 0 ≤ u = omega (arith, rw c at (rises (suc k) j (omega (arith, f.inside))), f.here) in
      rw (anchors_at s v g w.fits (omega arith) j (omega (arith, f.inside)), later u x a (drop (j + 1) (anchors s v g)) le)
      (last_from u i f h k (j + 1) (omega arith) a)

  -- the delay at t by the place of the last start at most first start + r
  pub delay_place : (t i : ℕ) → LastStart s g (get_or s 0 0 + (t - get_or s 0 0) % H) i
      → delay_at H (anchors s v g) t ≡ gives (get_or s 0 0 + (t - get_or s 0 0) % H) (anchor (get_or s i 0) (get_or v i 0))
  unfolding delay_at
  delay_place t i f =
      let u : ℕ = get_or s 0 0 + (t - get_or s 0 0) % H in
      let x : Anchor = anchor (get_or s 0 0) (get_or v 0 0) in
      let e : anchors s v g ≡ x ∷ drop 1 (anchors s v g) = anchors_first s v g w.fits (omega arith) w.some in
      let o : last_at u x (drop 1 (anchors s v g)) ≡ last_at u x (x ∷ drop 1 (anchors s v g)) = sym (later u x x (drop 1 (anchors s v g)) (omega arith)) in
      let l : last_at u x (anchors s v g) ≡ anchor (get_or s i 0) (get_or v i 0)
      = last_from u i f (omega (arith, mod-lt (t - get_or s 0 0) w.hyper.0)) i 0 (omega arith) x in
      rw e (ap (gives u) (o ∙ (rw e at l)))

  pub greatest_small : greatest (anchors s v g) ≤ latency_limit
  greatest_small = greatest_limit (get_or s 0 0 + H) (anchors s v g) (well_spaced s v g H w)

  -- a delay is at least 2 and at most the latency's limit, so below 2^32
  pub delay_least : (t : ℕ) → first_start (anchors s v g) ≤ t → 2 ≤ delay_at H (anchors s v g) t
  delay_least t h = let f = well_formed_laws s v g H w in omega (arith, (low_delay H (anchors s v g) f).above t h, low_positive H (anchors s v g) f)

  pub delay_small : (t : ℕ) → first_start (anchors s v g) ≤ t → delay_at H (anchors s v g) t < 4294967296
  delay_small t h =
      let f = well_formed_laws s v g H w in
      omega (arith, (greatest_delay H (anchors s v g) f).bound t h, greatest_small)
