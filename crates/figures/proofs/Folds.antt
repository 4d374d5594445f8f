-- What each turn and the end of a loop over the anchors of a well-formed table shows.
use mathlib.Core.Path.{◌≡◌, sym, ap, ◌∙◌}
use mathlib.Core.List.{List}
use Prim.Native.Nat.{ℕ, ◌+◌, ◌-◌, ◌*◌, ◌≤◌, ◌<◌}
use native.Mathlib.Omega.{arith}
use lib.ListN.{get_or, drop}
use Rattle.figures.specs.declared.Gathered.{Gathered}
use Rattle.figures.specs.declared.Scan.{Scan}
use Rattle.table.specs.Anchors.{anchors, first_start}
use Rattle.table.specs.WellFormed.{hyper_limit, latency_limit, next_start, WellFormed}
use Rattle.table.specs.Places.{anchors_first, first_at}
use Rattle.figures.specs.ByAnchors.{segments, segments_at, segments_end}
use Rattle.table.specs.BothWays.{well_formed_laws}
use Rattle.table.specs.Delays.{greatest_small}
use Rattle.figures.specs.Exceeding.{stretch, round_bounded, best_grows}
use Rattle.figures.specs.Gathering.{gathered, with_anchor, Gathers, first_latency, gathering}
use Rattle.figures.proofs.Gathering.{gathers_anchors, area_small}

module _ (s v : List ℕ) (g H : ℕ) (w : WellFormed s v g H) where
  -- one turn of a fold
  pub fold_on : {S : Type 0} (seg : S → ℕ → ℕ → S) (i : ℕ) (x z : S) → x ≡ segments seg (get_or s 0 0 + H) (drop i (anchors s v g)) z → i < g
      → (d : ℕ) → d ≡ next_start s g (get_or s 0 0 + H) i - get_or s i 0 → (y : S) → y ≡ seg z d (get_or v i 0)
      → x ≡ segments seg (get_or s 0 0 + H) (drop (i + 1) (anchors s v g)) y
  fold_on seg i x z inv h d e y k = rw (k, e) (inv ∙ segments_at s v g w.fits (omega arith) seg (get_or s 0 0 + H) i z h)

  -- the end
  pub fold_end : {S : Type 0} (seg : S → ℕ → ℕ → S) (i : ℕ) (x z : S) → x ≡ segments seg (get_or s 0 0 + H) (drop i (anchors s v g)) z → i ≡ g → z ≡ x
  fold_end seg i x z inv h = sym (inv ∙ segments_end seg s v g (get_or s 0 0 + H) i z h)

  pub first : first_start (anchors s v g) ≡ get_or s 0 0
  first = first_at s v g w.fits (omega arith) w.some

  -- the state of `gather` where its loop begins
  abbrev Whole : Gathered
  Whole = segments with_anchor (get_or s 0 0 + H) (anchors s v g) (gathered 0 (get_or v 0 0) 0)

  whole : gathering (first_start (anchors s v g) + H) (anchors s v g) ≡ Whole
  whole =
      let e : first_latency (anchors s v g) ≡ get_or v 0 0 = rw (anchors_first s v g w.fits (omega arith) w.some) in
      rw (first, e)

  -- a scan on the way of a round has no run longer than two hyperperiods
  pub round_small : (B i : ℕ) (z t : Scan) → z.run ≤ z.best → z.best ≤ hyper_limit
      → segments (stretch B) (get_or s 0 0 + H) (anchors s v g) z ≡ segments (stretch B) (get_or s 0 0 + H) (drop i (anchors s v g)) t → t.best ≤ 2 * hyper_limit
  round_small B i z t h k inv =
      let b = rw first at (round_bounded B H (anchors s v g) (well_formed_laws s v g H w) z.best z (h, omega arith)) in
      omega (arith, best_grows B (get_or s 0 0 + H) (drop i (anchors s v g)) t, ap (λ (n : Scan). n.best) inv, b.1, w.hyper.1)

  pub gather_small : (i : ℕ) (m : Gathered) → Whole ≡ segments with_anchor (get_or s 0 0 + H) (drop i (anchors s v g)) m → m.area ≤ hyper_limit * (2 * latency_limit)
  gather_small i m inv =
      let k : m.area ≤ H * (2 * latency_limit)
      = area_small H (anchors s v g) (drop i (anchors s v g)) m (well_formed_laws s v g H w) (greatest_small s v g H w) (rw first (rw first at whole ∙ inv)) in
      omega (arith, w.hyper.1)

  pub gather_end : (m : Gathered) → m ≡ Whole → Gathers H (anchors s v g) m
  gather_end m e = rw (e, ← whole) (gathers_anchors H (anchors s v g) (well_formed_laws s v g H w))
