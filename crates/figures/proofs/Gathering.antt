-- Greatest, low and twice the area under the delay, gathered in one pass over the anchors.
use Rattle.std.specs.Prelude.{◌≡◌, refl, List, [], ◌∷◌, ℕ, ◌+◌, ◌-◌, ◌*◌, ◌≤◌, min, max}
use Rattle.std.proofs.Common.{sym, ap, ◌∙◌, arith}
use Rattle.figures.specs.declared.Gathered.{Gathered}
use Rattle.table.specs.Anchors.{Anchor, first_start, distance}
use Rattle.table.specs.WellFormed.{latency_limit}
use Rattle.table.specs.Figures.{greatest, low_to, low}
use Rattle.table.specs.Segments.{Formed}
use Rattle.figures.specs.ByAnchors.{segments}
use Rattle.figures.specs.Area.{add_area}
use Rattle.figures.proofs.Area.{area_anchors, area_bound}
use Rattle.figures.specs.Gathering.{gathered, with_anchor, Gathers, first_latency, gathering}

abbrev least : ℕ → ℕ → ℕ → ℕ
least z d v = min z (v - d)

-- the pass gathers each figure by itself
apart : (limit : ℕ) (l : List Anchor) (m : Gathered)
    → segments with_anchor limit l m ≡ gathered (max m.greatest (greatest l)) (segments least limit l m.low) (segments add_area limit l m.area)
unfolding segments greatest
apart limit [] m = ap (λ (n : ℕ). gathered n m.low m.area) (omega arith)
apart limit (x ∷ l) m =
    let d : ℕ = distance limit x l in
    apart limit l (with_anchor m d x.latency)
    ∙ ap (λ (n : ℕ). gathered n (segments least limit l (least m.low d x.latency)) (segments add_area limit l (add_area m.area d x.latency))) (omega arith)

low_from : (limit : ℕ) (x : Anchor) (l : List Anchor) (z : ℕ) → segments least limit (x ∷ l) z ≡ min z (low_to limit x l)
unfolding segments low_to
low_from limit x [] z = refl
low_from limit x (y ∷ l) z = low_from limit y l (min z (x.latency - distance limit x (y ∷ l))) ∙ omega arith

-- low is below the first latency
low_first : (limit : ℕ) (x : Anchor) (l : List Anchor) → min x.latency (low_to limit x l) ≡ low_to limit x l
unfolding low_to
low_first limit x [] = omega arith
low_first limit x (y ∷ l) = omega arith

-- and gathers the three figures
pub gathers_anchors : (H : ℕ) (l : List Anchor) → Formed H l → Gathers H l (gathering (first_start l + H) l)
unfolding low
gathers_anchors H l f = record {
  most = ap (λ (n : Gathered). n.greatest) parts ∙ omega arith;
  least = ap (λ (n : Gathered). n.low) parts ∙ lowest;
  all = ap (λ (n : Gathered). n.area) parts ∙ sym (area_anchors H l f);
}
  where
    parts : gathering (first_start l + H) l ≡ gathered (max 0 (greatest l)) (segments least (first_start l + H) l (first_latency l)) (segments add_area (first_start l + H) l 0)
    parts = apart (first_start l + H) l (gathered 0 (first_latency l) 0)

    lowest : segments least (first_start l + H) l (first_latency l) ≡ low H l
    lowest = rw f.whole (low_from (f.head.start + H) f.head f.tail f.head.latency ∙ low_first (f.head.start + H) f.head f.tail)

-- the area only grows on the way, and ends at most at H times twice the greatest latency that may be
grows : (limit : ℕ) (l : List Anchor) (m : Gathered) → m.area ≤ (segments with_anchor limit l m).area
unfolding segments
grows limit [] m = omega arith
grows limit (x ∷ l) m =
    let d : ℕ = distance limit x l in
    omega (arith, grows limit l (with_anchor m d x.latency))

pub area_small : (H : ℕ) (l rest : List Anchor) (m : Gathered) → Formed H l → greatest l ≤ latency_limit
    → gathering (first_start l + H) l ≡ segments with_anchor (first_start l + H) rest m → m.area ≤ H * (2 * latency_limit)
area_small H l rest m f k e =
    omega (arith, grows (first_start l + H) rest m, ap (λ (n : Gathered). n.area) e, (gathers_anchors H l f).all, area_bound H l f k)
