-- Greatest, low and twice the area under the delay, gathered in one pass over the anchors.
use Rattle.std.specs.Prelude.{◌≡◌, List, [], ◌∷◌, ℕ, ◌-◌, min, max}
use Rattle.figures.specs.declared.Gathered.{Gathered}
use Rattle.table.specs.Anchors.{Anchor}
use Rattle.table.specs.Figures.{greatest, low}
use Rattle.figures.specs.Figures.{doubled_area}
use Rattle.figures.specs.ByAnchors.{segments}
use Rattle.figures.specs.Area.{add_area}

abbrev pub gathered : ℕ → ℕ → ℕ → Gathered
gathered a b c = record { greatest = a; low = b; area = c }

-- one anchor with latency v over d ticks
abbrev pub with_anchor : Gathered → ℕ → ℕ → Gathered
with_anchor m d v = gathered (max m.greatest v) (min m.low (v - d)) (add_area m.area d v)

-- the three figures of a table
pub record Gathers (H : ℕ) (l : List Anchor) (m : Gathered) : Type 0 where
  pub most : m.greatest ≡ greatest l
  pub least : m.low ≡ low H l
  pub all : m.area ≡ doubled_area H l

-- the first latency
abbrev pub first_latency : List Anchor → ℕ
first_latency [] = 0
first_latency (x ∷ l) = x.latency

-- the pass begins with 0, the first latency and 0
abbrev pub gathering : ℕ → List Anchor → Gathered
gathering limit l = segments with_anchor limit l (gathered 0 (first_latency l) 0)
