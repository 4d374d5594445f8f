-- The sums of the differences that the anchors of a table leave are its entries, whatever the width; a width above every delay may stand for any greater one.
use Rattle.std.specs.Prelude.{ℕ, ◌+◌, min, List, replicate}
use Rattle.table.specs.Anchors.{Anchor, first_start}
use Rattle.table.specs.WellFormed.{latency_limit}
use Rattle.figures.specs.ByAnchors.{segments}
use Rattle.histogram.specs.Differences.{with_anchor}

-- one more than the greatest latency that a table may have: no delay reaches it
abbrev pub widest : ℕ
widest = latency_limit + 1

-- The differences of a table's entries, in a list of n of them.
abbrev pub differences : ℕ → ℕ → List Anchor → ℕ → List ℕ
differences width H l n = segments (with_anchor (min width widest)) (first_start l + H) l (replicate n 0)
