-- Document 01, "Figures of a table": greatest latency and low, which bound every delay. The other figures and what the calls answer are
-- in the crate `figures`.
use Rattle.std.specs.Prelude.{List, [], ◌∷◌, ℕ, ◌+◌, ◌-◌, min, max}
use Rattle.table.specs.Anchors.{Anchor, distance}

-- Greatest latency: the largest of the latencies.
unfoldable pub greatest : List Anchor → ℕ
greatest [] = 0
greatest (x ∷ l) = max x.latency (greatest l)

-- Low: the least of latency less distance to the next start; the last anchor's next start is `limit`.
unfoldable pub low_to : ℕ → Anchor → List Anchor → ℕ
low_to limit x [] = x.latency - distance limit x []
low_to limit x (y ∷ l) = min (x.latency - distance limit x (y ∷ l)) (low_to limit y l)

unfoldable pub low : ℕ → List Anchor → ℕ
low H [] = 0
low H (x ∷ l) = low_to (x.start + H) x l
