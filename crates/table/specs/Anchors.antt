-- Document 01, "Delay, age, partitions": an anchor is a start and a latency. A table is two lists of numbers, starts and latencies,
-- of which the first g entries are the anchors.
use Rattle.std.specs.Prelude.{List, [], ◌∷◌, ℕ, zero, suc, ◌-◌}

pub record Anchor : Type 0 where
  pub start : ℕ
  pub latency : ℕ

abbrev pub anchor : ℕ → ℕ → Anchor
anchor s v = record { start = s; latency = v }

-- The anchors: the first g entries of the two lists. What the lists hold from g on is no part of the table.
unfoldable pub anchors : List ℕ → List ℕ → ℕ → List Anchor
anchors starts latencies zero = []
anchors [] latencies (suc g) = []
anchors (s ∷ starts) [] (suc g) = []
anchors (s ∷ starts) (v ∷ latencies) (suc g) = anchor s v ∷ anchors starts latencies g

-- The first start.
abbrev pub first_start : List Anchor → ℕ
first_start [] = 0
first_start (x ∷ l) = x.start

-- The next start after an anchor that l follows: the start of l's first anchor, and `limit` (first start + H) after the last.
abbrev pub next : ℕ → List Anchor → ℕ
next limit [] = limit
next limit (y ∷ l) = y.start

-- The distance from x to the next start.
abbrev pub distance : ℕ → Anchor → List Anchor → ℕ
distance limit x l = next limit l - x.start
