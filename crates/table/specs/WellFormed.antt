-- Document 01, "Reading a table", with order 5 of document 02: when a table is well-formed. `well_formed` computes it, `WellFormed` says it at length;
-- that the two agree is `well_formed_iff` in BothWays.
use Rattle.std.specs.Prelude.{◌≡◌, Bool, true, false, cond, List, [], ◌∷◌, ℕ, ◌+◌, ◌-◌, ◌≤◌, ◌<◌, leb, ltb, eqb, length, get_or}
use Rattle.table.specs.Anchors.{Anchor, anchors, first_start, next}

-- The most that H, a latency and the first start may be.
abbrev pub hyper_limit : ℕ
hyper_limit = 60000000

-- Order 5: a well-formed latency may reach 60,011,000, in every table.
abbrev pub latency_limit : ℕ
latency_limit = 60011000

abbrev pub first_start_limit : ℕ
first_start_limit = 1000000000

infixr 35 ◌and◌
abbrev pub ◌and◌ : Bool → Bool → Bool
true and b = b
false and b = false

-- An anchor stands before the next start; its latency is at most 60,011,000 and greater than the distance to the next start.
abbrev pub fitting : ℕ → ℕ → ℕ → Bool
fitting start next latency = ltb start next and leb latency latency_limit and ltb (next - start) latency

-- Each anchor fits. So starts rise strictly and stay below `limit`.
unfoldable pub spaced : ℕ → List Anchor → Bool
spaced limit [] = true
spaced limit (x ∷ l) = fitting x.start (next limit l) x.latency and spaced limit l

-- The lists are equally long, g is from 1 to their length, and H from 1 to 60,000,000.
abbrev pub measured : ℕ → ℕ → ℕ → ℕ → Bool
measured n m g H = eqb n m and leb 1 g and leb g n and leb 1 H and leb H hyper_limit

-- Well-formed: measured, the first start at most 1,000,000,000, and the anchors spaced up to first start + H.
unfoldable pub well_formed : List ℕ → List ℕ → ℕ → ℕ → Bool
well_formed starts latencies g H =
    measured (length starts) (length latencies) g H
    and leb (first_start (anchors starts latencies g)) first_start_limit
    and spaced (first_start (anchors starts latencies g) + H) (anchors starts latencies g)

-- The start after place i, and `limit` after the last place.
abbrev pub next_start : List ℕ → ℕ → ℕ → ℕ → ℕ
next_start starts g limit i = cond (ltb (i + 1) g) (get_or starts (i + 1) 0) limit

-- Well-formed, as the documents say it. Places count from 0.
pub record WellFormed (starts latencies : List ℕ) (g H : ℕ) : Type 0 where
  pub some : 1 ≤ g
  pub fits : g ≤ length starts
  pub equal : length starts ≡ length latencies
  pub hyper : (1 ≤ H) × (H ≤ hyper_limit)
  pub first : get_or starts 0 0 ≤ first_start_limit
  pub rising : (i : ℕ) → i + 1 < g → get_or starts i 0 < get_or starts (i + 1) 0
  pub below : (i : ℕ) → i < g → get_or starts i 0 < get_or starts 0 0 + H
  pub latency : (i : ℕ) → i < g → get_or latencies i 0 ≤ latency_limit
  pub distance : (i : ℕ) → i < g → next_start starts g (get_or starts 0 0 + H) i - get_or starts i 0 < get_or latencies i 0
