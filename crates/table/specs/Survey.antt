-- Document 01, "Survey examples": what chain A's table answers at a tick, computed from the definitions. The lists have a third entry, which is no
-- part of the table.
use Rattle.std.specs.Prelude.{◌≡◌, refl, true, false, List, [], ◌∷◌, map, ℕ, Err, Ok}
use Rattle.refusal.specs.Refusals.{refusal}
use Rattle.table.specs.Anchors.{anchors}
use Rattle.table.specs.WellFormed.{spaced, well_formed}
use Rattle.table.specs.Reading.{last_at, delay_at, reading}

abbrev pub starts : List ℕ
starts = 0 ∷ 8 ∷ 4 ∷ []

abbrev pub latencies : List ℕ
latencies = 18 ∷ 16 ∷ 0 ∷ []

-- well-formed with 2 anchors; not with none, 3 or 4
with_anchors : map (λ (g : ℕ). well_formed starts latencies g 12) (2 ∷ 0 ∷ 3 ∷ 4 ∷ []) ≡ true ∷ false ∷ false ∷ false ∷ []
unfolding well_formed spaced anchors
with_anchors = refl

-- well-formed with H from 9 to 23
with_hyper : map (well_formed starts latencies 2) (8 ∷ 9 ∷ 23 ∷ 24 ∷ 60000001 ∷ []) ≡ false ∷ true ∷ true ∷ false ∷ false ∷ []
unfolding well_formed spaced anchors
with_hyper = refl

-- A4, and the upper tick: 10^12 leaves the remainder 4
delays : map (reading starts latencies 2 12) (0 ∷ 7 ∷ 8 ∷ 11 ∷ 12 ∷ 1000000000000 ∷ [])
    ≡ map Ok (18 ∷ 11 ∷ 16 ∷ 13 ∷ 18 ∷ 14 ∷ [])
unfolding reading well_formed spaced anchors delay_at last_at
delays = refl

-- 14 before 12, then 12, then 13
refusals : (reading starts latencies 3 12 0 ∷ reading (4 ∷ []) (18 ∷ []) 1 12 3 ∷ reading starts latencies 2 12 1000000000001 ∷ [])
    ≡ map (λ (n : ℕ). Err (refusal n 0)) (14 ∷ 12 ∷ 13 ∷ [])
unfolding reading well_formed spaced anchors
refusals = refl
