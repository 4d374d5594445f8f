-- How wide a line of an anchor is: the numbers of a well-formed table have few digits.
use Rattle.std.specs.Prelude.{ℕ, ◌≤◌, ◌<◌, ◌≡◌, refl, true, List, [], ◌∷◌, length, get_or}
use Rattle.std.proofs.Common.{arith, length-append}
use Rattle.table.specs.WellFormed.{well_formed}
use Rattle.table.specs.BothWays.{well}
use Rattle.text.specs.Text.{ascii, fields, line}
use Rattle.text.specs.Decimal.{tens, decimal_long}

-- The first g starts have at most 10 digits, the latencies at most 8.
abbrev pub FewDigits : List ℕ → List ℕ → ℕ → Type 0
FewDigits starts latencies g = (i : ℕ) → i < g → (get_or starts i 0 < 10000000000) × (get_or latencies i 0 < 100000000)

pub well_short : (s v : List ℕ) (g H : ℕ) → well_formed s v g H ≡ true → FewDigits s v g
well_short s v g H e i h = let w = well s v g H (well_formed s v g H) refl e in (omega (arith, w.first, w.hyper.1, w.below i h), omega (arith, w.latency i h))

pub anchor_short : (s v : ℕ) → s < 10000000000 → v < 100000000 → length (line (ascii "a") (s ∷ v ∷ [])) ≤ 22
unfolding line fields tens
anchor_short s v h k = simp length-append (omega (arith, decimal_long 10 s (omega arith) (omega arith), decimal_long 8 v (omega arith) (omega arith)))
