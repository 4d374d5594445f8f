-- How the call for C gives a histogram: its code, 0 for a success, and the rest, which is 0 beside a refusal; and what it leaves in the lent list.
use Rattle.std.specs.Prelude.{ℕ, ◌≡◌, List, [], ◌∷◌, length, Err, Ok, Result}
use Rattle.refusal.specs.declared.Refusal.{Refusal}
use Rattle.refusal.specs.Refusals.{code_of}
use Rattle.histogram.specs.Histogram.{histogram_of, counts_of}

abbrev pub histogram_numbers : Result ℕ Refusal → List ℕ
histogram_numbers (Ok n) = 0 ∷ n ∷ []
histogram_numbers (Err r) = code_of r ∷ 0 ∷ []

-- The call gets `counts` and leaves `left` in its place.
pub record GivesHistogram (starts latencies : List ℕ) (g h width : ℕ) (counts left : List ℕ) (code rest : ℕ) : Type 0 where
  pub answers : (code ∷ rest ∷ []) ≡ histogram_numbers (histogram_of starts latencies g h width (length counts))
  pub leaves : left ≡ counts_of starts latencies g h width counts
