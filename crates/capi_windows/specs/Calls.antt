-- How windows of jobs give their answer to C, as plain numbers.
use Rattle.std.specs.Prelude.{ℕ, ◌≡◌, List, [], ◌∷◌, Err, Result, Ok}
use Rattle.windows.specs.declared.Windows.{Windows}
use Rattle.refusal.specs.declared.Refusal.{Refusal}
use Rattle.refusal.specs.Refusals.{code_of}
use Rattle.chain.specs.declared.Chain.{Chain}
use Rattle.windows.specs.Windows.{windows_of}

-- The code, 0 for a success, else the refusal's number and 256 times its place; the number of misses; the first job. A refusal has 0 in both.
abbrev pub window_numbers : Result Windows Refusal → List ℕ
window_numbers (Ok w) = 0 ∷ w.most ∷ w.first.0 ∷ []
window_numbers (Err r) = code_of r ∷ 0 ∷ 0 ∷ []

-- The code and the two numbers lent.
abbrev pub GivesWindows : Chain → ℕ → ℕ → ℕ → ℕ → ℕ → Type 0
GivesWindows c B k code misses first = (code ∷ misses ∷ first ∷ []) ≡ window_numbers (windows_of c B k)
