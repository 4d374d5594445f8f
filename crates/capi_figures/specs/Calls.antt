-- How the calls for C give a table's figures: for each answer the numbers that C gets, first the call's code, 0 for a success, then the
-- numbers lent to it in their order, all 0 beside a refusal.
use Rattle.std.specs.Prelude.{ℕ, ◌≡◌, List, [], ◌∷◌, Err, Ok, Result}
use Rattle.figures.specs.declared.Exceedance.TheVariants.{Endless, Run}
use Rattle.refusal.specs.declared.Refusal.{Refusal}
use Rattle.figures.specs.declared.Throughput.{Throughput}
use Rattle.figures.specs.declared.Mean.{Mean}
use Rattle.figures.specs.declared.Exceedance.{Exceedance}
use Rattle.refusal.specs.Refusals.{code_of}
use Rattle.figures.specs.Figures.{greatest_of, mean_of}

-- The greatest latency.
abbrev pub greatest_numbers : Result ℕ Refusal → List ℕ
greatest_numbers (Ok v) = 0 ∷ v ∷ []
greatest_numbers (Err r) = code_of r ∷ 0 ∷ []

-- The call: its code and the latency.
abbrev pub GivesGreatest : List ℕ → List ℕ → ℕ → ℕ → ℕ → ℕ → Type 0
GivesGreatest starts latencies g h code latency = (code ∷ latency ∷ []) ≡ greatest_numbers (greatest_of starts latencies g h)

-- Low.
abbrev pub low_numbers : Result ℕ Refusal → List ℕ
low_numbers (Ok v) = 0 ∷ v ∷ []
low_numbers (Err r) = code_of r ∷ 0 ∷ []

-- Mean by area, order 3 of document 02: its two numbers.
abbrev pub mean_numbers : Result Mean Refusal → List ℕ
mean_numbers (Ok m) = 0 ∷ m.doubled_area ∷ m.doubled_ticks ∷ []
mean_numbers (Err r) = code_of r ∷ 0 ∷ 0 ∷ []

-- The call: its code and the two numbers.
abbrev pub GivesMean : List ℕ → List ℕ → ℕ → ℕ → ℕ → ℕ → ℕ → Type 0
GivesMean starts latencies g h code area ticks = (code ∷ area ∷ ticks ∷ []) ≡ mean_numbers (mean_of starts latencies g h)

-- The anchors, and H.
abbrev pub throughput_numbers : Result Throughput Refusal → List ℕ
throughput_numbers (Ok t) = 0 ∷ t.anchors ∷ t.ticks ∷ []
throughput_numbers (Err r) = code_of r ∷ 0 ∷ 0 ∷ []

-- The longest run, and whether it is endless. Beside `endless` the run is 0.
abbrev pub exceedance_numbers : Result Exceedance Refusal → List ℕ
exceedance_numbers (Ok (Run n)) = 0 ∷ n ∷ 0 ∷ []
exceedance_numbers (Ok Endless) = 0 ∷ 0 ∷ 1 ∷ []
exceedance_numbers (Err r) = code_of r ∷ 0 ∷ 0 ∷ []
