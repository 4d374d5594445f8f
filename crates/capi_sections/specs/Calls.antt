-- How the sections of a chain are given to C, as plain numbers.
use Rattle.std.specs.Prelude.{ℕ, ◌≡◌, List, replicate, Ok, Err, Result}
use Rattle.refusal.specs.declared.Refusal.{Refusal}
use Rattle.refusal.specs.Refusals.{code_of}
use Rattle.chain.specs.declared.Chain.{Chain}
use Rattle.sections.specs.declared.Sections.{Sections}
use Rattle.sections.specs.Sections.{sections_answer}

-- The code: 0 for a success, else the refusal's number and 256 times its place.
abbrev pub sections_code : Result Sections Refusal → ℕ
sections_code (Ok s) = 0
sections_code (Err r) = code_of r

-- The twelve entries of the latencies, the number of sections and the sum, all 0 in a refusal.
abbrev pub latency_numbers : Result Sections Refusal → List ℕ
latency_numbers (Ok s) = s.latencies
latency_numbers (Err r) = replicate 12 0

abbrev pub count_number : Result Sections Refusal → ℕ
count_number (Ok s) = s.count
count_number (Err r) = 0

abbrev pub sum_number : Result Sections Refusal → ℕ
sum_number (Ok s) = s.sum
sum_number (Err r) = 0

-- The sections as C gets them.
pub record GivesSections (c : Chain) (cuts : List ℕ) (code : ℕ) (latencies : List ℕ) (count sum : ℕ) : Type 0 where
  pub answers : code ≡ sections_code (sections_answer c cuts)
  pub gives_latencies : latencies ≡ latency_numbers (sections_answer c cuts)
  pub gives_count : count ≡ count_number (sections_answer c cuts)
  pub gives_sum : sum ≡ sum_number (sections_answer c cuts)
