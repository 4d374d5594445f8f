-- How making gives its answer to C, as plain numbers.
use Rattle.std.specs.Prelude.{ℕ, ◌≡◌, List, [], ◌∷◌, length, Err, Ok, Result}
use Rattle.maker.specs.declared.Unmade.TheVariants.{Refused, Short}
use Rattle.maker.specs.declared.Unmade.{Unmade}
use Rattle.refusal.specs.Refusals.{code_of}
use Rattle.chain.specs.declared.Chain.{Chain}
use Rattle.maker.specs.Making.{made_of, written_of, starts_of, latencies_of, overlay}
use Rattle.maker.specs.declared.Figures.{Figures}

-- The code: 0 for a whole table, 11 where the lists were too short, else the refusal's number and 256 times its place.
abbrev pub made_code : Result Figures Unmade → ℕ
made_code (Ok f) = 0
made_code (Err (Short f)) = 11
made_code (Err (Refused r)) = code_of r

-- g, x0, H and the number of partitions walked, also under 11; zeros under another refusal.
abbrev pub figure_numbers : Figures → List ℕ
figure_numbers f = f.anchors ∷ f.tick.0 ∷ f.hyperperiod ∷ f.walked ∷ []

abbrev pub made_numbers : Result Figures Unmade → List ℕ
made_numbers (Ok f) = figure_numbers f
made_numbers (Err (Short f)) = figure_numbers f
made_numbers (Err (Refused r)) = 0 ∷ 0 ∷ 0 ∷ 0 ∷ []

-- Making as C gets it: the code, the two lists, and the four numbers.
pub record GivesTable (c : Chain) (p : ℕ) (starts latencies : List ℕ) (code : ℕ) (starts' latencies' figures : List ℕ) : Type 0 where
  pub answers : code ≡ made_code (made_of c p (length starts) (length latencies))
  pub gives_figures : figures ≡ made_numbers (made_of c p (length starts) (length latencies))
  pub leaves_starts : starts' ≡ overlay (starts_of (written_of c p (length starts) (length latencies))) starts
  pub leaves_latencies : latencies' ≡ overlay (latencies_of (written_of c p (length starts) (length latencies))) latencies
