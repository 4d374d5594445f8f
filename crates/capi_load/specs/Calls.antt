-- How a made-up chain is given to C, as plain numbers.
use Rattle.std.specs.Prelude.{ℕ, ◌≡◌, List, replicate, Ok, Err, Result}
use Rattle.refusal.specs.declared.Refusal.{Refusal}
use Rattle.refusal.specs.Refusals.{code_of}
use Rattle.chain.specs.declared.Chain.{Chain}
use Rattle.chain.specs.Flat.{flat_chain}
use Rattle.load.specs.Load.{load_of}

-- The code: 0 for a success, else the refusal's number and 256 times its place.
abbrev pub load_code : Result Chain Refusal → ℕ
load_code (Ok c) = 0
load_code (Err r) = code_of r

-- T, D, F of each of the twelve places, zeros past the chain's; all 0 in a refusal.
abbrev pub load_numbers : Result Chain Refusal → List ℕ
load_numbers (Ok c) = flat_chain c.tasks
load_numbers (Err r) = replicate 36 0

pub record GivesLoad (seed places code : ℕ) (tasks : List ℕ) : Type 0 where
  pub answers : code ≡ load_code (load_of seed places)
  pub gives_tasks : tasks ≡ load_numbers (load_of seed places)
