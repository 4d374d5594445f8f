-- How reading and writing a file, and choosing a chain, give their answers to C, as plain numbers.
use Rattle.std.specs.Prelude.{ℕ, ◌≡◌, List, [], ◌∷◌, replicate, length, Err, Ok, Result}
use Rattle.refusal.specs.declared.Refusal.{Refusal}
use Rattle.refusal.specs.Refusals.{code_of}
use Rattle.chain.specs.declared.Chain.{Chain}
use Rattle.chain.specs.Flat.{flat_chain}
use Rattle.schedule.specs.declared.Schedule.{Schedule}
use Rattle.schedule_checks.specs.Checks.{chosen_of}
use Rattle.file_writer.specs.FileBytes.{file_bytes}
use Rattle.file_writer.specs.Writing.{left_bytes, written_of}
use Rattle.capi_schedule.specs.FlatSchedule.{flat_tasks, flat_routes, route_counts}

-- A file that was read: the code, and the schedule as lists, counts and gap; zeros under a refusal.
abbrev pub read_code : Result Schedule Refusal → ℕ
read_code (Ok s) = 0
read_code (Err r) = code_of r

abbrev pub read_tasks : Result Schedule Refusal → List ℕ
read_tasks (Ok s) = flat_tasks s.tasks
read_tasks (Err r) = replicate 128 0

abbrev pub read_chains : Result Schedule Refusal → List ℕ
read_chains (Ok s) = flat_routes s.routes
read_chains (Err r) = replicate 48 0

abbrev pub read_places : Result Schedule Refusal → List ℕ
read_places (Ok s) = route_counts s.routes
read_places (Err r) = replicate 4 0

abbrev pub read_counts : Result Schedule Refusal → List ℕ
read_counts (Ok s) = s.count ∷ s.chains ∷ s.gap ∷ []
read_counts (Err r) = replicate 3 0

-- Reading as C gets it.
pub record GivesSchedule (f : Result Schedule Refusal) (code : ℕ) (tasks chains places counts : List ℕ) : Type 0 where
  pub answers : code ≡ read_code f
  pub gives_tasks : tasks ≡ read_tasks f
  pub gives_chains : chains ≡ read_chains f
  pub gives_places : places ≡ read_places f
  pub gives_counts : counts ≡ read_counts f

abbrev pub written_code : Result ℕ Refusal → ℕ
written_code (Ok n) = 0
written_code (Err r) = code_of r

abbrev pub written_length : Result ℕ Refusal → ℕ
written_length (Ok n) = n
written_length (Err r) = 0

-- Writing: the code, the lent bytes, and the file's length; 0 under a refusal.
pub record GivesFile (s : Schedule) (old : List ℕ) (code : ℕ) (new : List ℕ) (long : ℕ) : Type 0 where
  pub answers : code ≡ written_code (written_of s (length old))
  pub leaves : new ≡ left_bytes (written_of s (length old)) (file_bytes s) old
  pub gives_length : long ≡ written_length (written_of s (length old))

-- A chain that was chosen: the code, its tasks as a flat list, and its number of places; zeros under a refusal.
abbrev pub chosen_code : Result Chain Refusal → ℕ
chosen_code (Ok c) = 0
chosen_code (Err r) = code_of r

abbrev pub chosen_flat : Result Chain Refusal → List ℕ
chosen_flat (Ok c) = flat_chain c.tasks
chosen_flat (Err r) = replicate 36 0

abbrev pub chosen_places : Result Chain Refusal → ℕ
chosen_places (Ok c) = c.places
chosen_places (Err r) = 0

-- The chain with a number, as C gets it.
pub record GivesChain (s : Schedule) (number code : ℕ) (flat : List ℕ) (places : ℕ) : Type 0 where
  pub answers : code ≡ chosen_code (chosen_of s number)
  pub gives_flat : flat ≡ chosen_flat (chosen_of s number)
  pub gives_places : places ≡ chosen_places (chosen_of s number)
