-- The schedule file of a made-up chain: a task for each place, numbered 1 to places, and one chain of them.
use Rattle.std.specs.Prelude.{ℕ, suc, List, [], ◌∷◌}
use Rattle.task.specs.declared.Task.{Task}
use Rattle.chain.specs.declared.Chain.{Chain}
use Rattle.chain.specs.Chains.{given_of}
use Rattle.ranges.specs.Entries.{entries}
use Rattle.schedule.specs.declared.NumberedTask.{NumberedTask}
use Rattle.schedule.specs.declared.Schedule.{Schedule}
use Rattle.schedule.specs.Schedules.{schedule_of}
use Rattle.file_writer.specs.FileBytes.{file_bytes}
use Rattle.load.specs.Load.{loaded}

-- Tasks with the numbers n, n + 1 and so on.
unfoldable pub numbered_from : ℕ → List Task → List NumberedTask
numbered_from n [] = []
numbered_from n (a ∷ l) = record { number = n; task = a } ∷ numbered_from (suc n) l

-- The numbers from n on, so many of them; and those from 1 to places.
abbrev pub numbers_from : ℕ → ℕ → List ℕ
numbers_from n k = entries (λ i. i) n k

abbrev pub numbers_to : ℕ → List ℕ
numbers_to places = numbers_from 1 places

-- The schedule of a chain alone.
abbrev pub alone_of : Chain → Schedule
alone_of c = schedule_of (numbered_from 1 (given_of c)) (numbers_to c.places ∷ []) c.gap

-- The file of the chain that a seed and a number of places make.
abbrev pub file_of_load : ℕ → ℕ → List ℕ
file_of_load seed places = file_bytes (alone_of (loaded seed places))
