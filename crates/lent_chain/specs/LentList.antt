-- Document 01, "Making a table", with order 5 of document 02: the chain whose tasks are lent as a list of task records, with the gap of its links.
use Rattle.std.specs.Prelude.{ℕ, List, length, take, set, replicate}
use Rattle.task.specs.declared.Task.{Task}
use Rattle.chain.specs.declared.Chain.{Chain}
use Rattle.chain.specs.Chains.{zero_task}
use Rattle.schedule.specs.Schedules.{padded}

-- The chain of a lent list and a gap: its first twelve records, zeros past them, as many places as the list has records, and the gap.
-- So a list of no record or of more than twelve is refused with 8, as every chain of that many places is.
unfoldable pub chain_of_list : ℕ → List Task → Chain
chain_of_list g ts = record { tasks = padded 12 zero_task (take 12 ts); places = length ts; gap = g }

-- ---- how it is copied

-- A chain of n places and a gap with zeros for its tasks.
abbrev pub empty_chain : ℕ → ℕ → Chain
empty_chain n g = record { tasks = replicate 12 zero_task; places = n; gap = g }

-- A chain with task t at place i, counted from 0.
abbrev pub with_task : Chain → ℕ → Task → Chain
with_task c i t = record { tasks = set c.tasks i t; places = c.places; gap = c.gap }
