-- A chain as C gives it: the flat list T, D, F, T, D, F, .. of its tasks, the number of places, and the gap of its links.
use Rattle.std.specs.Prelude.{ℕ, ◌+◌, ◌*◌, ◌/◌, ◌%◌, cond, ◌&&◌, List, leb, eqb, length, get_or}
use Rattle.task.specs.declared.Task.{Task}
use Rattle.chain.specs.declared.Chain.{Chain}
use Rattle.ranges.specs.Entries.{entries}

-- Task i of the list, zeros where the list does not hold it whole.
unfoldable pub task_at : List ℕ → ℕ → Task
task_at l i =
    cond (leb (3 * i + 3) (length l))
    (record { period = get_or l (3 * i) 0; duration = get_or l (3 * i + 1) 0; phase = get_or l (3 * i + 2) 0 })
    (record { period = 0; duration = 0; phase = 0 })

-- A list whose length is no multiple of three, or that holds fewer tasks than there are places, gives a chain of no places, which is refused with 8.
unfoldable pub places_of : ℕ → ℕ → ℕ
places_of length places = cond (eqb (length % 3) 0 && leb places (length / 3)) places 0

-- The chain of a list, a number of places and a gap.
unfoldable pub chain_from : List ℕ → ℕ → ℕ → Chain
chain_from l places gap = record { tasks = entries (task_at l) 0 12; places = places_of (length l) places; gap = gap }
