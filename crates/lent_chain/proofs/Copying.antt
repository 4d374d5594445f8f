-- The first twelve tasks of a lent list are copied one at a time into zeros.
use Rattle.std.specs.Prelude.{◌≡◌, ℕ, ◌+◌, ◌<◌, min, List, length, take, get_or, set}
use Rattle.std.proofs.Common.{sym, ap, ◌∙◌, arith, length-take-le}
use Rattle.std.proofs.lemmas.List.{take_more, take_min}
use Rattle.task.specs.declared.Task.{Task}
use Rattle.chain.specs.Chains.{zero_task}
use Rattle.schedule.specs.Schedules.{padded}
use Rattle.schedule.specs.Padding.{padded_set}

-- the first k tasks of the list, and zeros past them
abbrev pub copied : ℕ → List Task → List Task
copied k ts = padded 12 zero_task (take k ts)

-- one task more,
pub copied_next : (ts : List Task) (i : ℕ) → i < length ts → i < 12 → set (copied i ts) i (get_or ts i zero_task) ≡ copied (i + 1) ts
copied_next ts i h k =
    padded_set zero_task 12 (take i ts) i (get_or ts i zero_task) (length-take-le i ts (omega arith)) k
    ∙ ap (padded 12 zero_task) (sym (take_more ts i zero_task h))

-- and all.
pub copied_all : (ts : List Task) (k : ℕ) → k ≡ min (length ts) 12 → copied k ts ≡ copied 12 ts
copied_all ts k e = let s : k ≡ min 12 (length ts) = omega arith in rw s (ap (padded 12 zero_task) (take_min 12 ts))
