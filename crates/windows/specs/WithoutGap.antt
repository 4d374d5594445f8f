-- Order 5: with a gap of 0 every job misses as before: the forward end of a job less its own read, as document 01 alone has it, on the tasks that are given.
use Rattle.std.specs.Prelude.{ℕ, ◌-◌, ◌≤◌, ◌≡◌, List, length}
use Rattle.std.proofs.Common.{ap, ◌∙◌}
use Rattle.task.specs.declared.Task.{Task}
use Rattle.task.specs.declared.Place.{Place}
use Rattle.task.specs.Jobs.{read_of, write_of}
use Rattle.chain.specs.Chains.{placed, at, walk}
use Rattle.chain.specs.Placed.{at_placed}
use Rattle.chain.specs.WithoutGap.{task_at, read_plain, write_plain, forward_way}
use Rattle.timing.specs.WithoutGap.{last, last_place_holds, walk_without}
use Rattle.windows.specs.Windows.{span_of}

pub span_without : (l : List Task) → 1 ≤ length l → (j : ℕ) → span_of (placed 0 l) j ≡ write_plain (task_at l (last l)) (forward_way l 0 (last l) j) - read_plain (task_at l 0) j
unfolding span_of
span_without l some j =
    ap (λ (a : Place). write_of a (walk (placed 0 l) j) - read_of (at (placed 0 l) 0) j) (last_place_holds l some)
    ∙ ap (λ (a : Place). write_plain (task_at l (last l)) (walk (placed 0 l) j) - read_of a j) (at_placed 0 l 0 some)
    ∙ ap (λ (k : ℕ). write_plain (task_at l (last l)) k - read_plain (task_at l 0) j) (walk_without l some j)
