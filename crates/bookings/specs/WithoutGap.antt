-- Order 5: with a gap of 0 every press is booked as before: the last write of the forward walk, as the documents have it without a gap, on the tasks that are given.
use Rattle.std.specs.Prelude.{ℕ, ◌+◌, ◌≤◌, ◌≡◌, List, length}
use Rattle.std.proofs.Common.{ap, ◌∙◌}
use Rattle.task.specs.declared.Task.{Task}
use Rattle.task.specs.declared.Place.{Place}
use Rattle.task.specs.Jobs.{place_of, write_of}
use Rattle.task.specs.Links.{earliest_from, earliest_after}
use Rattle.chain.specs.Chains.{placed, at, walk}
use Rattle.chain.specs.Placed.{at_placed}
use Rattle.chain.specs.WithoutGap.{task_at, write_plain, earliest_plain, forward_way}
use Rattle.timing.specs.WithoutGap.{last, last_place_holds, walk_without}
use Rattle.bookings.specs.Bookings.{booking_at}

pub booking_without : (l : List Task) → 1 ≤ length l → (t : ℕ) → booking_at (placed 0 l) t ≡ write_plain (task_at l (last l)) (forward_way l 0 (last l) (earliest_plain (task_at l 0) (t + 1)))
unfolding booking_at earliest_from
booking_without l some t =
    ap (λ (a : Place). write_of a (walk (placed 0 l) (earliest_after (at (placed 0 l) 0) t))) (last_place_holds l some)
    ∙ ap (λ (a : Place). write_plain (task_at l (last l)) (walk (placed 0 l) (earliest_after a t))) (at_placed 0 l 0 some)
    ∙ ap (write_plain (task_at l (last l))) (walk_without l some (earliest_after (place_of 0 (task_at l 0)) t))
