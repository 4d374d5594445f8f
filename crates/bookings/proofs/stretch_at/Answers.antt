use native.Mathlib.Omega.{arith}
use mathlib.Core.Path.{◌≡◌, ap, ◌∙◌}
use Prim.Native.Nat.{◌-◌, ◌/◌}
use lib.ListN.{length}
use Rattle.chain.specs.Chains.{backward_by, job_of}
use Rattle.chain.specs.Flat.{tasks_in, in_last}
use Rattle.timing.proofs.Whole.{last_inside, press_small, end_small}
use Rattle.bookings.proofs.Whole.{back_small, until_small, stretch_is}
use Rattle.bookings.proofs.stretch_at.Goals as goal
use Rattle.bookings.proofs.stretch_at.Goals.{After-job_of-j}

-- the job of the first place to which the way back comes
home : (c : After-job_of-j) → c.job_of-j.result.0 ≡ job_of (backward_by (tasks_in c.args.gap c.args.tasks.now) 0 (length c.args.tasks.now / 3 - 1 - 0) c.forward_on-k.result.0)
home c = c.job_of-j.ensures ∙ ap job_of c.backward_on.ensures

pub forward_on-k-requires : goal.forward_on-k-requires
forward_on-k-requires c =
    let s = c.before in
    let k = s.requires.0 in
    (k, omega arith, last_inside _ _ k, press_small _ k _ s.requires.1 _ c.task_at-first.ensures _ c.earliest_after-i.ensures)

pub write-booking-requires : goal.write-booking-requires
write-booking-requires c =
    let s = c.before in
    end_small _ s.requires.0 _ s.requires.1 _ c.task_at-first.ensures _ c.earliest_after-i.ensures _ (in_last s.args.gap s.args.tasks.now) _ c.task_at-last.ensures _ c.forward_on-k.ensures

pub backward_on-requires : goal.backward_on-requires
backward_on-requires c =
    let s = c.before in
    let k = s.requires.0 in
    (k, omega arith, last_inside _ _ k, back_small _ k _ s.requires.1 _ c.task_at-first.ensures _ c.earliest_after-i.ensures _ (in_last s.args.gap s.args.tasks.now) _ c.forward_on-k.ensures)

pub read-until-requires : goal.read-until-requires
read-until-requires c =
    let s = c.before in
    until_small _ s.requires.0 _ s.requires.1 _ c.task_at-first.ensures _ c.earliest_after-i.ensures _ (in_last s.args.gap s.args.tasks.now) _ c.forward_on-k.ensures _ (home c)

pub returns : goal.returns
returns c =
    let s = c.before in
    stretch_is _ s.requires.0 _ s.requires.1 _ c.task_at-first.ensures _ c.earliest_after-i.ensures _ (in_last s.args.gap s.args.tasks.now) _ c.forward_on-k.ensures _ (home (goal.at.returns c).After-job_of-j) _ c.task_at-last.ensures _ c.write-booking.ensures c.read-until.ensures
