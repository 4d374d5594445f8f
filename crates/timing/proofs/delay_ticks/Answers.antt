use native.Mathlib.Omega.{arith}
use Rattle.chain.specs.Flat.{in_last}
use Rattle.timing.proofs.Whole.{some_place, last_inside, last_place_small, press_small, end_small, end_after, delay_is}
use Rattle.timing.proofs.delay_ticks.Goals as goal

pub overflow_sub-n : goal.overflow_sub-n
overflow_sub-n c = some_place _ _ c.requires.0

pub forward_on-k-requires : goal.forward_on-k-requires
forward_on-k-requires c =
    let s = c.before in
    let k = s.requires.0 in
    (k, omega arith, last_inside _ _ k, press_small _ k _ s.requires.1 _ c.task_at-first.ensures _ c.earliest_after-j.ensures)

pub task_at-last-requires : goal.task_at-last-requires
task_at-last-requires c = let k = c.requires.0 in (last_inside _ _ k, last_place_small _ _ k)

pub write-end-requires : goal.write-end-requires
write-end-requires c =
    let s = c.before in
    end_small _ s.requires.0 _ s.requires.1 _ c.task_at-first.ensures _ c.earliest_after-j.ensures _ (in_last s.args.gap s.args.tasks.now) _ c.task_at-last.ensures _ c.forward_on-k.ensures

pub overflow_sub-result : goal.overflow_sub-result
overflow_sub-result c =
    let s = c.before in
    end_after _ s.requires.0 _ s.requires.1 _ c.task_at-first.ensures _ c.earliest_after-j.ensures _ (in_last s.args.gap s.args.tasks.now) _ c.task_at-last.ensures _ c.forward_on-k.ensures _ c.write-end.ensures

pub returns : goal.returns
returns c =
    let s = c.before in
    delay_is _ s.requires.0 _ s.requires.1 _ c.task_at-first.ensures _ c.earliest_after-j.ensures _ (in_last s.args.gap s.args.tasks.now) _ c.task_at-last.ensures _ c.forward_on-k.ensures _ c.write-end.ensures
