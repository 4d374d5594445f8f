use native.Mathlib.Omega.{arith}
use Rattle.chain.specs.Flat.{tasks_in, in_count, in_last}
use Rattle.windows.proofs.Ends.{read_small, end_small, read_first, flagged}
use Rattle.std.proofs.Common.{◌∙◌}
use Rattle.windows.proofs.missed.Goals as goal

pub overflow_sub-n : goal.overflow_sub-n
overflow_sub-n c = let s = c.before in omega (arith, in_count s.args.gap s.args.tasks.now, s.requires.0.some)

pub task_at-first-requires : goal.task_at-first-requires
task_at-first-requires c = let s = c.before in (s.requires.0.some, omega arith)

pub read-start-requires : goal.read-start-requires
read-start-requires c = let s = c.before in read_small (tasks_in s.args.gap s.args.tasks.now) s.requires.0 s.args.j.0 s.requires.1 _ c.task_at-first.ensures

pub forward_on-k-requires : goal.forward_on-k-requires
forward_on-k-requires c =
    let s = c.before in
    (s.requires.0, omega arith, omega (arith, in_count s.args.gap s.args.tasks.now, s.requires.0.some), omega (arith, s.requires.1))

pub task_at-last-requires : goal.task_at-last-requires
task_at-last-requires c =
    let s = c.before in
    let e = in_count s.args.gap s.args.tasks.now in
    (omega (arith, e, s.requires.0.some), omega (arith, e, s.requires.0.few))

pub write-end-requires : goal.write-end-requires
write-end-requires c =
    let s = c.before in
    end_small (tasks_in s.args.gap s.args.tasks.now) s.requires.0 s.args.j.0 s.requires.1 _ c.task_at-first.ensures _ _ _ (in_last s.args.gap s.args.tasks.now) c.task_at-last.ensures c.forward_on-k.ensures

pub overflow_sub-end : goal.overflow_sub-end
overflow_sub-end c =
    let w = c.before in
    let r = w.before in
    let s = r.before in
    read_first (tasks_in s.args.gap s.args.tasks.now) s.requires.0 s.args.j.0 s.requires.1 _ r.task_at-first.ensures _ _ _ (in_last s.args.gap s.args.tasks.now) w.task_at-last.ensures w.forward_on-k.ensures _ _ r.read-start.ensures w.write-end.ensures

pub returns : goal.returns
returns c =
    let w = c.before in
    let r = w.before in
    let s = r.before in
    c.from.ensures ∙ flagged (tasks_in s.args.gap s.args.tasks.now) s.requires.0 s.args.j.0 s.requires.1 _ r.task_at-first.ensures _ _ _ (in_last s.args.gap s.args.tasks.now) w.task_at-last.ensures w.forward_on-k.ensures _ _ r.read-start.ensures w.write-end.ensures _
