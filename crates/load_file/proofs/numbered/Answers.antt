use Rattle.std.proofs.Common.{arith}
use Rattle.load_file.proofs.Filling.{zero_task_is, no_tasks, task_more}
use Rattle.load_file.proofs.numbered.Goals as goal

pub loop-i-init : goal.loop-i-init
loop-i-init c = let e = zero_task_is c.default-list.result c.default-list.ensures in rw e (no_tasks c.args.tasks)

pub loop-i-preserved : goal.loop-i-preserved
loop-i-preserved c =
    let l = c.loop-i in
    task_more c.args.tasks l.i l.list (omega (arith, c.well_formed.0.1.0.1)) (omega arith) l.invariant
