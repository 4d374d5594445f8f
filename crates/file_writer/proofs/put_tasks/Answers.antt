use Rattle.std.proofs.Common.{◌*◌, ◌∙◌, sym, get_or}
use Rattle.schedule.specs.Schedules.{zero_numbered}
use Rattle.file_writer.specs.FileBytes.{task_bytes}
use Rattle.file_writer.proofs.Stores.{run_long, tasks_turn, tasks_end}
use Rattle.file_writer.proofs.put_tasks.Goals as goal

pub loop-i-preserved : goal.loop-i-preserved
loop-i-preserved c =
    let l = c.loop-i in
    let ts = c.args.tasks.now in
    let put = c.put_task.ensures in
    (run_long l.out _ (18 * l.i) _ (task_bytes (get_or ts l.i zero_numbered)) put l.invariant.0, l.invariant.1 ∙ tasks_turn l.out _ ts l.i c.loop-i-test.true put)

pub returns : goal.returns
returns c =
    let l = c.loop-i in
    sym (l.invariant.1 ∙ tasks_end l.out c.args.tasks.now (18 * l.i) l.i c.loop-i-test.false)
