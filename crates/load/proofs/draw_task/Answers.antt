use Rattle.load.proofs.Exits.{some_period, placed}
use Rattle.load.proofs.draw_task.Goals as goal

pub nonzero_rem-task : goal.nonzero_rem-task
nonzero_rem-task c = some_period _ _ c.period_of-period.ensures

pub returns : goal.returns
returns c =
    placed c.args.s c.next_draw-first.result c.next_draw-second.result c.period_of-period.result
    c.next_draw-first.ensures c.period_of-period.ensures c.next_draw-second.ensures
