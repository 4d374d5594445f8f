use Rattle.std.proofs.Common.{arith}
use Rattle.little_endian.proofs.Turns.{number_turn, power_turn}
use Rattle.little_endian.proofs.number_at.Goals as goal

pub loop-i-preserved : goal.loop-i-preserved
loop-i-preserved c =
    let l = c.loop-i in (
      number_turn c.args.list.now c.args.at c.args.width l.i l.x c.from.result c.loop-i-test.true l.auto.i c.requires.1 l.invariant.0 c.from.ensures,
      power_turn _ _ _ _ c.loop-i-test.true l.auto.i (omega arith) l.invariant.1,
    )
