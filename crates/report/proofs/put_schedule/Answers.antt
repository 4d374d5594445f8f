use Rattle.std.proofs.Common.{arith}
use Rattle.report.proofs.Parts.{far_start, far_more, far_end}
use Rattle.report.proofs.put_schedule.Goals as goal

pub loop-i-init : goal.loop-i-init
loop-i-init c = (omega arith, far_start _ _)

pub loop-i-preserved : goal.loop-i-preserved
loop-i-preserved c =
    let i = c.loop-i.invariant in
    (omega (arith, c.put_part-at.ensures.1), far_more _ _ _ _ _ _ _ _ c.loop-i-test.true i.1 c.chain_of-c.ensures c.put_part-at.ensures.0)

pub returns : goal.returns
returns c = (far_end _ _ _ _ _ c.loop-i-test.false c.loop-i.invariant.1, omega (arith, c.requires.0))
