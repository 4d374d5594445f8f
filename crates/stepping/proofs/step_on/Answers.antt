use Rattle.stepping.proofs.Turns.{on_start, on_turn}
use Rattle.stepping.proofs.step_on.Goals as goal

pub loop-i-init : goal.loop-i-init
loop-i-init c = on_start _ _ _ _ c.requires.0 c.requires.1.cut_small

pub loop-i-preserved : goal.loop-i-preserved
loop-i-preserved c = on_turn _ _ _ _ c.requires.1 _ _ _ c.loop-i.invariant c.loop-i-test.true _ _ c.advance-ticks.ensures
