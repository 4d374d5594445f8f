use native.Mathlib.Omega.{arith}
use Prim.Native.Nat.{◌+◌, ◌-◌}
use mathlib.Core.Path.{◌≡◌}
use Rattle.stepping.proofs.Turns.{BackTo, back_turn}
use Rattle.stepping.proofs.step_back.Goals as goal
use Rattle.stepping.proofs.step_back.Goals.{In-loop-i}

-- the loop's place is one above the one that moves
stood : (c : In-loop-i) → BackTo c.args.reciprocals.now c.args.state.now c.args.p (c.loop-i.i - 1 + 1) c.loop-i.ticks c.loop-i.state
stood c = let e : c.loop-i.i - 1 + 1 ≡ c.loop-i.i = omega arith in rw e c.loop-i.invariant

pub loop-i-preserved : goal.loop-i-preserved
loop-i-preserved c = back_turn _ _ _ c.requires _ _ _ (stood (goal.at.loop-i-preserved c).In-loop-i) _ _ c.advance-ticks.ensures
