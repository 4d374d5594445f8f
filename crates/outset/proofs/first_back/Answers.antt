use native.Mathlib.Omega.{arith}
use Prim.Native.Nat.{◌+◌, ◌-◌}
use mathlib.Core.Path.{◌≡◌, refl, sym}
use Rattle.chain.specs.Flat.{tasks_in}
use Rattle.stepping.specs.Onward.{back_self}
use Rattle.outset.proofs.Loops.{BackTurn, back_turn}
use Rattle.outset.proofs.first_back.Goals as goal
use Rattle.outset.proofs.first_back.Goals.{In-loop-i}

pub loop-i-init : goal.loop-i-init
loop-i-init c = (sym (back_self _ _ _), c.task_at-b.ensures, record { long = refl; from = c.requires.2 })

-- the loop's place is one above the one whose state is made
turn : (c : In-loop-i)
    → BackTurn (tasks_in c.args.gap c.args.tasks.now) c.args.p c.args.m.0 c.requires.0 c.args.state.now c.loop-i.state (c.loop-i.i - 1) c.loop-i.j.0 c.loop-i.b
turn c =
    let i = c.loop-i.invariant in
    let e : c.loop-i.i - 1 + 1 ≡ c.loop-i.i = omega arith in
    back_turn _ _ _ c.requires.0 _ _ c.requires.1 _ (omega arith) (rw e i.2) _ (rw e i.0) _ (rw e i.1)

pub read-t-requires : goal.read-t-requires
read-t-requires c = (turn (goal.at.read-t-requires c).In-loop-i).reads

pub overflow_sub-t : goal.overflow_sub-t
overflow_sub-t c = (turn (goal.at.overflow_sub-t c).In-loop-i).phase _ c.task_at-a.ensures _ c.read-t.ensures

pub overflow_sub-t-in-loop-i : goal.overflow_sub-t-in-loop-i
overflow_sub-t-in-loop-i c = (turn (goal.at.overflow_sub-t-in-loop-i c).In-loop-i).duration _ c.task_at-a.ensures _ c.read-t.ensures

pub overflow_sub-t-in-loop-i-2 : goal.overflow_sub-t-in-loop-i-2
overflow_sub-t-in-loop-i-2 c = (turn (goal.at.overflow_sub-t-in-loop-i-2 c).In-loop-i).gap _ c.task_at-a.ensures _ c.read-t.ensures

pub loop-i-preserved : goal.loop-i-preserved
loop-i-preserved c =
    let a = c.task_at-a.ensures in
    let q = (turn (goal.at.loop-i-preserved c).In-loop-i).leaves _ a _ c.read-t.ensures _ _ c.put.ensures in
    (q.0, a, q.1)
