use native.Mathlib.Omega.{arith}
use Prim.Native.Nat.{◌+◌, ◌-◌}
use mathlib.Core.Path.{◌≡◌, refl, sym}
use Rattle.chain.specs.Flat.{tasks_in}
use Rattle.stepping.specs.Onward.{on_self}
use Rattle.outset.proofs.Loops.{OnTurn, on_turn}
use Rattle.outset.proofs.first_on.Goals as goal
use Rattle.outset.proofs.first_on.Goals.{In-loop-i}

pub loop-i-init : goal.loop-i-init
loop-i-init c = let e : c.args.p + 1 - 1 ≡ c.args.p = omega arith in rw e (sym (on_self _ _ _), c.task_at-a.ensures, record { long = refl; from = c.requires.3 })

turn : (c : In-loop-i)
    → OnTurn (tasks_in c.args.gap c.args.tasks.now) c.args.p c.args.m.0 c.requires.0 c.args.state.now c.loop-i.state c.loop-i.i c.loop-i.j.0 c.loop-i.a
turn c =
    let i = c.loop-i.invariant in
    let e : c.loop-i.i - 1 + 1 ≡ c.loop-i.i = omega arith in
    rw e at (on_turn (tasks_in c.args.gap c.args.tasks.now) c.args.p c.args.m.0 c.requires.0 c.args.state.now c.loop-i.state (omega arith) (c.loop-i.i - 1) (omega arith) (omega arith) (rw e i.2) c.loop-i.j.0 i.0 c.loop-i.a i.1)

pub readable-w-requires : goal.readable-w-requires
readable-w-requires c = (turn (goal.at.readable-w-requires c).In-loop-i).readable

pub overflow_sub-w : goal.overflow_sub-w
overflow_sub-w c = (turn (goal.at.overflow_sub-w c).In-loop-i).phase _ c.task_at-b.ensures _ c.readable-w.ensures

pub overflow_add-w : goal.overflow_add-w
overflow_add-w c = omega (arith, (turn (goal.at.overflow_add-w c).In-loop-i).ticks _ c.task_at-b.ensures _ c.readable-w.ensures)

pub loop-i-preserved : goal.loop-i-preserved
loop-i-preserved c =
    let b = c.task_at-b.ensures in
    let e : c.loop-i.i + 1 - 1 ≡ c.loop-i.i = omega arith in
    let q = (turn (goal.at.loop-i-preserved c).In-loop-i).leaves _ b _ c.readable-w.ensures _ _ c.put.ensures in
    rw e (q.0, b, q.1)
