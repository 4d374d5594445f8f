use native.Mathlib.Omega.{arith}
use Rattle.phase.proofs.Moving.{Moving, moving_start, moving_room, moving_store, moving_skip}
use mathlib.Core.Path.{sym, subst}
use mathlib.Core.List.{List}
use Prim.Native.Nat.{ℕ, ◌+◌}
use Rattle.phase.proofs.put_phase.Goals as goal
use Rattle.phase.proofs.put_phase.Goals.{then-place-number, else-place-number}

pub loop-i-init : goal.loop-i-init
loop-i-init c = moving_start c.args.number c.args.phase c.args.places.now c.args.tasks.now c.requires.1

pub bounds-tasks-i : goal.bounds-tasks-i
bounds-tasks-i c = omega (arith, moving_room c.args.number c.args.phase c.args.places.now c.args.tasks.now c.requires.1 c.loop-i.tasks c.loop-i.i c.loop-i.invariant c.loop-i-test.true)

pub loop-i-preserved : goal.loop-i-preserved
loop-i-preserved c =
    let a = c.args in
    let l = c.loop-i in
    let held : List ℕ → Type 0 = λ (list : List ℕ). Moving a.number a.phase a.places.now a.tasks.now list (l.i + 1) in
    elim c.if-place-number.branch [
      | then-place-number w ↦ subst held (sym w.tasks-is) (moving_store a.number a.phase a.places.now a.tasks.now c.requires.1 l.tasks l.i l.invariant c.loop-i-test.true w.if-place-number.true)
      | else-place-number w ↦ subst held (sym w.tasks-is) (moving_skip a.number a.phase a.places.now a.tasks.now c.requires.1 l.tasks l.i l.invariant c.loop-i-test.true w.if-place-number.false)
    ]
