use native.Mathlib.Omega.{arith}
use mathlib.Core.Path.{sym, subst}
use Prim.Native.Nat.{ℕ, ◌+◌}
use Rattle.chain.specs.Flat.{given_in}
use Rattle.phase.proofs.Others.{product_fits, Multiplied, multiplied_start, multiplied_skip, multiplied_room, multiplied_turn}
use Rattle.phase.proofs.others_multiple.Goals as goal
use Rattle.phase.proofs.others_multiple.Goals.{then-place-number, else-place-number}

pub loop-i-init : goal.loop-i-init
loop-i-init c = multiplied_start c.args.gap c.args.number c.args.places.now (given_in c.args.tasks.now) c.requires

pub lcm-multiple-requires : goal.lcm-multiple-requires
lcm-multiple-requires c =
    let l = c.loop-i in
    let r = multiplied_room c.args.gap c.args.number c.args.places.now (given_in c.args.tasks.now) c.requires l.multiple l.i l.invariant c.loop-i-test.true _ c.task_at-a.ensures in
    (omega (arith, r.0, r.2), product_fits _ _ (omega (arith, r.1, r.3)) (omega (arith, r.3)))

pub loop-i-preserved : goal.loop-i-preserved
loop-i-preserved c =
    let a = c.args in
    let l = c.loop-i in
    let held : ℕ → Type 0 = λ (m : ℕ). Multiplied a.gap a.number a.places.now (given_in a.tasks.now) m (l.i + 1) in
    elim c.if-place-number.branch [
      | then-place-number w ↦
          subst held (sym w.multiple-is) (multiplied_turn a.gap a.number a.places.now (given_in a.tasks.now) c.requires l.multiple l.i l.invariant c.loop-i-test.true _ w.task_at-a.ensures _ w.lcm-multiple.ensures)
      | else-place-number w ↦
          subst held (sym w.multiple-is) (multiplied_skip a.gap a.number a.places.now (given_in a.tasks.now) c.requires l.multiple l.i l.invariant c.loop-i-test.true w.if-place-number.false)
    ]
