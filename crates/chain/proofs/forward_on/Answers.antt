use native.Mathlib.Omega.{arith}
use Prim.Native.Nat.{◌+◌}
use mathlib.Core.Path.{ap, ◌∙◌}
use Rattle.task.specs.declared.Place.{Place}
use Rattle.chain.specs.Flat.{tasks_in}
use Rattle.chain.proofs.Steps.{forward_none, forward_small, forward_step}
use Rattle.chain.proofs.forward_on.Goals as goal

pub loop-i-init : goal.loop-i-init
loop-i-init c = (c.task_at-a.ensures, forward_none _ _ _)

pub forward_to-k-requires : goal.forward_to-k-requires
forward_to-k-requires c =
    let s = c.before in
    let l = c.loop-i in
    let t = tasks_in s.args.gap s.args.tasks.now in (
      omega (arith, ap (λ (x : Place). x.period) c.task_at-b.ensures, (s.requires.0.each (l.i + 1) (omega (arith, s.requires.2))).period_pos),
      forward_small t s.args.p l.i s.args.j.0 l.k.0 l.a (omega arith) l.invariant.0 l.invariant.1 s.requires.0 (omega (arith, s.requires.2)) s.requires.3,
    )

pub loop-i-preserved : goal.loop-i-preserved
loop-i-preserved c =
    let s = c.before in
    let l = c.loop-i in
    let t = tasks_in s.args.gap s.args.tasks.now in (
      c.task_at-b.ensures,
      c.forward_to-k.ensures ∙ forward_step t s.args.p l.i s.args.j.0 l.k.0 l.a (omega arith) l.invariant.0 l.invariant.1 _ c.task_at-b.ensures,
    )
