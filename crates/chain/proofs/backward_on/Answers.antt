use native.Mathlib.Omega.{arith}
use Prim.Native.Nat.{ℕ, ◌-◌}
use mathlib.Core.Path.{◌≡◌, sym, ap, ◌∙◌}
use Rattle.task.specs.Jobs.{Limited}
use Rattle.chain.specs.Chains.{backward_by}
use Rattle.chain.specs.Flat.{tasks_in}
use Rattle.chain.proofs.Steps.{backward_none, backward_step, backward_stop, backward_small}
use Rattle.chain.proofs.backward_on.Goals as goal
use Rattle.chain.proofs.backward_on.Goals.{After-task_at-a}

-- the place before is within its limits
limited : (c : After-task_at-a) → Limited c.task_at-a.result
limited c =
    let s = c.before in
    rw c.task_at-a.ensures (s.requires.0.each (c.loop-i.i - 1) (omega (arith, s.requires.2)))

pub loop-i-preserved : goal.loop-i-preserved
loop-i-preserved c =
    let n = c.before in
    let l = n.loop-i in
    let s = n.before in
    let t = tasks_in s.args.gap s.args.tasks.now in
    let e = sym c.in-Some.ensures in (
      omega arith,
      n.task_at-a.ensures,
      backward_small t s.args.p l.i l.k.0 n.task_at-a.result l.b (omega arith) n.task_at-a.ensures l.invariant.1 (limited (goal.at.loop-i-preserved c).After-task_at-a).period_pos l.invariant.2 _ e,
      l.invariant.3 ∙ backward_step t s.args.p l.i l.k.0 n.task_at-a.result l.b (omega arith) n.task_at-a.ensures l.invariant.1 _ e,
    )

pub returns-in-None : goal.returns-in-None
returns-in-None c =
    let n = c.before in
    let l = n.loop-i in
    let s = n.before in
    sym (l.invariant.3 ∙ backward_stop (tasks_in s.args.gap s.args.tasks.now) s.args.p l.i l.k.0 n.task_at-a.result l.b (omega arith) n.task_at-a.ensures l.invariant.1 (sym c.in-None.ensures))

pub returns : goal.returns
returns c =
    let l = c.loop-i in
    let a = c.args in
    let e : l.i ≡ a.p = omega arith in
    backward_none _ _ _ ∙ sym (l.invariant.3 ∙ ap (λ (x : ℕ). backward_by (tasks_in a.gap a.tasks.now) a.p (x - a.p) l.k.0) e)
