use native.Mathlib.Omega.{arith}
use Prim.Native.Nat.{◌<◌}
use mathlib.Core.Path.{sym, ◌∙◌}
use lib.ListN.{length}
use Rattle.chain.specs.Flat.{tasks_in, in_count}
use Rattle.latency.proofs.Longest.{pick_all, pick_longer, pick_not, pick_end}
use Rattle.latency.proofs.longest_place.Goals as goal
use Rattle.latency.proofs.longest_place.Goals.{then-longest-t, else-longest-t}

pub loop-i-init : goal.loop-i-init
loop-i-init c = let a = c.args in (in_count a.gap a.tasks.now, pick_all (tasks_in a.gap a.tasks.now))

pub loop-i-preserved : goal.loop-i-preserved
loop-i-preserved c =
    let l = c.loop-i in
    let t = tasks_in c.args.gap c.args.tasks.now in
    let here : l.i < length t = omega (arith, l.invariant.0) in
    elim c.if-longest-t.branch [
      | then-longest-t w ↦ (l.invariant.0, l.invariant.1 ∙ rw (w.longest-is, w.place-is, c.task_at-t.ensures) (pick_longer t l.i l.longest l.place here (rw c.task_at-t.ensures at w.if-longest-t.true)))
      | else-longest-t w ↦ (l.invariant.0, l.invariant.1 ∙ rw (w.longest-is, w.place-is) (pick_not t l.i l.longest l.place here (rw c.task_at-t.ensures at w.if-longest-t.false)))
    ]

pub returns : goal.returns
returns c =
    let s = c.before in
    let l = c.loop-i in
    sym (l.invariant.1 ∙ pick_end (tasks_in s.args.gap s.args.tasks.now) l.i l.longest l.place (omega (arith, l.invariant.0)))
