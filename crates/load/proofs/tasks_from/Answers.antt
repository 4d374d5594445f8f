use Rattle.std.proofs.Common.{◌≡◌, arith, rules}
use Rattle.chain.specs.Chains.{zero_task}
use Rattle.load.proofs.Exits.{begins, empty, state_on, tasks_on}
use Rattle.load.proofs.tasks_from.Goals as goal

pub loop-i-init : goal.loop-i-init
loop-i-init c =
    let z : c.default-tasks.result ≡ zero_task = search rules in
    (begins _, rw z (empty _))

pub loop-i-preserved : goal.loop-i-preserved
loop-i-preserved c =
    let l = c.loop-i in
    let p = c.draw_task-d in
    (state_on _ _ _ _ l.invariant.0 p.ensures, tasks_on _ _ _ _ _ (omega arith) l.invariant.0 p.ensures l.invariant.1)
