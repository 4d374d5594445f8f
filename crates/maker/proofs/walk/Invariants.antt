use Prim.Native.Nat.{◌-◌}
use mathlib.Core.Path.{◌≡◌}
use lib.ListN.{length}
use Rattle.chain.specs.Flat.{tasks_in}
use Rattle.maker.proofs.Walking.{Walking}
use Rattle.maker.proofs.walk.Given as goal

abbrev pub invariant-loop-walked : goal.invariant-loop-walked
invariant-loop-walked l =
    (length l.state ≡ length l.initial.state) × Walking (tasks_in l.gap l.tasks) l.p l.n l.initial.here.job.0 l.initial.starts l.initial.latencies l.state l.starts l.latencies l.walked l.g l.last.0 l.here

abbrev pub decreases-loop-walked : goal.decreases-loop-walked
decreases-loop-walked l = l.n - l.walked
