use mathlib.Core.Path.{◌≡◌}
use lib.ListN.{length}
use Rattle.chain.specs.Flat.{tasks_in}
use Rattle.stepping.specs.OnePlace.{job_at}
use Rattle.latency.proofs.Walking.{Walking}
use Rattle.latency.proofs.walk.Given as goal

abbrev pub invariant-loop-walked : goal.invariant-loop-walked
invariant-loop-walked l =
    (length l.state ≡ length l.initial.state) × Walking (tasks_in l.gap l.tasks) l.p l.n (job_at l.initial.state l.p) l.bound l.state l.walked l.latency
