use Prim.Native.Nat.{◌<◌}
use lib.ListN.{length}
use mathlib.Core.Path.{◌≡◌}
use Rattle.chain.specs.Chains.{at}
use Rattle.chain.specs.Flat.{tasks_in}
use Rattle.timing.specs.WarmUp.{warm_at}
use Rattle.timing.proofs.Entries.{From}
use Rattle.timing.proofs.warm_jobs.Given as goal

-- k is the warm-up job at place i, b its task, and the entries from i on are stored
abbrev pub invariant-loop-i : goal.invariant-loop-i
invariant-loop-i l = (l.i < length (tasks_in l.gap l.tasks)) × (l.k.0 ≡ warm_at (tasks_in l.gap l.tasks) l.i) × (l.b ≡ at (tasks_in l.gap l.tasks) l.i) × From (tasks_in l.gap l.tasks) l.i l.jobs
