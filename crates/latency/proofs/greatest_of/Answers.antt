use Prim.Native.Nat.{◌-◌, ◌≤◌}
use mathlib.Core.Path.{ap}
use Rattle.chain.specs.Flat.{tasks_in}
use Rattle.latency.specs.declared.Greatest.{Greatest}
use Rattle.latency.specs.Latency.{AcceptedAt}
use Rattle.latency.proofs.Exits.{walk_given}
use Rattle.latency.proofs.greatest_of.Goals as goal
use Rattle.latency.proofs.greatest_of.Goals.{After-longest_place-p}

given : (c : After-longest_place-p) → (1 ≤ c.longest_place-p.result) × AcceptedAt (tasks_in c.args.gap c.args.tasks.now) (c.longest_place-p.result - 1) c.hyperperiod_on-h.result
given c = let s = c.before in walk_given (tasks_in s.args.gap s.args.tasks.now) s.requires.0 s.requires.1 _ c.hyperperiod_on-h.ensures _ c.longest_place-p.ensures

pub overflow_sub-p : goal.overflow_sub-p
overflow_sub-p c = (given c).0

pub greatest_at-found-requires : goal.greatest_at-found-requires
greatest_at-found-requires c = (given c).1

pub returns : goal.returns
returns c = ap (λ (x : Greatest). x.latency) c.greatest_at-found.ensures
