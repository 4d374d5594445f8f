use Rattle.chain.specs.Flat.{tasks_in}
use Rattle.latency.proofs.Exits.{never_late}
use Rattle.latency.proofs.greatest_at.Goals as goal

pub returns : goal.returns
returns c = let s = c.before in never_late (tasks_in s.args.gap s.args.tasks.now) s.args.p s.args.h s.requires _ c.walk_range.ensures
