use mathlib.Core.Path.{refl}
use Rattle.chain.specs.Flat.{tasks_in}
use Rattle.stepping.proofs.Step.{back_fit, on_fit, here_fit, stepped}
use Rattle.stepping.proofs.next.Goals as goal

pub step_back-requires : goal.step_back-requires
step_back-requires c = let s = c.before in back_fit (tasks_in s.args.gap s.args.tasks.now) s.args.n s.args.p s.args.reciprocals.now s.args.state.now s.requires _

pub step_on-requires : goal.step_on-requires
step_on-requires c = let s = c.before in (s.requires.at_job.inside, on_fit (tasks_in s.args.gap s.args.tasks.now) s.args.n s.args.p s.args.reciprocals.now s.args.state.now s.requires _ _ c.step_back.ensures)

pub here-requires : goal.here-requires
here-requires c = let s = c.before in here_fit (tasks_in s.args.gap s.args.tasks.now) s.args.n s.args.p s.args.reciprocals.now s.args.state.now s.requires _ _ c.step_back.ensures _ c.step_on.ensures refl

pub returns : goal.returns
returns c = let s = c.before in stepped (tasks_in s.args.gap s.args.tasks.now) s.args.n s.args.p s.args.reciprocals.now s.args.state.now s.requires _ _ c.step_back.ensures _ c.step_on.ensures refl _ c.here.ensures
