use Rattle.chain.specs.Flat.{tasks_in}
use Rattle.outset.proofs.Loops.{first_back_fits, first_on_fits, first_long, here_fits, first_is}
use Rattle.outset.proofs.first.Goals as goal

pub first_back-requires : goal.first_back-requires
first_back-requires c = let s = c.before in first_back_fits (tasks_in s.args.gap s.args.tasks.now) s.args.p s.args.m.0 s.requires.0 s.args.n s.requires.1 s.args.state.now s.requires.2

pub first_on-requires : goal.first_on-requires
first_on-requires c = let s = c.before in first_on_fits (tasks_in s.args.gap s.args.tasks.now) s.args.p s.args.m.0 s.requires.0 s.args.n s.requires.1 s.args.state.now s.requires.2 _ c.first_back.ensures

pub here-requires : goal.here-requires
here-requires c = let s = c.before in here_fits (tasks_in s.args.gap s.args.tasks.now) s.args.p s.args.m.0 s.requires.0 s.args.n s.requires.1 s.args.state.now s.requires.2 _ c.first_back.ensures _ c.first_on.ensures

pub shape_of-state : goal.shape_of-state
shape_of-state c = let s = c.before in first_long (tasks_in s.args.gap s.args.tasks.now) s.args.p s.args.m.0 s.requires.0 s.args.n s.requires.1 s.args.state.now s.requires.2 _ c.first_back.ensures _ c.first_on.ensures

pub returns : goal.returns
returns c = let s = c.before in first_is (tasks_in s.args.gap s.args.tasks.now) s.args.p s.args.m.0 s.requires.0 s.args.n s.requires.1 s.args.state.now s.requires.2 _ c.first_back.ensures _ c.first_on.ensures _ c.here.ensures
