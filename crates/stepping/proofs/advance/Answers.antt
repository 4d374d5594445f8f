use Rattle.stepping.proofs.Advancing.{advanced}
use Rattle.stepping.proofs.advance.Goals as goal

pub returns : goal.returns
returns c = let s = c.before in advanced s.args.reciprocals.now s.args.state.now s.args.i s.args.ticks s.requires
