use native.Mathlib.Omega.{arith}
use mathlib.Core.Path.{sym}
use Rattle.chain.specs.Flat.{in_long, given_at}
use Rattle.chain.proofs.given_at.Goals as goal

pub bounds-tasks-k : goal.bounds-tasks-k
bounds-tasks-k c = let s = c.before in omega (arith, s.requires.0, in_long s.args.tasks.now)

pub bounds-tasks-k-2 : goal.bounds-tasks-k-2
bounds-tasks-k-2 c = let s = c.before in omega (arith, s.requires.0, in_long s.args.tasks.now)

pub bounds-tasks-k-3 : goal.bounds-tasks-k-3
bounds-tasks-k-3 c = let s = c.before in omega (arith, s.requires.0, in_long s.args.tasks.now)

pub returns : goal.returns
returns c = sym (given_at _ _ c.requires.0)
