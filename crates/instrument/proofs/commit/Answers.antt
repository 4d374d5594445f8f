use Rattle.instrument.proofs.Exits.{none_stands, other_named, same_named}
use borrow.Author.Rules.{rules}
use Rattle.instrument.proofs.commit.Goals as goal

pub returns-then-mine-eq0 : goal.returns-then-mine-eq0
returns-then-mine-eq0 c = none_stands c.args.s c.args.b _ c.commit_refused.ensures c.if-mine-eq0.true

pub returns-then-same : goal.returns-then-same
returns-then-same c = same_named c.args.s _ c.if-mine-eq0.false _ c.cleared_of-p.ensures c.same.result c.same.ensures c.if-same.true _ c.running_state.ensures

pub returns : goal.returns
returns c = other_named c.args.s _ c.if-mine-eq0.false _ c.cleared_of-p.ensures c.same.result c.same.ensures c.if-same.false _ c.commit_refused-2.ensures
