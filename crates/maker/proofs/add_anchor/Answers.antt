use Rattle.maker.proofs.Turn.{add_same, add_repeat, add_new}
use Rattle.maker.proofs.add_anchor.Goals as goal

pub returns-then-after-start : goal.returns-then-after-start
returns-then-after-start c = add_same _ _ _ _ _ _ c.if-after-start.true

pub returns-then-end-last : goal.returns-then-end-last
returns-then-end-last c = add_repeat _ _ _ _ _ _ c.if-after-start.false c.if-end-last.true

pub returns : goal.returns
returns c = add_new _ _ _ _ _ _ c.if-after-start.false c.if-end-last.false _ _ c.store.ensures c.store-2.ensures
