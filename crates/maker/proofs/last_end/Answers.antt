use borrow.Author.Tests.{eq-eqb, ne_eqb}
use Rattle.maker.specs.Turn.{last_end}
use Rattle.maker.proofs.last_end.Goals as goal

pub returns-then-after-start : goal.returns-then-after-start
unfolding last_end
returns-then-after-start c = simp (eq-eqb _ _ c.if-after-start.true)

pub returns : goal.returns
unfolding last_end
returns c = simp (ne_eqb _ _ c.if-after-start.false)
