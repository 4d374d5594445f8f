use Rattle.std.proofs.Common.{ℕ, arith}
use Rattle.std.specs.Prelude.{eqb}
use borrow.Author.Tests.{tests}
use borrow.Author.Rules.{rules}
use Rattle.std.proofs.lemmas.Iterator.{YieldsList-from_slice}
use Rattle.std.proofs.lemmas.Iterator.Search.{position_from_yields_List}
use Rattle.schedule.proofs.find.Goals as goal

pub returns : goal.returns
returns c = position_from_yields_List (λ (m : ℕ). eqb m c.args.n) _ _ c.position.result c.position.ensures.ran (YieldsList-from_slice c.args.numbers.now (grind arith)) (λ x b q k. search (rules, tests))
