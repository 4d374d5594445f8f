use native.Mathlib.Omega.{arith}
use mathlib.Core.Path.{sym}
use Rattle.chain.proofs.CheckLaws.{hyper_accepted, hyper_above}
use Rattle.chain.proofs.hyper_verdict.Goals as goal

pub returns-then-h-le60000000 : goal.returns-then-h-le60000000
returns-then-h-le60000000 c = let h = c.hyperperiod_on-h.ensures in hyper_accepted _ _ (sym (h.within c.if-h-le60000000.true)) c.if-h-le60000000.true

pub returns : goal.returns
returns c = hyper_above _ (c.hyperperiod_on-h.ensures.above (omega (arith, c.if-h-le60000000.false)))
