use Rattle.std.proofs.Common.{sym, ◌∙◌}
use Rattle.failure.proofs.Finding.{before_none, before_first}
use Rattle.failure.proofs.reason.Goals as goal

pub returns-in-Some : goal.returns-in-Some
returns-in-Some c =
    let found = c.in-Some.ensures.cases in
    found.3 ∙ sym (before_first _ _ found.0 found.2.0 _ found.2.1.split)

pub returns-in-None : goal.returns-in-None
returns-in-None c = sym (before_none _ _ c.in-None.ensures.cases)
