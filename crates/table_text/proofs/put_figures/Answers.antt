use native.Mathlib.Omega.{arith}
use Rattle.table_text.proofs.Lines.{figures_lines}
use Rattle.table_text.proofs.put_figures.Goals as goal

pub returns : goal.returns
returns c =
    let second = c.before in
    let first = second.before in
    (figures_lines _ _ _ _ _ _ _ _ _ _ _ _ first.greatest_of.ensures second.low_of.ensures first.put_line-a.ensures.0 second.put_line-b.ensures.0 c.put_mean.ensures.0, omega arith)
