use native.Mathlib.Omega.{arith}
use Rattle.text.specs.Putting.{puts_two}
use Rattle.report.specs.Report.{part_text}
use Rattle.report.proofs.put_part.Goals as goal

pub returns : goal.returns
unfolding part_text
returns c = (puts_two _ _ _ _ _ _ _ _ c.put_line-a.ensures.0 c.put_chain.ensures.0, omega (arith, c.put_line-a.ensures.1, c.put_chain.ensures.1))
