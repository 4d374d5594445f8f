use native.Mathlib.Omega.{arith}
use Rattle.text.specs.Putting.{puts_two}
use Rattle.table_text.specs.TableText.{head_text}
use Rattle.table_text.proofs.put_head.Goals as goal

pub returns : goal.returns
unfolding head_text
returns c = (puts_two _ _ _ _ _ _ _ _ c.put_line-a.ensures.0 (puts_two _ _ _ _ _ _ _ _ c.put_line-b.ensures.0 c.put_line.ensures.0), omega arith)
