use native.Mathlib.Omega.{arith}
use Rattle.text.proofs.Turns.{one_field}
use Rattle.text.proofs.put_line.Goals as goal

pub returns : goal.returns
returns c = (one_field _ _ _ _ _ _ _ _ _ _ c.put_word-first.ensures c.put_field-end.ensures.0 c.put_byte.ensures, omega arith)
