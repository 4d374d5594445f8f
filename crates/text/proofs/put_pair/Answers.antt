use native.Mathlib.Omega.{arith}
use Rattle.text.proofs.Turns.{two_fields}
use Rattle.text.proofs.put_pair.Goals as goal

pub returns : goal.returns
returns c = (two_fields _ _ _ _ _ _ _ _ _ _ _ _ _ c.put_word-first.ensures c.put_field-second.ensures.0 c.put_field-end.ensures.0 c.put_byte.ensures, omega arith)
