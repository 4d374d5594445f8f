use native.Mathlib.Omega.{arith}
use Rattle.table_text.specs.TableText.{refused_text}
use Rattle.table_text.proofs.put_refusal.Goals as goal

pub returns : goal.returns
unfolding refused_text
returns c = (c.put_pair.ensures.0, omega arith)
