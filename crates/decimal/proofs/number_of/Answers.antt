use Rattle.std.proofs.Common.{arith, rules}
use Rattle.std.proofs.lemmas.Grind.{common_steps}
use Rattle.decimal.proofs.Digits.{no_byte, too_long, from_first}
use Rattle.decimal.proofs.number_of.Goals as goal
use Rattle.decimal.proofs.number_of.Goals.{then-is_empty-via-then-is_empty, then-is_empty-via-else-is_empty+then-word-gt20}

pub returns-then-is_empty : goal.returns-then-is_empty
returns-then-is_empty c = elim c.then-is_empty.branch [
  | then-is_empty-via-then-is_empty w ↦ no_byte c.args.word.now (search rules)
  | then-is_empty-via-else-is_empty+then-word-gt20 w ↦ too_long c.args.word.now (omega arith) (omega arith)
]

pub loop-b-init : goal.loop-b-init
loop-b-init c = record { fits = omega arith; left = from_first c.args.word.now (grind (arith, common_steps)) (omega arith) }
