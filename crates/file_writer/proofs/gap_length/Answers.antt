use native.Mathlib.Omega.{arith}
use mathlib.Core.Path.{refl}
use Rattle.file_writer.proofs.Lengths.{length_gap, no_gap}
use Rattle.file_writer.proofs.gap_length.Goals as goal

pub returns-then-gap-eq0 : goal.returns-then-gap-eq0
returns-then-gap-eq0 c = rw (no_gap c.args.gap c.if-gap-eq0.true) (refl, omega arith)

pub returns : goal.returns
returns c = rw (length_gap c.args.gap c.if-gap-eq0.false) (refl, omega arith)
