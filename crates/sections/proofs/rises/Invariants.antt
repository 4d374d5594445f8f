use Rattle.std.proofs.Common.{◌≡◌, drop}
use Rattle.sections.specs.Sections.{rises_to}
use Rattle.sections.proofs.rises.Given as goal

abbrev pub invariant-loop-cut : goal.invariant-loop-cut
invariant-loop-cut l = rises_to l.n 0 l.cuts ≡ rises_to l.n l.from (drop l.cut-index l.cuts)
