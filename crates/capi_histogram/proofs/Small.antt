-- Every refusal of a histogram fits one number: it is 14 or 18 at place 0.
use Prim.Native.Nat.{ℕ, ◌<◌}
use native.Mathlib.Omega.{arith}
use mathlib.Core.List.{List}
use lib.Dec.{ltb}
use Rattle.refusal.proofs.Arms.{code, either}
use Rattle.table.specs.WellFormed.{well_formed}
use Rattle.histogram.specs.Histogram.{histogram_of}
use Rattle.capi_histogram.specs.Calls.{histogram_numbers}

pub histogram_small : (s v : List ℕ) (g H width n : ℕ) → code (histogram_numbers (histogram_of s v g H width n)) < 256
unfolding histogram_of
histogram_small s v g H width n = either histogram_numbers (well_formed s v g H) _ _ (either histogram_numbers (ltb 0 width) _ _ (omega arith) (omega arith)) (omega arith)
