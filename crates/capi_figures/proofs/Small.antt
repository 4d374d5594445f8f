-- Every refusal of the figures fits one number: it is 14 at place 0.
use Rattle.std.specs.Prelude.{Ok}
use Prim.Native.Nat.{ℕ, ◌<◌}
use native.Mathlib.Omega.{arith}
use mathlib.Core.List.{List}
use Rattle.refusal.proofs.Arms.{code, either}
use Rattle.table.specs.Anchors.{anchors, first_start}
use Rattle.table.specs.WellFormed.{well_formed}
use Rattle.table.specs.Reading.{delay_at}
use Rattle.figures.specs.Ticks.{every_above}
use Rattle.figures.specs.Figures.{greatest_of, low_of, mean_of, throughput_of, exceedance, exceedance_of}
use Rattle.figures.specs.declared.Exceedance.{Exceedance}
use Rattle.capi_figures.specs.Calls.{greatest_numbers, low_numbers, mean_numbers, throughput_numbers, exceedance_numbers}

module _ (s v : List ℕ) (g H : ℕ) where
  pub greatest_small : code (greatest_numbers (greatest_of s v g H)) < 256
  unfolding greatest_of
  greatest_small = either greatest_numbers (well_formed s v g H) _ _ (omega arith) (omega arith)

  pub low_small : code (low_numbers (low_of s v g H)) < 256
  unfolding low_of
  low_small = either low_numbers (well_formed s v g H) _ _ (omega arith) (omega arith)

  pub mean_small : code (mean_numbers (mean_of s v g H)) < 256
  unfolding mean_of
  mean_small = either mean_numbers (well_formed s v g H) _ _ (omega arith) (omega arith)

  pub throughput_small : code (throughput_numbers (throughput_of s v g H)) < 256
  unfolding throughput_of
  throughput_small = either throughput_numbers (well_formed s v g H) _ _ (omega arith) (omega arith)

  pub exceedance_small : (B : ℕ) → code (exceedance_numbers (exceedance_of s v g H B)) < 256
  unfolding exceedance_of exceedance
  exceedance_small B =
      let every = every_above B (delay_at H (anchors s v g)) (first_start (anchors s v g)) H in
      either exceedance_numbers (well_formed s v g H) _ _ (either (λ (e : Exceedance). exceedance_numbers (Ok e)) every _ _ (omega arith) (omega arith)) (omega arith)
