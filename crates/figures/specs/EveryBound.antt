-- What holds of the longest exceedance of every well-formed table and every bound B, said of the table's two lists, g and H.
use Rattle.std.specs.Prelude.{◌≡◌, ◌↔◌, List, ℕ, ◌≤◌, ◌<◌, get_or}
use Rattle.std.proofs.Common.{arith}
use Rattle.table.specs.Anchors.{anchors}
use Rattle.table.specs.WellFormed.{WellFormed}
use Rattle.table.specs.Reading.{delay_at}
use Rattle.table.specs.Figures.{low}
use Rattle.table.specs.BothWays.{well_formed_laws}
use Rattle.table.specs.EveryTable.{first_start_holds, low_of_all}
use Rattle.figures.specs.declared.Exceedance.TheVariants.{Run, Endless}
use Rattle.figures.specs.Ticks.{Longest}
use Rattle.figures.specs.Figures.{exceedance}
use Rattle.figures.specs.Exceeding.{exceedance_endless, exceedance_run}

module _ (s v : List ℕ) (g H : ℕ) (w : WellFormed s v g H) (B : ℕ) where
  -- endless exactly when every delay is above B, which is when B is at most low
  pub endless_all : (exceedance B H (anchors s v g) ≡ Endless) ↔ ((t : ℕ) → get_or s 0 0 ≤ t → B < delay_at H (anchors s v g) t)
  endless_all = rw (first_start_holds s v g H w) at (exceedance_endless B H (anchors s v g) (well_formed_laws s v g H w))

  pub endless_low : (exceedance B H (anchors s v g) ≡ Endless) ↔ (B ≤ low H (anchors s v g))
  endless_low = (
    λ e. omega (arith, endless_all.0 e (low_of_all s v g H w).at (low_of_all s v g H w).late, (low_of_all s v g H w).nears),
    λ h. endless_all.1 (λ t k. omega (arith, (low_of_all s v g H w).above t k)),
  )

  -- else the longest run of all time
  pub longest_of_all : (n : ℕ) → (exceedance B H (anchors s v g) ≡ Run n) ↔ Longest B (delay_at H (anchors s v g)) (get_or s 0 0) n
  longest_of_all n = rw (first_start_holds s v g H w) at (exceedance_run B H (anchors s v g) (well_formed_laws s v g H w) n)
