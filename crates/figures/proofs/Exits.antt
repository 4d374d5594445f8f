-- Exit laws over plain lists and numbers: what each return of the longest exceedance shows.
use Rattle.std.specs.Prelude.{Ok}
use mathlib.Core.Path.{◌≡◌}
use mathlib.Core.List.{List}
use Prim.Native.Nat.{ℕ, ◌≤◌, ◌<◌}
use native.Mathlib.Omega.{arith}
use borrow.Author.Tests.{le-leb, lt-leb}
use Rattle.figures.specs.declared.Exceedance.TheVariants.{Endless, Run}
use Rattle.table.specs.Anchors.{anchors}
use Rattle.table.specs.WellFormed.{hyper_limit}
use Rattle.table.specs.Reading.{checked}
use Rattle.table.specs.Segments.{Formed}
use Rattle.table.specs.BothWays.{checked_true, checked_well, well_formed_laws}
use Rattle.figures.specs.declared.Scan.{Scan}
use Rattle.figures.specs.Ticks.{scan}
use Rattle.figures.specs.Figures.{exceedance_of}
use Rattle.figures.specs.Exceeding.{round, round_bounded, exceedance_anchors}

-- the longest exceedance of B, by one round and by two
module _ (s v : List ℕ) (g H B : ℕ) (u : Unit {0}) (e : Ok u ≡ checked s v g H) (once : Scan) (o : once ≡ round B H (anchors s v g) (scan 0 0)) where
  laws : Formed H (anchors s v g)
  laws = well_formed_laws s v g H (checked_well s v g H u e)

  pub once_bounded : (once.run ≤ once.best) × (once.best ≤ hyper_limit)
  once_bounded =
      let b = round_bounded B H (anchors s v g) laws 0 (scan 0 0) (omega arith, omega arith) in
      let h = (checked_well s v g H u e).hyper.1 in
      rw o (b.0, omega (arith, b.1))

  pub exceed_endless : H ≤ once.run → Ok Endless ≡ exceedance_of s v g H B
  unfolding exceedance_of
  exceed_endless h = rw (checked_true s v g H u e, exceedance_anchors B H (anchors s v g) laws, ← o, le-leb H once.run h)

  pub exceed_run : once.run < H → (twice : Scan) → twice ≡ round B H (anchors s v g) once → Ok (Run twice.best) ≡ exceedance_of s v g H B
  unfolding exceedance_of
  exceed_run h twice t = rw (checked_true s v g H u e, exceedance_anchors B H (anchors s v g) laws, ← o, lt-leb H once.run h, ← t)
