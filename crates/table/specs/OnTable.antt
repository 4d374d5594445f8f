-- What is said of two lists, g and H, said of a table.
use Rattle.std.specs.Prelude.{List, ℕ}
use Rattle.table.specs.declared.Table.{Table}
use Rattle.table.specs.Anchors.{Anchor, anchors}
use Rattle.table.specs.WellFormed.{WellFormed}

abbrev pub of_table : {A : Type 0} → (List ℕ → List ℕ → ℕ → ℕ → A) → Table → A
of_table f t = f t.starts.now t.latencies.now t.anchors t.hyperperiod

abbrev pub anchors_of : Table → List Anchor
anchors_of t = anchors t.starts.now t.latencies.now t.anchors

abbrev pub IsWellFormed : Table → Type 0
IsWellFormed t = WellFormed t.starts.now t.latencies.now t.anchors t.hyperperiod
