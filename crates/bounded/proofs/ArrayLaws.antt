-- The arrays of a schedule with bounds have their lengths, as owning it tells.
use mathlib.Core.List.{List}
use mir.Val.{Val}
use denote.Shadow.{shadow}
use Rattle.schedule.proofs.ArrayLaws.{arrays}
use Rattle.bounded.specs.declared.Bounded.{Bounded}
use Rattle.bounded.specs.Cleared.{BoundedArrays}
use Rattle.bounded.specs.contracts.Bounded as bounded

pub bounded_arrays : (b : Bounded) (vs : List Val) → shadow ((bounded.the_field).row.own_val ((bounded.the_field).into b) vs) → BoundedArrays b
bounded_arrays b vs o = record { schedule = arrays b.schedule _ o.1.1.0; bounds = o.1.1.1.0.1.0.1 }
