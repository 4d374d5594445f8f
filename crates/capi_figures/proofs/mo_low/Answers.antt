use mathlib.Core.Path.{refl}
use Rattle.capi_figures.specs.Calls.{low_numbers}
use Rattle.refusal.proofs.Arms.{fits}
use Rattle.capi_figures.proofs.Small.{low_small}
use Rattle.capi_figures.proofs.mo_low.Goals as goal

pub code-requires : goal.code-requires
code-requires c =
    fits low_numbers c.low_of-a.ensures c.in-Err.is c.in-Err.f _ refl (low_small _ _ _ _)
