use mathlib.Core.Path.{refl}
use Rattle.capi_figures.specs.Calls.{exceedance_numbers}
use Rattle.refusal.proofs.Arms.{fits}
use Rattle.capi_figures.proofs.Small.{exceedance_small}
use Rattle.capi_figures.proofs.mo_exceedance.Goals as goal

pub code-requires : goal.code-requires
code-requires c =
    fits exceedance_numbers c.exceedance_of-a.ensures c.in-Err.is c.in-Err.f _ refl (exceedance_small _ _ _ _ _)
