use mathlib.Core.Path.{refl}
use Rattle.capi_figures.specs.Calls.{greatest_numbers}
use Rattle.refusal.proofs.Arms.{fits}
use Rattle.capi_figures.proofs.Small.{greatest_small}
use Rattle.capi_figures.proofs.mo_greatest.Goals as goal

pub code-requires : goal.code-requires
code-requires c =
    fits greatest_numbers c.greatest_of-a.ensures c.in-Err.is c.in-Err.f _ refl (greatest_small _ _ _ _)
