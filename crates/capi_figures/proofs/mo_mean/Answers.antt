use mathlib.Core.Path.{refl}
use Rattle.capi_figures.specs.Calls.{mean_numbers}
use Rattle.refusal.proofs.Arms.{fits}
use Rattle.capi_figures.proofs.Small.{mean_small}
use Rattle.capi_figures.proofs.mo_mean.Goals as goal

pub code-requires : goal.code-requires
code-requires c =
    fits mean_numbers c.mean_of-a.ensures c.in-Err.is c.in-Err.f _ refl (mean_small _ _ _ _)
