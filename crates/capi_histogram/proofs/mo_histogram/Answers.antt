use mathlib.Core.Path.{refl}
use Rattle.refusal.proofs.Arms.{fits}
use Rattle.capi_histogram.specs.Calls.{histogram_numbers}
use Rattle.capi_histogram.proofs.Small.{histogram_small}
use Rattle.capi_histogram.proofs.mo_histogram.Goals as goal

pub code-requires : goal.code-requires
code-requires c =
    fits histogram_numbers c.histogram_of-a.ensures.answer c.in-Err.is c.in-Err.f _ refl (histogram_small _ _ _ _ _ _)
