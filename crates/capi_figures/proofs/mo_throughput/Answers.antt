use mathlib.Core.Path.{refl}
use Rattle.capi_figures.specs.Calls.{throughput_numbers}
use Rattle.refusal.proofs.Arms.{fits}
use Rattle.capi_figures.proofs.Small.{throughput_small}
use Rattle.capi_figures.proofs.mo_throughput.Goals as goal

pub code-requires : goal.code-requires
code-requires c =
    fits throughput_numbers c.throughput_of-a.ensures c.in-Err.is c.in-Err.f _ refl (throughput_small _ _ _ _)
