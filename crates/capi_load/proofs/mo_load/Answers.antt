use mathlib.Core.Path.{ap, ◌∙◌}
use Rattle.load.proofs.Passes.{small_refusal}
use Rattle.capi_load.specs.Calls.{load_code, load_numbers}
use Rattle.capi_load.proofs.mo_load.Goals as goal

pub code-requires : goal.code-requires
code-requires c = small_refusal _ _ _ c.in-Err.ensures

pub returns-in-Ok : goal.returns-in-Ok
returns-in-Ok c = record { answers = ap load_code c.in-Ok.ensures; gives_tasks = c.flat.ensures ∙ ap load_numbers c.in-Ok.ensures }

pub returns-in-Err : goal.returns-in-Err
returns-in-Err c = record { answers = c.code.ensures ∙ ap load_code c.in-Err.ensures; gives_tasks = ap load_numbers c.in-Err.ensures }
