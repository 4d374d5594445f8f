use Rattle.std.specs.Prelude.{ℕ, Option, Ok}
use mathlib.Core.Path.{ap, ◌∙◌}
use Rattle.capi_phase.proofs.Gives.{gives_phase, gives_none, refuses, code_fits}
use borrow.Author.Rules.{rules}
use Rattle.capi_phase.proofs.mo_smallest_phase.Goals as goal

pub code-requires : goal.code-requires
code-requires c = code_fits _ _ _ _ _ _ c.schedule_from-s.ensures c.smallest_phase-a.ensures _ c.in-Err.is

pub returns-in-Some : goal.returns-in-Some
returns-in-Some c = gives_phase _ _ _ _ _ _ c.schedule_from-s.ensures c.smallest_phase-a.ensures _ (c.in-Ok.is ∙ ap (λ (x : Option ℕ). Ok x) c.in-Some.is)

pub returns-in-None : goal.returns-in-None
returns-in-None c = gives_none _ _ _ _ _ _ c.schedule_from-s.ensures c.smallest_phase-a.ensures (c.in-Ok.is ∙ ap (λ (x : Option ℕ). Ok x) c.in-None.is)

pub returns-in-Err : goal.returns-in-Err
returns-in-Err c = refuses _ _ _ _ _ _ c.schedule_from-s.ensures c.smallest_phase-a.ensures _ _ c.in-Err.is c.code.ensures
