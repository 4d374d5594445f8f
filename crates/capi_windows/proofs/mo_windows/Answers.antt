use mathlib.Core.Path.{◌≡◌, refl, ◌∙◌}
use Rattle.capi_chain.specs.FlatChain.{chain_from}
use Rattle.capi_chain.proofs.Given.{Given, given}
use Rattle.windows.specs.Windows.{windows_of}
use Rattle.windows.specs.Standing.{windows_stands}
use Rattle.refusal.proofs.Arms.{gives, gives_refusal}
use Rattle.capi_windows.specs.Calls.{window_numbers}
use Rattle.capi_windows.proofs.Gives.{code_fits}
use Rattle.capi_windows.proofs.mo_windows.Goals as goal
use Rattle.capi_windows.proofs.mo_windows.Goals.{After-flat_length-n, After-most_misses_on}

front : (c : After-flat_length-n) → Given c.args.tasks.now c.args.places c.args.gap c.flat_length-n.result
front c = given _ _ _ _ c.flat_length-n.ensures

answer : (c : After-most_misses_on) → c.most_misses_on.result ≡ windows_of (chain_from c.args.tasks.now c.args.places c.args.gap) c.args.b c.args.k
answer c = c.most_misses_on.ensures ∙ windows_stands _ _ _ (given _ _ _ _ c.flat_length-n.ensures).stands _ _

pub slice_bounds-most_misses_on-end : goal.slice_bounds-most_misses_on-end
slice_bounds-most_misses_on-end c = (front c).long

pub code-requires : goal.code-requires
code-requires c =
    let a = c.args in
    code_fits (chain_from a.tasks.now a.places a.gap) a.b a.k _ _ (answer (goal.at.code-requires c).After-most_misses_on) c.in-Err.is

pub returns-in-Ok : goal.returns-in-Ok
returns-in-Ok c = gives window_numbers (answer (goal.at.returns-in-Ok c).After-most_misses_on) c.in-Ok.is

pub returns-in-Err : goal.returns-in-Err
returns-in-Err c = gives_refusal window_numbers (answer (goal.at.returns-in-Err c).After-most_misses_on) c.in-Err.is c.in-Err.r _ refl _ c.code.ensures
