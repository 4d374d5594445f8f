use mathlib.Core.Path.{◌≡◌, sym, ap, ◌∙◌}
use Rattle.chain.specs.Checks.{verdict_of}
use Rattle.capi_chain.specs.FlatChain.{chain_from}
use Rattle.capi_chain.proofs.Given.{Given, given}
use Rattle.capi_timing.specs.Calls.{verdict_code, verdict_hyper}
use Rattle.capi_timing.proofs.Small.{verdict_fits}
use Rattle.capi_timing.proofs.mo_check.Goals as goal
use Rattle.capi_timing.proofs.mo_check.Goals.{After-check_on-v, After-flat_length-n}

front : (c : After-flat_length-n) → Given c.args.tasks.now c.args.places c.args.gap c.flat_length-n.result
front c = given _ _ _ _ c.flat_length-n.ensures

answer : (c : After-check_on-v) → c.check_on-v.result ≡ verdict_of (chain_from c.args.tasks.now c.args.places c.args.gap)
answer c = c.check_on-v.ensures ∙ (given _ _ _ _ c.flat_length-n.ensures).stands.verdict

pub slice_bounds-check_on-end : goal.slice_bounds-check_on-end
slice_bounds-check_on-end c = (front c).long

pub code-requires : goal.code-requires
code-requires c = verdict_fits _ _ _ (answer (goal.at.code-requires c).After-check_on-v) c.in-Err.is

pub returns-in-Ok : goal.returns-in-Ok
returns-in-Ok c =
    let e = sym c.in-Ok.is ∙ answer (goal.at.returns-in-Ok c).After-check_on-v in
    (ap verdict_code e, ap verdict_hyper e)

pub returns-in-Err : goal.returns-in-Err
returns-in-Err c =
    let e = sym c.in-Err.is ∙ answer (goal.at.returns-in-Err c).After-check_on-v in
    (c.code.ensures ∙ ap verdict_code e, ap verdict_hyper e)
