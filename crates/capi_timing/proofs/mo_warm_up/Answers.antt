use mathlib.Core.Path.{◌≡◌, sym, ap, ◌∙◌}
use Rattle.timing.specs.Answers.{warm_up_of}
use Rattle.timing.specs.Standing.{warm_up_stands}
use Rattle.capi_chain.specs.FlatChain.{chain_from}
use Rattle.capi_chain.proofs.Given.{Given, given}
use Rattle.capi_timing.specs.Calls.{warm_code, warm_job_numbers, warm_tick_number, warm_hyper_number}
use Rattle.capi_timing.proofs.Small.{warm_fits}
use Rattle.capi_timing.proofs.mo_warm_up.Goals as goal
use Rattle.capi_timing.proofs.mo_warm_up.Goals.{After-flat_length-n, After-warm_up_on}

front : (c : After-flat_length-n) → Given c.args.tasks.now c.args.places c.args.gap c.flat_length-n.result
front c = given _ _ _ _ c.flat_length-n.ensures

answer : (c : After-warm_up_on) → c.warm_up_on.result ≡ warm_up_of (chain_from c.args.tasks.now c.args.places c.args.gap)
answer c = c.warm_up_on.ensures ∙ warm_up_stands _ _ _ (given _ _ _ _ c.flat_length-n.ensures).stands

pub slice_bounds-warm_up_on-end : goal.slice_bounds-warm_up_on-end
slice_bounds-warm_up_on-end c = (front c).long

pub code-requires : goal.code-requires
code-requires c = warm_fits (chain_from c.args.tasks.now c.args.places c.args.gap) _ _ (answer (goal.at.code-requires c).After-warm_up_on) c.in-Err.is

pub returns-in-Ok : goal.returns-in-Ok
returns-in-Ok c =
    let e = sym c.in-Ok.is ∙ answer (goal.at.returns-in-Ok c).After-warm_up_on in
    record { answers = ap warm_code e; gives_jobs = c.job_numbers.ensures ∙ ap warm_job_numbers e; gives_tick = ap warm_tick_number e; gives_hyperperiod = ap warm_hyper_number e }

pub returns-in-Err : goal.returns-in-Err
returns-in-Err c =
    let e = sym c.in-Err.is ∙ answer (goal.at.returns-in-Err c).After-warm_up_on in
    record { answers = c.code.ensures ∙ ap warm_code e; gives_jobs = ap warm_job_numbers e; gives_tick = ap warm_tick_number e; gives_hyperperiod = ap warm_hyper_number e }
