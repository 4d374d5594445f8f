use mathlib.Core.Path.{◌≡◌, sym, ap, ◌∙◌}
use Rattle.sections.specs.Sections.{sections_answer}
use Rattle.sections.specs.Standing.{sections_stands}
use Rattle.capi_chain.specs.FlatChain.{chain_from}
use Rattle.capi_chain.proofs.Given.{Given, given}
use Rattle.capi_sections.specs.Calls.{sections_code, latency_numbers, count_number, sum_number}
use Rattle.capi_sections.proofs.Gives.{code_fits}
use Rattle.capi_sections.proofs.mo_sections.Goals as goal
use Rattle.capi_sections.proofs.mo_sections.Goals.{After-flat_length-n, After-section_latencies_on}

front : (c : After-flat_length-n) → Given c.args.tasks.now c.args.places c.args.gap c.flat_length-n.result
front c = given _ _ _ _ c.flat_length-n.ensures

answer : (c : After-section_latencies_on) → c.section_latencies_on.result ≡ sections_answer (chain_from c.args.tasks.now c.args.places c.args.gap) c.args.cuts.now
answer c = c.section_latencies_on.ensures ∙ sections_stands _ _ _ (given _ _ _ _ c.flat_length-n.ensures).stands _

pub slice_bounds-section_latencies_on-end : goal.slice_bounds-section_latencies_on-end
slice_bounds-section_latencies_on-end c = (front c).long

pub code-requires : goal.code-requires
code-requires c = code_fits _ _ _ (sym (answer (goal.at.code-requires c).After-section_latencies_on) ∙ c.in-Err.is)

pub returns-in-Ok : goal.returns-in-Ok
returns-in-Ok c =
    let e = sym c.in-Ok.is ∙ answer (goal.at.returns-in-Ok c).After-section_latencies_on in
    record { answers = ap sections_code e; gives_latencies = ap latency_numbers e; gives_count = ap count_number e; gives_sum = ap sum_number e }

pub returns-in-Err : goal.returns-in-Err
returns-in-Err c =
    let e = sym c.in-Err.is ∙ answer (goal.at.returns-in-Err c).After-section_latencies_on in
    record { answers = c.code.ensures ∙ ap sections_code e; gives_latencies = ap latency_numbers e; gives_count = ap count_number e; gives_sum = ap sum_number e }
