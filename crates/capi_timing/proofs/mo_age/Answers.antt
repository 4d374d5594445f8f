use mathlib.Core.Path.{◌≡◌, ap, ◌∙◌}
use Rattle.timing.specs.Answers.{age_of}
use Rattle.timing.specs.Standing.{age_stands}
use Rattle.capi_chain.specs.FlatChain.{chain_from}
use Rattle.capi_chain.proofs.Given.{Given, given}
use Rattle.capi_timing.specs.Calls.{span_code, span_ticks}
use Rattle.capi_timing.proofs.Small.{answer_small}
use Rattle.capi_timing.proofs.mo_age.Goals as goal
use Rattle.capi_timing.proofs.mo_age.Goals.{After-age_on, After-flat_length-n}

front : (c : After-flat_length-n) → Given c.args.tasks.now c.args.places c.args.gap c.flat_length-n.result
front c = given _ _ _ _ c.flat_length-n.ensures

answer : (c : After-age_on) → c.age_on.result ≡ age_of (chain_from c.args.tasks.now c.args.places c.args.gap) c.args.z
answer c = c.age_on.ensures ∙ age_stands _ _ _ (given _ _ _ _ c.flat_length-n.ensures).stands _

pub slice_bounds-age_on-end : goal.slice_bounds-age_on-end
slice_bounds-age_on-end c = (front c).long

pub give-requires : goal.give-requires
give-requires c = answer_small _ _ _ _ _ (answer (goal.at.give-requires c).After-age_on)

pub returns : goal.returns
returns c = (c.give.ensures.0 ∙ ap span_code (answer (goal.at.returns c).After-age_on), c.give.ensures.1 ∙ ap span_ticks (answer (goal.at.returns c).After-age_on))
