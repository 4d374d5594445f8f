use native.Mathlib.Omega.{arith}
use mathlib.Core.Path.{ap, ◌∙◌}
use lib.ListN.{take}
use Rattle.chain.specs.Chains.{placed, tasks_of}
use Rattle.chain.specs.Flat.{given_in}
use Rattle.chain.specs.Hyperperiod.{hyper_of}
use Rattle.chain.proofs.CheckLaws.{FactsIn, accepted_in}
use Rattle.chain.proofs.Filling.{Lent, lent}
use Rattle.latency.specs.Latency.{greatest_latency}
use Rattle.promises.proofs.latency_of.Goals as goal
use Rattle.promises.proofs.latency_of.Goals.{After-flat_length-n}

front : (c : After-flat_length-n) → Lent c.args.c c.flat-tasks.result c.flat_length-n.result
front c = lent _ c.well_formed.0.1.1.0.1.0.1 _ c.flat-tasks.ensures _ c.flat_length-n.ensures

-- the lent list is accepted as the chain is
facts : (c : After-flat_length-n) → FactsIn (placed c.args.c.gap (given_in (take c.flat_length-n.result c.flat-tasks.result))) (hyper_of (tasks_of c.args.c))
facts c = let s = c.before in accepted_in s.args.c.gap (given_in (take c.flat_length-n.result c.flat-tasks.result)) (hyper_of (tasks_of s.args.c)) ((front c).stands.verdict ∙ s.requires)

pub greatest_of-requires : goal.greatest_of-requires
greatest_of-requires c = let f = facts (goal.at.greatest_of-requires c).After-flat_length-n in (f.sound, omega (arith, f.hyper, f.small))

pub returns : goal.returns
returns c = c.greatest_of.ensures ∙ ap greatest_latency ((front (goal.at.returns c).After-flat_length-n).stands.tasks _ c.requires)
