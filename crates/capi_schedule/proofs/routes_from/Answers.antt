use Rattle.std.proofs.Common.{◌≡◌, refl, arith, ◌∙◌}
use Rattle.schedule.specs.Schedules.{empty_route}
use Rattle.capi_schedule.specs.FlatSchedule.{route_from}
use Rattle.capi_schedule.proofs.Flat.{from_calls}
use Rattle.capi_schedule.proofs.routes_from.Goals as goal

pub returns : goal.returns
returns c =
    from_calls 4 c.from_fn.ensures.items empty_route (route_from c.args.chains.now c.args.places.now) (λ p. (p.0 ≡ c.args.chains) × (p.1 ≡ c.args.places)) (refl, refl)
    (λ p q i y same called. ((called.met.1.0 ∙ same.0, called.met.1.1 ∙ same.1), grind (arith, called.met.0)))
