use Rattle.std.proofs.Common.{◌≡◌, refl, arith, ap, ◌∙◌}
use Rattle.capi_schedule.specs.FlatSchedule.{place_in}
use Rattle.capi_schedule.proofs.Flat.{from_calls}
use Rattle.capi_schedule.proofs.flat_routes.Goals as goal

pub returns : goal.returns
returns c =
    from_calls 48 c.from_fn.ensures.items 0 (place_in c.args.routes) (λ p. p.0.now ≡ c.args.routes) refl (λ p q i y same called. (ap (λ (r : _). r.now) called.met.1 ∙ same, grind (arith, called.met.0)))
