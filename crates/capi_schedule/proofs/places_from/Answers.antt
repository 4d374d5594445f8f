use Rattle.std.proofs.Common.{◌≡◌, refl, arith, ap, ◌∙◌}
use Rattle.capi_schedule.specs.FlatSchedule.{place_from}
use Rattle.capi_schedule.proofs.Flat.{from_calls}
use Rattle.capi_schedule.proofs.places_from.Goals as goal

pub returns : goal.returns
returns c =
    from_calls 12 c.from_fn.ensures.items 0 (place_from c.args.list.now c.args.from) (λ p. (p.0 ≡ c.args.list) × (p.1.now ≡ c.args.from)) (refl, refl)
    (λ p q i y same called. ((called.met.1.0 ∙ same.0, ap (λ (b : _). b.now) called.met.1.1 ∙ same.1), grind (arith, called.met.0)))
