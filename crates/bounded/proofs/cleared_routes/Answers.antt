use Rattle.std.proofs.Common.{ap, ◌∙◌}
use Rattle.std.proofs.lemmas.List.{take-map}
use Rattle.schedule.specs.Schedules.{padded, empty_route}
use Rattle.bounded.specs.Bounded.{cleared_route}
use Rattle.bounded.proofs.Zeros.{route_zero, rest_filled, mapped}
use Rattle.bounded.proofs.cleared_routes.Goals as goal

pub returns : goal.returns
returns c =
    let four = c.well_formed.0.1.0.1 in
    let z = route_zero c.default.result c.default.ensures in
    let m = mapped _ _ cleared_route empty_route empty_route c.args.routes c.map-out.result 4 four (λ p q x y k. k.met) c.map-out.ensures.items in
    rest_filled _ 4 _ c.map-out.ensures.items.long _ _ c.min.ensures _ (rw z at (c.fill.ensures.after (λ y e. e)))
    ∙ rw m (ap (padded 4 empty_route) (take-map cleared_route c.args.chains c.args.routes))
