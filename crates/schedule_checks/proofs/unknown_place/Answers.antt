use Rattle.std.proofs.Common.{◌∙◌, sym, ap, map}
use Rattle.std.specs.Prelude.{ℕ, Option, is_some}
use Rattle.std.proofs.lemmas.List.{at_drop_more, at_drop_all}
use Rattle.chain.specs.Checks.{found}
use Rattle.chain.proofs.Found.{none_found}
use Rattle.schedule.specs.Schedules.{places_of, no_route}
use Rattle.schedule_checks.specs.Checks.{unknown_place}
use Rattle.schedule_checks.proofs.SoundSchedule.{placed_at}
use Rattle.schedule_checks.proofs.Faults.{chains_past, chains_here, chains_none}
use Rattle.schedule_checks.proofs.unknown_place.Goals as goal

pub shared_ref_as_front-first_unknown : goal.shared_ref_as_front-first_unknown
shared_ref_as_front-first_unknown c = (placed_at c.args.routes.now c.requires c.loop-route.route-index c.loop-route-test.true).1

pub returns-then-is_some : goal.returns-then-is_some
returns-then-is_some c =
    let l = c.loop-route in
    let more = at_drop_more (λ rs. unknown_place c.args.numbers.now (map places_of rs)) c.args.routes.now l.route-index no_route c.loop-route-test.true in
    c.first_unknown-unknown.ensures ∙ sym (ap found (l.invariant ∙ more ∙ chains_here _ _ _ (ap (λ (o : Option ℕ). is_some o) (sym c.first_unknown-unknown.ensures) ∙ sym c.is_some.ensures ∙ c.if-is_some.true)))

pub loop-route-preserved : goal.loop-route-preserved
loop-route-preserved c =
    let l = c.loop-route in
    let more = at_drop_more (λ rs. unknown_place c.args.numbers.now (map places_of rs)) c.args.routes.now l.route-index no_route c.loop-route-test.true in
    l.invariant ∙ more ∙ chains_past _ _ _ (ap (λ (o : Option ℕ). is_some o) (sym c.first_unknown-unknown.ensures) ∙ sym c.is_some.ensures ∙ c.if-is_some.false)

pub returns : goal.returns
returns c =
    let l = c.loop-route in
    none_found _ (l.invariant ∙ at_drop_all (λ rs. unknown_place c.args.numbers.now (map places_of rs)) c.args.routes.now l.route-index c.loop-route-test.false ∙ chains_none c.args.numbers.now)
