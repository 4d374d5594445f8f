use Rattle.std.proofs.Common.{arith, ◌∙◌, sym, ap, length, get_or}
use Rattle.std.proofs.lemmas.List.Edits.{sets}
use Rattle.schedule.specs.Schedules.{places_of, no_route}
use Rattle.schedule_checks.proofs.SoundSchedule.{placed_at}
use Rattle.file_writer.specs.FileBytes.{chain_bytes}
use Rattle.file_writer.proofs.Stores.{run_long, left_long, left_none, routes_turn}
use Rattle.file_writer.proofs.put_routes.Goals as goal

pub put_route-at-requires : goal.put_route-at-requires
put_route-at-requires c =
    let l = c.loop-route in
    let rs = c.args.routes.now in
    let more = left_long rs l.route-index c.loop-route-test.true in
    ((placed_at rs c.requires.0 l.route-index c.loop-route-test.true).1, omega (arith, more, l.invariant.2, l.invariant.0, c.requires.1))

pub loop-route-preserved : goal.loop-route-preserved
loop-route-preserved c =
    let l = c.loop-route in
    let rs = c.args.routes.now in
    let more = left_long rs l.route-index c.loop-route-test.true in
    let put = c.put_route-at.ensures in (
      run_long l.out _ l.at _ (chain_bytes (places_of (get_or rs l.route-index no_route))) put.0 l.invariant.0,
      l.invariant.1 ∙ routes_turn rs l.route-index c.loop-route-test.true _ _ _ _ (sym put.1) put.0,
      omega (arith, more, put.1, l.invariant.2),
    )

pub returns : goal.returns
returns c =
    let l = c.loop-route in
    let none = left_none c.args.routes.now l.route-index c.loop-route-test.false in
    (sym (l.invariant.1 ∙ ap (sets l.out l.at) none), omega (arith, ap length none, l.invariant.2))
