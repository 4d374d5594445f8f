use Rattle.std.proofs.Common.{arith, ap, length}
use Rattle.schedule_checks.proofs.SoundSchedule.{placed_at}
use Rattle.file_writer.proofs.Stores.{left_long, left_none}
use Rattle.file_writer.proofs.routes_length.Goals as goal

pub route_length-long-requires : goal.route_length-long-requires
route_length-long-requires c = (placed_at c.args.routes.now c.requires.1 c.loop-route.route-index c.loop-route-test.true).1

pub loop-route-preserved : goal.loop-route-preserved
loop-route-preserved c =
    let l = c.loop-route in
    let more = left_long c.args.routes.now l.route-index c.loop-route-test.true in
    (omega (arith, c.route_length-long.ensures.1, l.invariant.0), omega (arith, more, c.route_length-long.ensures.0, l.invariant.1))

pub returns : goal.returns
returns c =
    let l = c.loop-route in
    let rs = c.args.routes.now in
    let done = ap length (left_none rs l.route-index c.loop-route-test.false) in
    (omega (arith, done, l.invariant.1), omega (arith, l.invariant.0, c.requires.0))
