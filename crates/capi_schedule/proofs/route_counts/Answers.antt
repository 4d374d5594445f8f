use Rattle.std.proofs.Common.{sym, arith}
use Rattle.ranges.specs.Entries.{entries_are}
use Rattle.schedule.specs.Schedules.{no_route}
use Rattle.capi_schedule.specs.FlatSchedule.{count_in}
use Rattle.capi_schedule.proofs.route_counts.Goals as goal

pub returns : goal.returns
returns c =
    let items = c.map.ensures.items in
    sym (entries_are (count_in c.args.routes) 0 c.map.result 4 items.long (λ i h. grind (arith, items.at i no_route 0 h)))
