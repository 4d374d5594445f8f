use Rattle.std.proofs.Common.{arith}
use Rattle.capi_timing.proofs.Numbers.{no_job, numbers_are}
use Rattle.capi_timing.proofs.job_numbers.Goals as goal

pub returns : goal.returns
returns c =
    let items = c.map.ensures.items in
    numbers_are 12 c.args.all c.map.result c.well_formed.0.1.0.1 items.long (λ x h. grind (arith, items.at x no_job 0 h))
