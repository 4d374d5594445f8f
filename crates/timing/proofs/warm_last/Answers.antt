use native.Mathlib.Omega.{arith}
use Rattle.chain.specs.Flat.{in_last}
use Rattle.timing.proofs.Whole.{some_place, last_inside, start_fits, warm_last_is}
use Rattle.timing.proofs.warm_last.Goals as goal

pub overflow_sub-tasks : goal.overflow_sub-tasks
overflow_sub-tasks c = some_place _ _ c.requires

pub forward_on-requires : goal.forward_on-requires
forward_on-requires c =
    let k = c.requires in
    (k, omega arith, last_inside _ _ k, start_fits _ k)

pub returns : goal.returns
returns c = warm_last_is _ c.requires _ (in_last c.args.gap c.args.tasks.now) _ c.forward_on.ensures
