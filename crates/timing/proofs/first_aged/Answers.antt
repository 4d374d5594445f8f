use mathlib.Core.Path.{◌∙◌}
use Rattle.chain.specs.Flat.{in_last}
use Rattle.timing.proofs.Whole.{some_place, last_inside, last_place_small, first_aged_is, first_aged_fits}
use Rattle.timing.proofs.first_aged.Goals as goal

pub overflow_sub-n : goal.overflow_sub-n
overflow_sub-n c = some_place _ _ c.requires

pub task_at-last-requires : goal.task_at-last-requires
task_at-last-requires c = let k = c.requires in (last_inside _ _ k, last_place_small _ _ k)

pub write-requires : goal.write-requires
write-requires c = first_aged_fits _ c.requires _ (in_last c.args.gap c.args.tasks.now) _ c.warm_last.ensures _ c.task_at-last.ensures

pub returns : goal.returns
returns c = c.write.ensures ∙ first_aged_is _ c.requires _ (in_last c.args.gap c.args.tasks.now) _ c.warm_last.ensures _ c.task_at-last.ensures
