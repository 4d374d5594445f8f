use Rattle.std.proofs.Common.{◌*◌, arith, refl, get_or, ◌∙◌}
use Rattle.schedule.specs.Schedules.{zero_numbered}
use Rattle.capi_schedule.specs.FlatSchedule.{numbered_fields}
use Rattle.capi_schedule.proofs.Flat.{flat_none, flat_turn, flat_end, four_stores}
use Rattle.capi_schedule.proofs.flat_tasks.Goals as goal

pub loop-i-init : goal.loop-i-init
loop-i-init c = flat_none numbered_fields 4 (λ t. refl) 128 c.args.tasks

pub loop-i-preserved : goal.loop-i-preserved
loop-i-preserved c =
    let l = c.loop-i in
    let t = get_or c.args.tasks l.i zero_numbered in
    four_stores l.flat (4 * l.i) t.number t.task.period t.task.duration t.task.phase
    ∙ flat_turn numbered_fields 4 (λ x. refl) 128 zero_numbered c.args.tasks l.i l.flat (omega (arith, c.well_formed.0.1.0.1)) (omega (arith, c.well_formed.0.1.0.1)) l.invariant

pub returns : goal.returns
returns c =
    let l = c.loop-i in
    flat_end numbered_fields 4 (λ x. refl) 128 c.args.tasks l.i l.flat (omega (arith, c.well_formed.0.1.0.1)) (omega (arith, c.well_formed.0.1.0.1)) l.invariant
