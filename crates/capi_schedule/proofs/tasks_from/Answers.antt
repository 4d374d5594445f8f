use Rattle.std.proofs.Common.{◌≡◌, refl, arith, ◌∙◌}
use Rattle.schedule.specs.Schedules.{zero_numbered}
use Rattle.capi_schedule.specs.FlatSchedule.{numbered_at}
use Rattle.capi_schedule.proofs.Flat.{from_calls}
use Rattle.capi_schedule.proofs.tasks_from.Goals as goal

pub returns : goal.returns
returns c =
    from_calls 32 c.from_fn.ensures.items zero_numbered (numbered_at c.args.list.now) (λ p. p.0 ≡ c.args.list) refl (λ p q i y same called. (called.met.1 ∙ same, grind (arith, called.met.0)))
