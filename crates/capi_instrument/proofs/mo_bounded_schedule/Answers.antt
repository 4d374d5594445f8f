use mathlib.Core.Path.{ap}
use Rattle.schedule.specs.declared.Schedule.{Schedule}
use Rattle.capi_instrument.specs.Calls.{bounded_from}
use borrow.Author.Rules.{rules}
use Rattle.capi_instrument.proofs.mo_bounded_schedule.Goals as goal

pub returns : goal.returns
returns c = ap (λ (s : Schedule). bounded_from s c.args.bounds.now) c.schedule_from-schedule.ensures
