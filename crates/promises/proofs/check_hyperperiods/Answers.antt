use Rattle.std.proofs.lemmas.Result.{err_from_is_err_and}
use Rattle.schedule_checks.specs.Checks.{passed}
use native.Mathlib.Omega.{arith}
use mathlib.Core.Path.{sym, ap, ◌∙◌}
use Rattle.schedule.specs.Arrays.{Arrays}
use Rattle.schedule.proofs.ArrayLaws.{arrays}
use Rattle.schedule_checks.proofs.SoundSchedule.{SoundSchedule, sound}
use Rattle.promises.proofs.Turns.{turn_on, turn_off, turn_end}
use Rattle.promises.proofs.check_hyperperiods.Goals as goal
use Rattle.promises.proofs.check_hyperperiods.Goals.{Start}

-- the arrays of the schedule have their lengths
long : (c : Start) → Arrays c.args.s
long c = arrays c.args.s _ c.well_formed.0

known : (c : Start) → SoundSchedule c.args.s
known c = sound c.args.s c.requires

pub offset_bounds-s-i : goal.offset_bounds-s-i
offset_bounds-s-i c = omega (arith, (known (goal.at.offset_bounds-s-i c).Start).few_chains)

pub bounds-s-i : goal.bounds-s-i
bounds-s-i c = omega (arith, (known (goal.at.bounds-s-i c).Start).few_chains)

pub returns-in_err-check : goal.returns-in_err-check
returns-in_err-check c =
    let s = (goal.at.returns-in_err-check c).Start in
    let p = err_from_is_err_and c.from_residual.result c.from_residual.ensures.1 in
    rw (p.1, p.2)
    (turn_off c.args.s (long s) (known s) c.loop-i.i (omega arith) _ c.chain_of-c.ensures _ c.check.ensures _ c.in_err-check.was ∙ ap passed (sym c.loop-i.invariant))

pub loop-i-preserved : goal.loop-i-preserved
loop-i-preserved c =
    let s = (goal.at.loop-i-preserved c).Start in
    c.loop-i.invariant ∙ turn_on c.args.s (long s) (known s) c.loop-i.i (omega arith) _ c.chain_of-c.ensures _ c.check.ensures _ c.in_ok-check.was

pub returns : goal.returns
returns c =
    let s = (goal.at.returns c).Start in
    ap passed (sym (c.loop-i.invariant ∙ turn_end c.args.s (long s) (known s) c.loop-i.i (omega arith)))
