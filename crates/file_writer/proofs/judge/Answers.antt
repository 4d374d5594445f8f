use native.Mathlib.Omega.{arith}
use Prim.Native.Nat.{◌+◌, ◌*◌}
use mathlib.Core.Path.{◌≡◌}
use lib.ListN.{length, length-take}
use Rattle.std.proofs.lemmas.Result.{err_from_is_err_and}
use Rattle.schedule_checks.proofs.Passed.{number_passed}
use Rattle.schedule_checks.proofs.SoundSchedule.{SoundSchedule, sound}
use Rattle.file_writer.specs.FileBytes.{file_bytes}
use Rattle.file_writer.proofs.Room.{file_long, fault_refused, too_short, long_enough}
use Rattle.file_writer.proofs.judge.Goals as goal
use Rattle.file_writer.proofs.judge.Goals.{After-gap_length, In_ok-check}

-- the schedule is sound
is_sound : (c : In_ok-check) → SoundSchedule c.args.s
is_sound c = sound c.args.s (number_passed _ _ c.in_ok-check.ensures)

-- the length that the code works out
whole : (c : After-gap_length) → 18 * c.args.s.count + c.routes_length.result + c.gap_length.result + 4 ≡ length (file_bytes c.args.s)
whole c =
    let n : length c.args.s.tasks ≡ 32 = c.well_formed.0.1.1.0.1.0.1 in
    omega (arith, file_long c.args.s n (sound c.args.s (number_passed _ _ c.in_ok-check.ensures)).few, c.routes_length.ensures.0, c.gap_length.ensures.0)

pub returns-in_err-check : goal.returns-in_err-check
returns-in_err-check c =
    let p = err_from_is_err_and c.from_residual.result c.from_residual.ensures.1 in
    rw (p.1, p.2) (fault_refused c.args.s c.args.lent _ c.in_err-check.ensures)

pub overflow_mul-long : goal.overflow_mul-long
overflow_mul-long c = omega (arith, (is_sound (goal.at.overflow_mul-long c).In_ok-check).few)

pub shared_ref_as_front-routes_length : goal.shared_ref_as_front-routes_length
shared_ref_as_front-routes_length c = omega (arith, (is_sound (goal.at.shared_ref_as_front-routes_length c).In_ok-check).few_chains)

pub routes_length-requires : goal.routes_length-requires
routes_length-requires c = (omega (arith, length-take c.args.s.chains c.args.s.routes, (is_sound (goal.at.routes_length-requires c).In_ok-check).few_chains), (is_sound (goal.at.routes_length-requires c).In_ok-check).placed)

pub overflow_add-long : goal.overflow_add-long
overflow_add-long c = omega (arith, (is_sound (goal.at.overflow_add-long c).In_ok-check).few, c.routes_length.ensures.1)

pub overflow_add-long-2 : goal.overflow_add-long-2
overflow_add-long-2 c = omega (arith, (is_sound (goal.at.overflow_add-long-2 c).In_ok-check).few, c.routes_length.ensures.1, c.gap_length.ensures.1)

pub overflow_add-long-3 : goal.overflow_add-long-3
overflow_add-long-3 c = omega (arith, (is_sound (goal.at.overflow_add-long-3 c).In_ok-check).few, c.routes_length.ensures.1, c.gap_length.ensures.1)

pub returns-then-lent-long : goal.returns-then-lent-long
returns-then-lent-long c = too_short c.args.s c.args.lent (number_passed _ _ c.in_ok-check.ensures) _ (whole (goal.at.returns-then-lent-long c).After-gap_length) c.if-lent-long.true

pub returns : goal.returns
returns c = long_enough c.args.s c.args.lent (number_passed _ _ c.in_ok-check.ensures) _ (whole (goal.at.returns c).After-gap_length) c.if-lent-long.false
