use Rattle.std.proofs.lemmas.Result.{err_from_is_err_and}
use native.Mathlib.Omega.{arith}
use Rattle.schedule.specs.Arrays.{Arrays}
use Rattle.schedule.proofs.ArrayLaws.{arrays}
use Rattle.phase.proofs.Entry.{entry_refused, entry_number, entry_given, entry_answer}
use Rattle.phase.proofs.smallest_phase.Goals as goal
use Rattle.phase.proofs.smallest_phase.Goals.{Start}

-- the arrays of the schedule have their lengths
long : (c : Start) → Arrays c.args.s
long c = arrays c.args.s _ c.well_formed.0

pub returns-in_err-c : goal.returns-in_err-c
returns-in_err-c c =
    let p = err_from_is_err_and c.from_residual.result c.from_residual.ensures.1 in
    rw (p.1, p.2) (entry_refused c.args.s c.args.n c.args.number c.args.bound _ c.in_err-c.ensures)

pub overflow_sub-route : goal.overflow_sub-route
overflow_sub-route c = (entry_number c.args.s c.args.n c.args.number c.args.bound _ c.in_ok-c.ensures (long (goal.at.overflow_sub-route c).Start)).0

pub offset_bounds-s-n : goal.offset_bounds-s-n
offset_bounds-s-n c = omega (arith, (entry_number c.args.s c.args.n c.args.number c.args.bound _ c.in_ok-c.ensures (long (goal.at.offset_bounds-s-n c).Start)).1)

pub bounds-s-n : goal.bounds-s-n
bounds-s-n c = (entry_number c.args.s c.args.n c.args.number c.args.bound _ c.in_ok-c.ensures (long (goal.at.bounds-s-n c).Start)).1

pub phase_in-requires : goal.phase_in-requires
phase_in-requires c = entry_given c.args.s c.args.n c.args.number c.args.bound _ c.in_ok-c.ensures (long (goal.at.phase_in-requires c).Start)

pub returns : goal.returns
returns c = entry_answer c.args.s c.args.n c.args.number c.args.bound _ c.in_ok-c.ensures (long (goal.at.returns c).Start) _ c.phase_in.ensures
