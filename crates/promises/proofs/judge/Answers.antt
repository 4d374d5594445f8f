use Rattle.std.proofs.lemmas.Result.{err_from_is_err_and}
use mathlib.Core.Path.{◌≡◌}
use Rattle.bounded.specs.Cleared.{BoundedArrays}
use Rattle.bounded.proofs.ArrayLaws.{bounded_arrays}
use Rattle.schedule_checks.proofs.Passed.{number_passed}
use Rattle.promises.specs.Promises.{checks_of}
use Rattle.promises.proofs.Turns.{checks_first, all_kept, one_above}
use Rattle.promises.proofs.judge.Goals as goal
use Rattle.promises.proofs.judge.Goals.{Start, In_ok-check}

long : (c : Start) → BoundedArrays c.args.b
long c = bounded_arrays c.args.b _ c.well_formed.0

-- the checks pass
fine : (c : In_ok-check) → (checks_of c.args.b.schedule).number ≡ 0
fine c = number_passed _ _ c.in_ok-check.ensures

pub returns-in_err-check : goal.returns-in_err-check
returns-in_err-check c =
    let p = err_from_is_err_and c.from_residual.result c.from_residual.ensures.1 in
    rw (p.1, p.2) (checks_first c.args.b _ c.in_err-check.ensures)

pub returns-then-at_most_each : goal.returns-then-at_most_each
returns-then-at_most_each c = all_kept c.args.b (long (goal.at.returns-then-at_most_each c).Start) (fine (goal.at.returns-then-at_most_each c).In_ok-check) _ c.latencies_of-latencies.ensures c.at_most_each.result c.at_most_each.ensures c.if-at_most_each.true

pub returns : goal.returns
returns c = one_above c.args.b (long (goal.at.returns c).Start) (fine (goal.at.returns c).In_ok-check) _ c.latencies_of-latencies.ensures c.at_most_each.result c.at_most_each.ensures c.if-at_most_each.false
