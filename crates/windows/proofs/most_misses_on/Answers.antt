use Rattle.std.specs.Prelude.{Ok}
use Rattle.std.proofs.lemmas.Result.{err_from_is_err_and}
use native.Mathlib.Omega.{arith}
use mathlib.Core.Path.{◌≡◌, sym}
use lib.ListN.{get_or}
use Rattle.chain.specs.Flat.{given_in, tasks_in}
use Rattle.chain.proofs.CheckLaws.{FactsIn, accepted_in}
use Rattle.timing.proofs.Entries.{no_job}
use Rattle.timing.proofs.Exits.{entry_job}
use Rattle.windows.proofs.Answered.{passed}
use Rattle.windows.proofs.Exits.{judged_in, windows_refused, Call, period_pos, some_start, last_small, look_runs, windows_full, windows_most}
use Rattle.windows.proofs.most_misses_on.Goals as goal
use Rattle.windows.proofs.most_misses_on.Goals.{After-task_at-place, In_ok-h}

-- where the checks accept
yes : (c : In_ok-h) → judged_in c.args.gap (given_in c.args.tasks.now) c.args.k ≡ Ok c.in_ok-h.h
yes c = sym (rw c.check_on.ensures at c.in_ok-h.ensures)

facts : (c : In_ok-h) → FactsIn (tasks_in c.args.gap c.args.tasks.now) c.in_ok-h.h
facts c = accepted_in c.args.gap (given_in c.args.tasks.now) _ (passed _ _ _ (yes c)).whole

pub returns-in_err-h : goal.returns-in_err-h
returns-in_err-h c =
    let a = c.args in
    let p = err_from_is_err_and c.from_residual.result c.from_residual.ensures.1 in
    rw (p.1, p.2) (windows_refused a.gap (given_in a.tasks.now) a.b a.k _ (sym (rw c.check_on.ensures at c.in_err-h.ensures)))

pub warm_jobs-jobs-requires : goal.warm_jobs-jobs-requires
warm_jobs-jobs-requires c = (facts c).sound

pub task_at-place-requires : goal.task_at-place-requires
task_at-place-requires c = ((facts (goal.at.task_at-place-requires c).In_ok-h).sound.some, omega arith)

-- what is known from here on
call : (c : After-task_at-place) → Call c.args.gap (given_in c.args.tasks.now) c.args.k c.in_ok-h.h (get_or c.warm_jobs-jobs.result 0 no_job).0 c.task_at-place.result
call c =
    let y = sym (rw c.check_on.ensures at c.in_ok-h.ensures) in
    let s = (accepted_in c.args.gap (given_in c.args.tasks.now) _ (passed _ _ _ y).whole).sound in
    record { accepted = y; warm = entry_job _ s _ c.warm_jobs-jobs.ensures 0 s.some; first = c.task_at-place.ensures }

pub overflow_add-from : goal.overflow_add-from
overflow_add-from c = omega (arith, some_start _ _ _ _ _ _ (call (goal.at.overflow_add-from c).After-task_at-place), last_small _ _ _ _ _ _ (call (goal.at.overflow_add-from c).After-task_at-place))

pub nonzero_div-last : goal.nonzero_div-last
nonzero_div-last c = period_pos _ _ _ _ _ _ (call (goal.at.nonzero_div-last c).After-task_at-place)

pub overflow_add-last : goal.overflow_add-last
overflow_add-last c = omega (arith, last_small _ _ _ _ _ _ (call (goal.at.overflow_add-last c).After-task_at-place))

pub scan-seen-requires : goal.scan-seen-requires
scan-seen-requires c = let r = look_runs _ _ _ _ _ _ (call (goal.at.scan-seen-requires c).After-task_at-place) in (r.0, r.1, r.2, omega (arith, r.3), r.4)

pub returns-then-full-last : goal.returns-then-full-last
returns-then-full-last c = windows_full _ _ _ _ _ _ (call (goal.at.returns-then-full-last c).After-task_at-place) _ _ _ c.scan-seen.ensures (omega (arith, c.if-full-last.true))

pub scan-found-requires : goal.scan-found-requires
scan-found-requires c = let r = look_runs _ _ _ _ _ _ (call (goal.at.scan-found-requires c).After-task_at-place) in (r.0, r.1, r.2, omega (arith, r.3), r.4)

pub returns : goal.returns
returns c =
    let e = c.before in
    windows_most _ _ _ _ _ _ (call (goal.at.returns c).After-task_at-place) _ _ _ _ _ e.scan-seen.ensures (omega (arith, e.if-full-last.false)) c.scan-found.ensures
