use Rattle.std.specs.Prelude.{Ok}
use Rattle.std.proofs.lemmas.Result.{err_from_is_err_and}
use native.Mathlib.Omega.{arith}
use Prim.Native.Nat.{ℕ, ◌+◌, ◌-◌, ◌/◌, ◌<◌}
use mathlib.Core.Path.{◌≡◌, sym, ap, ◌∙◌}
use lib.ListN.{length}
use Rattle.task.specs.declared.Place.{Place}
use Rattle.chain.specs.Checks.{verdict_in}
use Rattle.chain.specs.Flat.{given_in, tasks_in, in_count}
use Rattle.chain.proofs.CheckLaws.{FactsIn, accepted_in}
use Rattle.timing.specs.WarmUp.{warm_tick}
use Rattle.timing.proofs.Whole.{warm_tick_is, warm_tick_fits}
use Rattle.timing.proofs.Exits.{entry_job}
use Rattle.maker.proofs.Exits.{judged_in, judge_in, Well, well, range_fills, made_refused, made_whole, made_short, warm_tick_small}
use Rattle.maker.proofs.make_table_on.Goals as goal
use Rattle.maker.proofs.make_table_on.Goals.{After-read-tick, In_ok-h}

-- in the arm where the checks accept
yes : (c : In_ok-h) → judged_in c.args.gap (given_in c.args.tasks.now) c.args.p (length c.args.starts.now) (length c.args.latencies.now) ≡ Ok c.in_ok-h.h
yes c = sym (c.in_ok-h.ensures ∙ judge_in _ _ _ c.check_on.ensures _ _ _)

fine : (c : In_ok-h) → Well (verdict_in c.args.gap (given_in c.args.tasks.now)) (length (tasks_in c.args.gap c.args.tasks.now)) c.args.p (length c.args.starts.now) (length c.args.latencies.now) c.in_ok-h.h
fine c = well _ _ _ _ _ _ (yes c)

facts : (c : In_ok-h) → FactsIn (tasks_in c.args.gap c.args.tasks.now) c.in_ok-h.h
facts c = accepted_in c.args.gap (given_in c.args.tasks.now) _ (fine c).whole

place : (c : In_ok-h) → c.args.p - 1 < length (tasks_in c.args.gap c.args.tasks.now)
place c = omega (arith, (fine c).low, (fine c).high)

small : (c : In_ok-h) → c.args.p - 1 < 12
small c = omega (arith, place c, (facts c).sound.few)

pub returns-in_err-h : goal.returns-in_err-h
returns-in_err-h c =
    let p = err_from_is_err_and c.from_residual.result c.from_residual.ensures.1 in
    rw (p.1, p.2) (made_refused _ _ _ _ _ _ (sym (c.in_err-h.ensures ∙ judge_in _ _ _ c.check_on.ensures _ _ _)))

pub overflow_sub-q : goal.overflow_sub-q
overflow_sub-q c = (fine c).low

pub warm_jobs-jobs-requires : goal.warm_jobs-jobs-requires
warm_jobs-jobs-requires c = (facts c).sound

pub offset_bounds-jobs-q : goal.offset_bounds-jobs-q
offset_bounds-jobs-q c = omega (arith, small (goal.at.offset_bounds-jobs-q c).In_ok-h)

pub bounds-jobs-q : goal.bounds-jobs-q
bounds-jobs-q c = small (goal.at.bounds-jobs-q c).In_ok-h

pub task_at-first-requires : goal.task_at-first-requires
task_at-first-requires c = ((facts (goal.at.task_at-first-requires c).In_ok-h).sound.some, omega arith)

pub read-tick-requires : goal.read-tick-requires
read-tick-requires c =
    let k = (facts (goal.at.read-tick-requires c).In_ok-h).sound in
    warm_tick_fits _ k _ c.task_at-first.ensures _ (entry_job _ k _ c.warm_jobs-jobs.ensures 0 k.some)

pub task_at-t-requires : goal.task_at-t-requires
task_at-t-requires c = (place (goal.at.task_at-t-requires c).In_ok-h, small (goal.at.task_at-t-requires c).In_ok-h)

-- the warm-up tick, and that it is small
tick : (c : After-read-tick) → c.read-tick.result.0 ≡ warm_tick (tasks_in c.args.gap c.args.tasks.now)
tick c =
    let k = (accepted_in c.args.gap (given_in c.args.tasks.now) _ (well _ _ _ _ _ _ (sym (c.in_ok-h.ensures ∙ judge_in _ _ _ c.check_on.ensures _ _ _))).whole).sound in
    c.read-tick.ensures ∙ warm_tick_is _ k _ c.task_at-first.ensures _ (entry_job _ k _ c.warm_jobs-jobs.ensures 0 k.some)

pub overflow_add-after : goal.overflow_add-after
overflow_add-after c = let v = c.before in omega (arith, tick (goal.at.overflow_add-after c).After-read-tick, warm_tick_small _ (facts (goal.at.overflow_add-after c).In_ok-h).sound, (facts (goal.at.overflow_add-after c).In_ok-h).small)

pub nonzero_div-h : goal.nonzero_div-h
nonzero_div-h c =
    let v = c.before in
    omega (arith, ap (λ (x : Place). x.period) c.task_at-t.ensures, ((facts (goal.at.nonzero_div-h c).In_ok-h).sound.each _ (place (goal.at.nonzero_div-h c).In_ok-h)).period_pos)

pub fill-f-requires : goal.fill-f-requires
fill-f-requires c =
    let v = c.before in
    let a = v.args in
    let f = facts (goal.at.fill-f-requires c).In_ok-h in
    let h : ℕ = v.in_ok-h.h in
    range_fills (tasks_in a.gap a.tasks.now) h _ (a.p - 1) _ _ _ f (in_count a.gap a.tasks.now) (place (goal.at.fill-f-requires c).In_ok-h) (entry_job _ f.sound _ c.warm_jobs-jobs.ensures (a.p - 1) (place (goal.at.fill-f-requires c).In_ok-h))
    (ap (λ (x : Place). h / x.period) c.task_at-t.ensures) (ap (λ (x : ℕ). x + h) (tick (goal.at.fill-f-requires c).After-read-tick))

pub returns-then-f-a : goal.returns-then-f-a
returns-then-f-a c =
    let v = c.before in
    let k = (facts (goal.at.returns-then-f-a c).In_ok-h).sound in
    let h : ℕ = v.in_ok-h.h in
    let e = c.warm_jobs-jobs.ensures in
    made_whole _ _ _ _ _ _ _ _ _ _ _ _ (yes (goal.at.returns-then-f-a c).In_ok-h) (entry_job _ k _ e _ (place (goal.at.returns-then-f-a c).In_ok-h)) (tick (goal.at.returns-then-f-a c).After-read-tick)
    (ap (λ (x : Place). h / x.period) c.task_at-t.ensures) c.fill-f.ensures c.if-f-a.true

pub returns : goal.returns
returns c =
    let v = c.before in
    let k = (facts (goal.at.returns c).In_ok-h).sound in
    let h : ℕ = v.in_ok-h.h in
    let e = c.warm_jobs-jobs.ensures in
    made_short _ _ _ _ _ _ _ _ _ _ _ _ (yes (goal.at.returns c).In_ok-h) (entry_job _ k _ e _ (place (goal.at.returns c).In_ok-h)) (tick (goal.at.returns c).After-read-tick)
    (ap (λ (x : Place). h / x.period) c.task_at-t.ensures) c.fill-f.ensures c.if-f-a.false
