use native.Mathlib.Omega.{arith}
use Rattle.chain.specs.Flat.{given_in}
use Rattle.schedule.specs.Numbers.{position_some}
use Rattle.phase.proofs.AllPhases.{task_inside, period_at_holds, not_there, too_long, phase_found, none_found}
use Rattle.phase.proofs.judged.Goals as goal

pub returns-in_default : goal.returns-in_default
returns-in_default c = let s = c.before in not_there s.args.gap s.args.places.now (given_in s.args.tasks.now) s.args.number s.args.bound c.in_default.ensures

pub task_at-t-requires : goal.task_at-t-requires
task_at-t-requires c = let s = c.before in task_inside s.args.gap s.args.places.now (given_in s.args.tasks.now) s.requires.0 c.in-Some.at (position_some _ _ _ c.in-Some.ensures).1

pub returns-then-t-gt10000 : goal.returns-then-t-gt10000
returns-then-t-gt10000 c =
    let s = c.before in
    too_long s.args.gap s.args.places.now (given_in s.args.tasks.now) s.args.number s.args.bound _ c.in-Some.ensures (omega (arith, period_at_holds s.args.gap s.args.places.now (given_in s.args.tasks.now) s.requires.0 c.in-Some.at (position_some _ _ _ c.in-Some.ensures).1 _ c.task_at-t.ensures, c.if-t-gt10000.true))

pub search_period-found-requires : goal.search_period-found-requires
search_period-found-requires c =
    let s = c.before in
    (s.requires.0, s.requires.1, s.requires.2, (position_some _ _ _ c.in-Some.ensures).1, omega (arith, period_at_holds s.args.gap s.args.places.now (given_in s.args.tasks.now) s.requires.0 c.in-Some.at (position_some _ _ _ c.in-Some.ensures).1 _ c.task_at-t.ensures, c.if-t-gt10000.false))

pub returns-then-found-t : goal.returns-then-found-t
returns-then-found-t c =
    let s = c.before in
    let e = period_at_holds s.args.gap s.args.places.now (given_in s.args.tasks.now) s.requires.0 c.in-Some.at (position_some _ _ _ c.in-Some.ensures).1 _ c.task_at-t.ensures in
    phase_found s.args.gap s.args.places.now (given_in s.args.tasks.now) s.args.number s.args.bound _ c.in-Some.ensures (omega (arith, e, c.if-t-gt10000.false)) s.args.h _ c.search_period-found.ensures (omega (arith, e, c.if-found-t.true))

pub returns : goal.returns
returns c =
    let s = c.before in
    let e = period_at_holds s.args.gap s.args.places.now (given_in s.args.tasks.now) s.requires.0 c.in-Some.at (position_some _ _ _ c.in-Some.ensures).1 _ c.task_at-t.ensures in
    none_found s.args.gap s.args.places.now (given_in s.args.tasks.now) s.args.number s.args.bound _ c.in-Some.ensures (omega (arith, e, c.if-t-gt10000.false)) s.args.h _ c.search_period-found.ensures (omega (arith, e, c.if-found-t.false))
