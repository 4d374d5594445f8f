use native.Mathlib.Omega.{arith}
use Prim.Native.Nat.{ℕ, ◌*◌, ◌/◌}
use mathlib.Core.Path.{ap, ◌∙◌, subst}
use lib.ListN.{get_or}
use Rattle.euclid.specs.Divisor.{gcd_of}
use Rattle.chain.specs.Flat.{given_in, tasks_in}
use Rattle.latency.specs.LongestPlace.{longest_period}
use Rattle.phase.specs.InList.{Finds}
use Rattle.phase.proofs.AllPhases.{task_inside, period_at_holds, phases_few, found_all, none_all}
use Rattle.phase.proofs.search_period.Goals as goal

pub task_at-t-requires : goal.task_at-t-requires
task_at-t-requires c = let s = c.before in task_inside s.args.gap s.args.places.now (given_in s.args.tasks.now) s.requires.0 s.args.at s.requires.3

pub search-found-requires : goal.search-found-requires
search-found-requires c =
    let s = c.before in
    let e = (c.gcd-phases.ensures ∙ ap (λ (y : ℕ). gcd_of y c.others_multiple.result) (period_at_holds s.args.gap s.args.places.now (given_in s.args.tasks.now) s.requires.0 s.args.at s.requires.3 _ c.task_at-t.ensures)) in
    (s.requires.0, s.requires.2, omega (arith, e, phases_few s.args.gap s.args.places.now (given_in s.args.tasks.now) s.requires.0 s.args.at s.requires.3 s.requires.1 s.requires.4 _ c.others_multiple.ensures s.args.bound, s.requires.4))

pub returns-then-found-phases : goal.returns-then-found-phases
returns-then-found-phases c =
    let s = c.before in
    let e = (c.gcd-phases.ensures ∙ ap (λ (y : ℕ). gcd_of y c.others_multiple.result) (period_at_holds s.args.gap s.args.places.now (given_in s.args.tasks.now) s.requires.0 s.args.at s.requires.3 _ c.task_at-t.ensures)) in
    let finds = subst (λ (d : ℕ). Finds s.args.gap s.args.places.now (given_in s.args.tasks.now) (get_or s.args.places.now s.args.at 0) s.args.bound d (d * (s.args.h / longest_period (tasks_in s.args.gap s.args.tasks.now))) c.search-found.result) e c.search-found.ensures in
    found_all s.args.gap s.args.places.now (given_in s.args.tasks.now) s.requires.0 s.args.at s.requires.3 s.requires.1 s.requires.4 _ c.others_multiple.ensures s.args.bound s.args.h s.requires.2 _ finds (omega (arith, e, c.if-found-phases.true))

pub returns : goal.returns
returns c =
    let s = c.before in
    let e = (c.gcd-phases.ensures ∙ ap (λ (y : ℕ). gcd_of y c.others_multiple.result) (period_at_holds s.args.gap s.args.places.now (given_in s.args.tasks.now) s.requires.0 s.args.at s.requires.3 _ c.task_at-t.ensures)) in
    let finds = subst (λ (d : ℕ). Finds s.args.gap s.args.places.now (given_in s.args.tasks.now) (get_or s.args.places.now s.args.at 0) s.args.bound d (d * (s.args.h / longest_period (tasks_in s.args.gap s.args.tasks.now))) c.search-found.result) e c.search-found.ensures in
    none_all s.args.gap s.args.places.now (given_in s.args.tasks.now) s.requires.0 s.args.at s.requires.3 s.requires.1 s.requires.4 _ c.others_multiple.ensures s.args.bound s.args.h s.requires.2 _ finds (omega (arith, e, c.if-found-phases.false)) _ (period_at_holds s.args.gap s.args.places.now (given_in s.args.tasks.now) s.requires.0 s.args.at s.requires.3 _ c.task_at-t.ensures)
