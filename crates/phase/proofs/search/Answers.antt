use native.Mathlib.Omega.{arith}
use Prim.Native.Nat.{ℕ, ◌*◌}
use mathlib.Core.Path.{subst}
use lib.ListN.{length-map}
use Rattle.task.specs.Jobs.{place_of}
use Rattle.chain.specs.Flat.{given_in}
use Rattle.phase.specs.InList.{Finds}
use Rattle.phase.proofs.Tries.{longest_inside, longest_pos, quotient_fits, tries_begin, longest_walked}
use Rattle.phase.proofs.search.Goals as goal

pub overflow_sub-p : goal.overflow_sub-p
overflow_sub-p c = let s = c.before in (longest_inside s.args.gap s.args.places.now (given_in s.args.tasks.now) s.requires.0 _ c.longest_place-p.ensures).0

pub task_at-t-requires : goal.task_at-t-requires
task_at-t-requires c = let s = c.before in let w = longest_inside s.args.gap s.args.places.now (given_in s.args.tasks.now) s.requires.0 _ c.longest_place-p.ensures in (w.1, w.2)

pub nonzero_div-from : goal.nonzero_div-from
nonzero_div-from c = let s = c.before in longest_pos s.args.gap s.args.places.now (given_in s.args.tasks.now) s.requires.0 _ c.longest_place-p.ensures _ c.task_at-t.ensures

pub overflow_add-from : goal.overflow_add-from
overflow_add-from c = quotient_fits _ c.task_at-t.result.period (omega arith)

pub reciprocals_of-requires : goal.reciprocals_of-requires
reciprocals_of-requires c = let s = c.before in let ok = s.requires.0 in let n = length-map (given_in s.args.tasks.now) (place_of s.args.gap) in (ok.sound, omega (arith, ok.long, n), omega (arith, ok.long, n, ok.sound.few))

pub nonzero_div-h : goal.nonzero_div-h
nonzero_div-h c = let s = c.before in longest_pos s.args.gap s.args.places.now (given_in s.args.tasks.now) s.requires.0 _ c.longest_place-p.ensures _ c.task_at-t.ensures

pub try_phases-requires : goal.try_phases-requires
try_phases-requires c = let s = c.before in (tries_begin s.args.gap s.args.places.now (given_in s.args.tasks.now) s.requires.0 _ c.longest_place-p.ensures _ c.task_at-t.ensures s.args.h s.requires.1 _ (omega arith) (omega arith) _ c.reciprocals_of.ensures, s.requires.2)

pub returns : goal.returns
returns c =
    let s = c.before in
    subst (λ (y : ℕ). Finds s.args.gap s.args.places.now (given_in s.args.tasks.now) s.args.number s.args.bound s.args.phases (s.args.phases * y) c.try_phases.result) (longest_walked s.args.gap s.args.places.now (given_in s.args.tasks.now) s.requires.0 _ c.longest_place-p.ensures _ c.task_at-t.ensures s.args.h) c.try_phases.ensures
