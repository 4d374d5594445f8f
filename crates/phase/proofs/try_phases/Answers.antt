use native.Mathlib.Omega.{arith}
use Prim.Native.Nat.{◌+◌, ◌≤◌}
use mathlib.Core.Path.{refl, sym, subst}
use mathlib.Core.List.{List}
use lib.ListN.{length, length-map}
use Rattle.task.specs.declared.Task.{Task}
use Rattle.task.specs.Jobs.{place_of}
use Rattle.chain.specs.Chains.{placed}
use Rattle.chain.specs.Flat.{given_in}
use Rattle.stepping.specs.Standing.{Reciprocals}
use Rattle.latency.specs.Walk.{RangeFrom}
use Rattle.phase.proofs.Tries.{range_some, walk_begins, walk_constants, trying_start, trying_count, trying_end, put_is, trying_found, trying_on}
use Rattle.phase.proofs.try_phases.Goals as goal

pub loop-phase-init : goal.loop-phase-init
loop-phase-init c =
    let s = c.before in
    trying_start s.args.gap s.args.places.now (given_in s.args.tasks.now) s.args.number s.args.bound s.args.phases s.args.n s.args.tasks.now refl (range_some _ _ _ _ _ _ _ s.requires.0)

pub put_phase-requires : goal.put_phase-requires
put_phase-requires c =
    let s = c.before in
    let l = c.loop-phase in
    let n = trying_count s.args.gap s.args.places.now (given_in s.args.tasks.now) s.args.number s.args.bound s.args.phases s.args.n l.tasks l.at l.stride l.walked l.phase l.invariant in
    let ok = s.requires.0.accepted in
    (omega (arith, ok.long, ok.sound.few, length-map (given_in s.args.tasks.now) (place_of s.args.gap)), omega (arith, n, ok.long))

pub walk_range_from-found-requires : goal.walk_range_from-found-requires
walk_range_from-found-requires c =
    let s = c.before in
    let l = c.loop-phase in
    let small : l.phase ≤ 1000000 = omega (arith, s.requires.1, c.loop-phase-test.true) in
    let e = put_is s.args.gap s.args.places.now (given_in s.args.tasks.now) s.args.number s.args.bound s.args.phases s.args.n l.tasks l.at l.stride l.walked l.phase l.invariant c.loop-phase-test.true _ c.put_phase.ensures in (
      subst (λ (y : List Task). RangeFrom (placed s.args.gap y) (length s.args.places.now) s.args.p (s.args.from + c.turned-start.result) s.args.n) (sym e)
          (walk_begins _ _ _ _ _ _ _ s.requires.0 s.args.number l.phase small c.turned-start.result c.turned-start.ensures),
      subst (λ (y : List Task). Reciprocals (placed s.args.gap y) s.args.reciprocals.now) (sym e) (walk_constants _ _ _ _ _ _ _ s.requires.0 s.args.number l.phase small),
    )

pub returns-then-found-bound : goal.returns-then-found-bound
returns-then-found-bound c =
    let w = c.before in
    let s = w.before in
    let l = w.loop-phase in
    trying_found s.args.gap s.args.places.now (given_in s.args.tasks.now) s.args.number s.args.bound s.args.phases s.args.n l.tasks l.at l.stride l.walked l.phase l.invariant w.loop-phase-test.true _ w.put_phase.ensures _ _ _ c.walk_range_from-found.ensures (omega (arith, c.if-found-bound.true))

pub loop-phase-preserved : goal.loop-phase-preserved
loop-phase-preserved c =
    let w = c.before in
    let s = w.before in
    let l = w.loop-phase in
    trying_on s.args.gap s.args.places.now (given_in s.args.tasks.now) s.args.number s.args.bound s.args.phases s.args.n l.tasks l.at l.stride l.walked l.phase l.invariant w.loop-phase-test.true _ w.put_phase.ensures _ _ _ c.walk_range_from-found.ensures (omega arith) _ _ c.turned-end.ensures c.turned-stride.ensures

pub returns : goal.returns
returns c =
    let s = c.before in
    let l = c.loop-phase in
    trying_end s.args.gap s.args.places.now (given_in s.args.tasks.now) s.args.number s.args.bound s.args.phases s.args.n l.tasks l.at l.stride l.walked l.phase l.invariant c.loop-phase-test.false
