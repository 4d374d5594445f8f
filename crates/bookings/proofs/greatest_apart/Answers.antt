use native.Mathlib.Omega.{arith}
use Prim.Native.Nat.{◌≤◌}
use mathlib.Core.Path.{◌∙◌}
use Rattle.chain.specs.Flat.{tasks_in}
use Rattle.bookings.proofs.Turns.{apart_is, next_late, next_soon, next_first, next_second, next_left, none_left}
use Rattle.bookings.proofs.greatest_apart.Goals as goal
use Rattle.bookings.proofs.greatest_apart.Goals.{After-min}

-- the next tick fits
fits : (c : After-min) → c.min.result ≤ 1000000000000
fits c =
    let s = c.before in
    let l = c.loop-t in
    omega (arith, next_soon _ _ s.requires.0 s.requires.1 l.t.0 _ _ l.invariant.1 l.invariant.2 _ c.min.ensures, c.loop-t-test.true, s.requires.3)

pub stretch_on-a-requires : goal.stretch_on-a-requires
stretch_on-a-requires c = (c.requires.0, fits c)

pub stretch_on-b-requires : goal.stretch_on-b-requires
stretch_on-b-requires c = (c.requires.1, fits (goal.at.stretch_on-b-requires c).After-min)

pub loop-t-smaller : goal.loop-t-smaller
loop-t-smaller c =
    let s = c.before in
    let l = c.loop-t in
    omega (arith, next_late _ _ s.requires.0 s.requires.1 l.t.0 _ _ l.invariant.1 l.invariant.2 _ c.min.ensures, c.loop-t-test.true)

pub loop-t-preserved : goal.loop-t-preserved
loop-t-preserved c =
    let s = c.before in
    let l = c.loop-t in
    let e = c.min.ensures in (
      fits (goal.at.loop-t-preserved c).After-min,
      next_first _ (tasks_in s.args.gap2 s.args.second.now) s.requires.0 s.requires.1 l.t.0 _ _ l.invariant.1 l.invariant.2 _ e _ c.stretch_on-a.ensures,
      next_second (tasks_in s.args.gap1 s.args.first.now) _ s.requires.0 s.requires.1 l.t.0 _ _ l.invariant.1 l.invariant.2 _ e _ c.stretch_on-b.ensures,
      next_left _ _ s.requires.0 s.requires.1 l.t.0 _ _ l.invariant.1 l.invariant.2 _ e _ _ _ _ _ c.loop-t-test.true (c.abs_diff.ensures ∙ apart_is _ _) c.max-most.ensures l.invariant.3,
    )

pub returns : goal.returns
returns c = let l = c.loop-t in none_left _ l.t.0 _ _ _ c.loop-t-test.false l.invariant.3
