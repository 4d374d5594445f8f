use native.Mathlib.Omega.{arith}
use mathlib.Core.Path.{refl, ◌∙◌}
use Rattle.chain.specs.Flat.{tasks_in}
use Rattle.maker.proofs.Turn.{going_first, going_second}
use Rattle.maker.proofs.Walking.{walking_start, walking_adds, walking_steps, walking_turn, walking_end, walking_leaves}
use Rattle.maker.proofs.walk.Goals as goal

pub loop-walked-init : goal.loop-walked-init
loop-walked-init c = (refl, walking_start _ _ _ _ _ _ _ c.requires.0 _ _)

pub next-next-requires : goal.next-next-requires
next-next-requires c =
    let s = c.before in
    let l = c.before in
    walking_steps (tasks_in s.args.gap s.args.tasks.now) s.args.places s.args.p s.args.n s.args.first s.args.after.0 s.args.state.now s.requires.0 _ _ _ _ _ _ _ _ _ l.loop-walked.invariant.1 _ s.requires.1 c.loop-walked-test.true

pub add_anchor-g-requires : goal.add_anchor-g-requires
add_anchor-g-requires c =
    let s = c.before in
    let l = c.before in
    walking_adds (tasks_in s.args.gap s.args.tasks.now) s.args.places s.args.p s.args.n s.args.first s.args.after.0 s.args.state.now s.requires.0 _ _ _ _ _ _ _ _ _ l.loop-walked.invariant.1

pub overflow_add-walked : goal.overflow_add-walked
overflow_add-walked c = omega (arith, c.requires.0.fills.range.few, c.loop-walked-test.true)

pub loop-walked-smaller : goal.loop-walked-smaller
loop-walked-smaller c = omega (arith, c.loop-walked-test.true)

pub loop-walked-preserved : goal.loop-walked-preserved
loop-walked-preserved c =
    let s = c.before in
    let l = c.before in
    (c.next-next.auto.state ∙ l.loop-walked.invariant.0, walking_turn (tasks_in s.args.gap s.args.tasks.now) s.args.places s.args.p s.args.n s.args.first s.args.after.0 s.args.state.now s.requires.0 _ _ _ _ _ _ _ _ _ l.loop-walked.invariant.1 c.loop-walked-test.true _ _ c.next-next.ensures _ c.last_end-last.ensures _ _ _ c.add_anchor-g.ensures)

pub add_anchor-g-requires-2 : goal.add_anchor-g-requires-2
add_anchor-g-requires-2 c =
    let s = c.before in
    let l = c.before in
    walking_adds (tasks_in s.args.gap s.args.tasks.now) s.args.places s.args.p s.args.n s.args.first s.args.after.0 s.args.state.now s.requires.0 _ _ _ _ _ _ _ _ _ l.loop-walked.invariant.1

pub shape_of-state : goal.shape_of-state
shape_of-state c = c.loop-walked.invariant.0

pub shape_of-starts : goal.shape_of-starts
shape_of-starts c = c.add_anchor-g-2.auto.starts ∙ going_first _ _ _ _ _ _ _ _ _ _ _ _ c.loop-walked.invariant.1.going

pub shape_of-latencies : goal.shape_of-latencies
shape_of-latencies c = c.add_anchor-g-2.auto.latencies ∙ going_second _ _ _ _ _ _ _ _ _ _ _ _ c.loop-walked.invariant.1.going

pub returns : goal.returns
returns c =
    let s = c.before in
    let l = c.before in (
      walking_end (tasks_in s.args.gap s.args.tasks.now) s.args.places s.args.p s.args.n s.args.first s.args.after.0 s.args.state.now s.requires.0 _ _ _ _ _ _ _ _ _ l.loop-walked.invariant.1 c.loop-walked-test.false _ _ _ c.add_anchor-g-2.ensures _ refl refl,
      walking_leaves (tasks_in s.args.gap s.args.tasks.now) s.args.places s.args.p s.args.n s.args.first s.args.after.0 s.args.state.now s.requires.0 _ _ _ _ _ _ _ _ _ l.loop-walked.invariant.1 c.loop-walked-test.false,
    )
