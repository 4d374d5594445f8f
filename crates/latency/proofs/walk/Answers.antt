use native.Mathlib.Omega.{arith}
use mathlib.Core.Path.{◌≡◌, refl, ◌∙◌}
use Rattle.chain.specs.Flat.{tasks_in}
use Rattle.latency.proofs.Walking.{begins_ordered, begins_start, begins_all, begins_late, begins_steps, begins_next, begins_turn}
use Rattle.latency.proofs.walk.Goals as goal

pub latency_of-latency-requires : goal.latency_of-latency-requires
latency_of-latency-requires c = let s = c.before in begins_ordered (tasks_in s.args.gap s.args.tasks.now) s.args.places s.args.p s.args.n s.args.first s.args.state.now s.requires.0

pub loop-walked-init : goal.loop-walked-init
loop-walked-init c = let s = c.before in (refl, begins_start (tasks_in s.args.gap s.args.tasks.now) s.args.places s.args.p s.args.n s.args.first s.args.state.now s.requires.0 s.args.bound _ c.latency_of-latency.ensures)

pub shape_of-state-then-bound-latency : goal.shape_of-state-then-bound-latency
shape_of-state-then-bound-latency c = c.loop-walked.invariant.0

pub returns-then-bound-latency : goal.returns-then-bound-latency
returns-then-bound-latency c = let s = c.before in begins_late (tasks_in s.args.gap s.args.tasks.now) s.args.places s.args.p s.args.n s.args.first s.args.state.now s.requires.0 _ _ _ _ c.loop-walked.invariant.1 (omega (arith, c.if-bound-latency.true))

pub next-here-requires : goal.next-here-requires
next-here-requires c = let s = c.before in begins_steps (tasks_in s.args.gap s.args.tasks.now) s.args.places s.args.p s.args.n s.args.first s.args.state.now s.requires.0 _ _ _ _ c.loop-walked.invariant.1 c.loop-walked-test.true _ s.requires.1

pub latency_of-requires : goal.latency_of-requires
latency_of-requires c = let s = c.before in begins_next (tasks_in s.args.gap s.args.tasks.now) s.args.places s.args.p s.args.n s.args.first s.args.state.now s.requires.0 _ _ _ _ c.loop-walked.invariant.1 c.loop-walked-test.true _ _ c.next-here.ensures

pub loop-walked-preserved : goal.loop-walked-preserved
loop-walked-preserved c =
    let s = c.before in
    (c.next-here.auto.state ∙ c.loop-walked.invariant.0, begins_turn (tasks_in s.args.gap s.args.tasks.now) s.args.places s.args.p s.args.n s.args.first s.args.state.now s.requires.0 _ _ _ _ c.loop-walked.invariant.1 c.loop-walked-test.true _ _ c.next-here.ensures (omega (arith, c.if-bound-latency.false)) _ _ c.latency_of.ensures c.max-latency.ensures)

pub shape_of-state : goal.shape_of-state
shape_of-state c = c.loop-walked.invariant.0

pub returns : goal.returns
returns c =
    let s = c.before in
    let e : c.loop-walked.walked ≡ s.args.n = omega (arith, c.loop-walked.invariant.1.high, c.loop-walked-test.false) in
    rw e at (begins_all (tasks_in s.args.gap s.args.tasks.now) s.args.places s.args.p s.args.n s.args.first s.args.state.now s.requires.0 _ _ _ _ c.loop-walked.invariant.1 c.loop-walked-test.false)
