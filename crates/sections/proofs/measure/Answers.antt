use Rattle.std.proofs.Common.{◌≡◌, ℕ, ◌+◌, ◌-◌, ◌≤◌, length, take, drop, ap, ◌∙◌, arith}
use Rattle.chain.specs.Flat.{tasks_in, in_count}
use Rattle.latency.specs.Latency.{greatest_latency}
use Rattle.sections.proofs.Cutting.{cutting_start, latency_small, gap_small, room, next_cut, cutting_turn, cutting_end}
use Rattle.sections.proofs.measure.Goals as goal
use Rattle.sections.proofs.measure.Goals.{After-section_latency-latency, After-section_latency-latency-2}

-- no latency and no gap is large
turn_small : (c : After-section_latency-latency) → c.section_latency-latency.result + c.args.gap ≤ 60012000
turn_small c =
    let l = c.loop-i in
    let r = next_cut _ _ c.requires.0 _ _ _ _ _ l.invariant c.loop-i-test.true in
    let e = c.section_latency-latency.ensures in
    omega (arith, latency_small _ _ c.requires.0 _ _ _ _ _ l.invariant _ r.above (omega (arith, r.below)), gap_small _ _ c.requires.0 c.args.cuts.now)

-- the last section ends with the last place
last : (c : After-section_latency-latency-2) → let l = tasks_in c.args.gap c.args.tasks.now in let from : ℕ = c.loop-i.from in
    c.section_latency-latency-2.result ≡ greatest_latency (take (length l - from) (drop from l))
last c =
    let l = tasks_in c.args.gap c.args.tasks.now in
    let from : ℕ = c.loop-i.from in
    c.section_latency-latency-2.ensures ∙ ap (λ (n : ℕ). greatest_latency (take (n - from) (drop from l))) (in_count c.args.gap c.args.tasks.now)

pub loop-i-init : goal.loop-i-init
loop-i-init c = cutting_start _ _ c.requires.0 _ c.requires.1

pub section_latency-latency-requires : goal.section_latency-latency-requires
section_latency-latency-requires c =
    let r = next_cut _ _ c.requires.0 _ _ _ _ _ c.loop-i.invariant c.loop-i-test.true in
    (c.requires.0, r.above, omega (arith, r.below))

pub overflow_add-sum : goal.overflow_add-sum
overflow_add-sum c = omega (arith, turn_small (goal.at.overflow_add-sum c).After-section_latency-latency)

pub overflow_add-sum-in-loop-i : goal.overflow_add-sum-in-loop-i
overflow_add-sum-in-loop-i c =
    omega (arith, turn_small (goal.at.overflow_add-sum-in-loop-i c).After-section_latency-latency, (room _ _ c.requires.0 _ _ _ _ _ c.loop-i.invariant).1)

pub loop-i-preserved : goal.loop-i-preserved
loop-i-preserved c = cutting_turn _ _ c.requires.0 _ _ _ _ _ c.loop-i.invariant c.loop-i-test.true _ c.section_latency-latency.ensures

pub section_latency-latency-requires-2 : goal.section_latency-latency-requires-2
section_latency-latency-requires-2 c =
    let n = in_count c.args.gap c.args.tasks.now in
    (c.requires.0, omega (arith, c.loop-i.invariant.inside, n), omega (arith, n))

pub overflow_add-result-2 : goal.overflow_add-result-2
overflow_add-result-2 c =
    let i = c.loop-i.invariant in
    omega (arith, last (goal.at.overflow_add-result-2 c).After-section_latency-latency-2, latency_small _ _ c.requires.0 _ _ _ _ _ i _ i.inside (omega arith), (room _ _ c.requires.0 _ _ _ _ _ i).1)

pub returns : goal.returns
returns c =
    let e : c.loop-i.i ≡ length c.args.cuts.now = omega (arith, c.loop-i.invariant.few) in
    cutting_end _ _ c.requires.0 _ _ _ _ _ (rw e at c.loop-i.invariant) (omega arith) _ (last (goal.at.returns c).After-section_latency-latency-2)
