use mathlib.Core.List.{List}
use lib.ListN.{take, drop, length-drop}
use lib.Seq.{take_all}
use Rattle.schedule.specs.Schedules.{route_of}
use Rattle.file_reader.specs.Reading.{chain_field, record_of}
use native.Mathlib.Omega.{arith}
use Prim.Native.Nat.{ℕ, ◌+◌, ◌-◌, ◌*◌, ◌≤◌, ◌<◌}
use mathlib.Core.Path.{◌≡◌, sym, ap, ◌∙◌}
use lib.ListN.{length}
use Rattle.schedule.proofs.Zeros.{numbered_zeros, route_zeros}
use Rattle.file_reader.proofs.Going.{going_start, going_long, task_inside, chain_inside, gap_inside, going_task, going_chain, going_gap, going_fault, going_after, going_end, going_stop}
use borrow.Author.Rules.{rules}
use Rattle.file_reader.proofs.read_file.Goals as goal
use Rattle.file_reader.proofs.read_file.Goals.{After-record_of, In-Ok-Chain, In-Ok-Gap, In-Ok-Task}

rest-is : (l : List ℕ) (at : ℕ) → take (length l - at) (drop at l) ≡ drop at l
rest-is l at = take_all (length l - at) (drop at l) (simp length-drop (omega arith))

-- what was judged are the bytes from here on
judged : (c : After-record_of) → c.record_of.result ≡ record_of (take c.loop-at.count c.loop-at.numbers) c.loop-at.chains c.loop-at.gap (drop c.loop-at.at c.args.bytes.now)
judged c = c.record_of.ensures ∙ ap (record_of (take c.loop-at.count c.loop-at.numbers) c.loop-at.chains c.loop-at.gap) (rest-is c.args.bytes.now c.loop-at.at)

-- a task fits its array and a record the file
task-room : (c : In-Ok-Task) → (c.loop-at.at + 18 ≤ length c.args.bytes.now) × (c.loop-at.count < 32)
task-room c = task_inside _ _ _ _ _ _ _ _ c.loop-at.invariant c.loop-at-test.true c.in-Ok-Task.t (sym (rw c.in-Ok-Task.field-0-is at c.in-Ok-Task.is) ∙ (c.record_of.ensures ∙ ap (record_of (take c.loop-at.count c.loop-at.numbers) c.loop-at.chains c.loop-at.gap) (rest-is c.args.bytes.now c.loop-at.at)))

chain-room : (c : In-Ok-Chain)
    → (4 + 2 * c.in-Ok-Chain.p ≤ length (drop c.loop-at.at c.args.bytes.now)) × (c.in-Ok-Chain.p ≤ 12) × (c.loop-at.at + (4 + 2 * c.in-Ok-Chain.p) ≤ length c.args.bytes.now) × (c.loop-at.chains < 4)
chain-room c = chain_inside _ _ _ _ _ _ _ _ c.loop-at.invariant c.loop-at-test.true c.in-Ok-Chain.p (sym (rw c.in-Ok-Chain.field-0-is at c.in-Ok-Chain.is) ∙ (c.record_of.ensures ∙ ap (record_of (take c.loop-at.count c.loop-at.numbers) c.loop-at.chains c.loop-at.gap) (rest-is c.args.bytes.now c.loop-at.at)))

gap-room : (c : In-Ok-Gap) → c.loop-at.at + 6 ≤ length c.args.bytes.now
gap-room c = gap_inside _ _ _ _ _ _ _ _ c.loop-at.invariant c.loop-at-test.true c.in-Ok-Gap.g (sym (rw c.in-Ok-Gap.field-0-is at c.in-Ok-Gap.is) ∙ (c.record_of.ensures ∙ ap (record_of (take c.loop-at.count c.loop-at.numbers) c.loop-at.chains c.loop-at.gap) (rest-is c.args.bytes.now c.loop-at.at)))

pub loop-at-init : goal.loop-at-init
loop-at-init c =
    rw (numbered_zeros c.default-tasks.result c.default-tasks.ensures, route_zeros c.default-routes.result c.default-routes.ensures) (going_start c.args.bytes.now)

pub slice_bounds-record_of-end : goal.slice_bounds-record_of-end
slice_bounds-record_of-end c = let e = going_long _ _ _ _ _ _ _ _ c.loop-at.invariant in search rules

pub record_of-requires : goal.record_of-requires
record_of-requires c = omega (arith, going_long _ _ _ _ _ _ _ _ c.loop-at.invariant, c.loop-at.invariant.few)

pub offset_bounds-numbers-count : goal.offset_bounds-numbers-count
offset_bounds-numbers-count c = omega (arith, (task-room c).1)

pub bounds-numbers-count : goal.bounds-numbers-count
bounds-numbers-count c = (task-room c).1

pub offset_bounds-tasks-count : goal.offset_bounds-tasks-count
offset_bounds-tasks-count c = omega (arith, (task-room c).1)

pub bounds-tasks-count : goal.bounds-tasks-count
bounds-tasks-count c = (task-room c).1

pub overflow_add-count : goal.overflow_add-count
overflow_add-count c = omega (arith, (task-room c).1)

pub overflow_add-at : goal.overflow_add-at
overflow_add-at c = let i = (task-room c).0 in search rules

pub loop-at-smaller-in-Ok-Task : goal.loop-at-smaller-in-Ok-Task
loop-at-smaller-in-Ok-Task c = omega (arith, (task-room c).0)

pub loop-at-preserved-in-Ok-Task : goal.loop-at-preserved-in-Ok-Task
loop-at-preserved-in-Ok-Task c = going_task _ _ _ _ _ _ _ _ c.loop-at.invariant c.loop-at-test.true c.in-Ok-Task.t (sym (rw c.in-Ok-Task.field-0-is at c.in-Ok-Task.is) ∙ judged (goal.at.loop-at-preserved-in-Ok-Task c).After-record_of)

pub route_of-c-requires : goal.route_of-c-requires
route_of-c-requires c =
    let i = chain-room c in
    (i.1, rw (rest-is c.args.bytes.now c.loop-at.at) i.0)

pub offset_bounds-routes-chains : goal.offset_bounds-routes-chains
offset_bounds-routes-chains c = omega (arith, (chain-room (goal.at.offset_bounds-routes-chains c).In-Ok-Chain).3)

pub bounds-routes-chains : goal.bounds-routes-chains
bounds-routes-chains c = (chain-room (goal.at.bounds-routes-chains c).In-Ok-Chain).3

pub overflow_add-chains : goal.overflow_add-chains
overflow_add-chains c = omega (arith, (chain-room (goal.at.overflow_add-chains c).In-Ok-Chain).3)

pub overflow_mul-at : goal.overflow_mul-at
overflow_mul-at c = omega (arith, (chain-room (goal.at.overflow_mul-at c).In-Ok-Chain).1)

pub overflow_add-at-in-Ok-Chain : goal.overflow_add-at-in-Ok-Chain
overflow_add-at-in-Ok-Chain c = omega (arith, (chain-room (goal.at.overflow_add-at-in-Ok-Chain c).In-Ok-Chain).1)

pub overflow_add-at-in-Ok-Chain-2 : goal.overflow_add-at-in-Ok-Chain-2
overflow_add-at-in-Ok-Chain-2 c = let i = (chain-room (goal.at.overflow_add-at-in-Ok-Chain-2 c).In-Ok-Chain).2 in search rules

pub loop-at-smaller-in-Ok-Chain : goal.loop-at-smaller-in-Ok-Chain
loop-at-smaller-in-Ok-Chain c = omega (arith, (chain-room (goal.at.loop-at-smaller-in-Ok-Chain c).In-Ok-Chain).2)

pub loop-at-preserved-in-Ok-Chain : goal.loop-at-preserved-in-Ok-Chain
loop-at-preserved-in-Ok-Chain c =
    let e = c.route_of-c.ensures ∙ ap (λ (l : List ℕ). route_of (chain_field l c.in-Ok-Chain.p)) (rest-is c.args.bytes.now c.loop-at.at) in
    rw e (going_chain _ _ _ _ _ _ _ _ c.loop-at.invariant c.loop-at-test.true c.in-Ok-Chain.p (sym (rw c.in-Ok-Chain.field-0-is at c.in-Ok-Chain.is) ∙ judged (goal.at.loop-at-preserved-in-Ok-Chain c).After-record_of))

pub overflow_add-at-in-Ok-Gap : goal.overflow_add-at-in-Ok-Gap
overflow_add-at-in-Ok-Gap c = let i = gap-room c in search rules

pub loop-at-smaller : goal.loop-at-smaller
loop-at-smaller c = omega (arith, gap-room c)

pub loop-at-preserved : goal.loop-at-preserved
loop-at-preserved c = going_gap _ _ _ _ _ _ _ _ c.loop-at.invariant c.loop-at-test.true c.in-Ok-Gap.g (sym (rw c.in-Ok-Gap.field-0-is at c.in-Ok-Gap.is) ∙ judged (goal.at.loop-at-preserved c).After-record_of)

pub overflow_add-result : goal.overflow_add-result
overflow_add-result c = let i = rw (rest-is c.args.bytes.now c.loop-at.at, length-drop) at c.if-rest-gt4.true in search rules

pub returns-then-rest-gt4 : goal.returns-then-rest-gt4
returns-then-rest-gt4 c = going_after _ _ _ _ _ _ _ _ c.loop-at.invariant c.loop-at-test.true (sym (rw c.in-Ok-End.field-0-is at c.in-Ok-End.is) ∙ judged (goal.at.returns-then-rest-gt4 c).After-record_of) (rw (rest-is c.args.bytes.now c.loop-at.at) at c.if-rest-gt4.true)

pub returns-in-Ok-End : goal.returns-in-Ok-End
returns-in-Ok-End c =
    going_end _ _ _ _ _ _ _ _ c.loop-at.invariant c.loop-at-test.true (sym (rw c.in-Ok-End.field-0-is at c.in-Ok-End.is) ∙ judged (goal.at.returns-in-Ok-End c).After-record_of) (rw (rest-is c.args.bytes.now c.loop-at.at) at c.if-rest-gt4.false)

pub returns-in-Err : goal.returns-in-Err
returns-in-Err c = going_fault _ _ _ _ _ _ _ _ c.loop-at.invariant c.loop-at-test.true c.in-Err.number (sym c.in-Err.is ∙ judged (goal.at.returns-in-Err c).After-record_of)

pub returns : goal.returns
returns c = going_stop _ _ _ _ _ _ _ _ c.loop-at.invariant c.loop-at-test.false
