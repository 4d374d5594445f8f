use native.Mathlib.Omega.{arith}
use Prim.Native.Nat.{ℕ}
use mathlib.Core.Path.{◌≡◌, sym, ap, ◌∙◌}
use mathlib.Core.Bool.{true}
use mathlib.Core.List.{List, map}
use lib.ListN.{take}
use Rattle.chain.specs.Checks.{found}
use Rattle.schedule.specs.declared.Schedule.{Schedule}
use Rattle.schedule.specs.Schedules.{number_of, tasks_in, chains_in}
use Rattle.schedule.proofs.PlaceLaws.{map_take}
use Rattle.schedule_checks.specs.Checks.{counts_right, unknown_place}
use Rattle.schedule_checks.proofs.SoundSchedule.{Counted, counted}
use Rattle.schedule_checks.proofs.Faults.{counts_wrong, task_fault, gap_fault, place_fault, all_right_holds, was_refused, not_refused}
use Rattle.schedule_checks.proofs.check.Goals as goal
use Rattle.schedule_checks.proofs.check.Goals.{Else-not-counts_right}

-- the counts are right
right : (c : Else-not-counts_right) → counts_right c.args.s ≡ true
right c = sym c.counts_right.ensures ∙ c.if-not-counts_right.false

counts : (c : Else-not-counts_right) → Counted c.args.s
counts c = counted c.args.s (right c)

-- what the search through the chains answers
searched : (s : Schedule) (numbers : List ℕ) → numbers ≡ map number_of s.tasks
    → found (unknown_place (take s.count numbers) (chains_in s)) ≡ found (unknown_place (map number_of (tasks_in s)) (chains_in s))
searched s numbers e =
    ap (λ (l : List ℕ). found (unknown_place (take s.count l) (chains_in s))) e
    ∙ ap (λ (l : List ℕ). found (unknown_place l (chains_in s))) (sym (map_take number_of s.count s.tasks))

pub returns-then-not-counts_right : goal.returns-then-not-counts_right
returns-then-not-counts_right c = was_refused c.args.s 8 0 _ c.refused.ensures (omega arith) (counts_wrong c.args.s (sym c.counts_right.ensures ∙ c.if-not-counts_right.true))

pub shared_ref_as_front-first_fault : goal.shared_ref_as_front-first_fault
shared_ref_as_front-first_fault c = omega (arith, (counts (goal.at.shared_ref_as_front-first_fault c).Else-not-counts_right).few)

pub returns-in-Some : goal.returns-in-Some
returns-in-Some c = was_refused c.args.s 5 _ _ c.refused-in-Some.ensures (omega arith) (task_fault c.args.s (right (goal.at.returns-in-Some c).Else-not-counts_right) _ c.in-Some.ensures)

pub returns-then-s-gt1000 : goal.returns-then-s-gt1000
returns-then-s-gt1000 c = was_refused c.args.s 5 0 _ c.refused-then-s-gt1000.ensures (omega arith) (gap_fault c.args.s (right (goal.at.returns-then-s-gt1000 c).Else-not-counts_right) c.in_default.ensures c.if-s-gt1000.true)

pub shared_ref_as_front-unknown_place : goal.shared_ref_as_front-unknown_place
shared_ref_as_front-unknown_place c = omega (arith, (counts (goal.at.shared_ref_as_front-unknown_place c).Else-not-counts_right).few_chains)

pub unknown_place-requires : goal.unknown_place-requires
unknown_place-requires c = (counts (goal.at.unknown_place-requires c).Else-not-counts_right).placed

pub returns-in-Some-unknown_place : goal.returns-in-Some-unknown_place
returns-in-Some-unknown_place c =
    was_refused c.args.s 6 _ _ c.refused-in-Some-unknown_place.ensures (omega arith)
    (place_fault c.args.s (right (goal.at.returns-in-Some-unknown_place c).Else-not-counts_right) c.in_default.ensures c.if-s-gt1000.false _ (c.in-Some-unknown_place.ensures ∙ searched c.args.s _ c.numbers_of-numbers.ensures))

pub returns : goal.returns
returns c =
    not_refused c.args.s
    (all_right_holds c.args.s (right (goal.at.returns c).Else-not-counts_right) c.in_default.ensures c.if-s-gt1000.false (c.in_default-unknown_place.ensures ∙ searched c.args.s _ c.numbers_of-numbers.ensures))
