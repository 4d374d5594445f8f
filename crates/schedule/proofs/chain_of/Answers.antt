use Rattle.std.proofs.Common.{ℕ, ◌≡◌, ◌+◌, ◌∙◌, refl, sym, ap, arith, List, map, length, take, set, get_or, length-set}
use Rattle.std.specs.Prelude.{eqb, position}
use Rattle.std.proofs.lemmas.Bool.Decides.{nat_tests}
use Rattle.task.specs.declared.Task.{Task}
use Rattle.chain.specs.Chains.{zero_task}
use Rattle.schedule.specs.Schedules.{number_of, tasks_in, least, padded, task_numbered, zero_numbered}
use Rattle.schedule.specs.Padding.{padded_none, store_more, leave_more}
use Rattle.schedule.proofs.Zeros.{task_zeros}
use Rattle.schedule.proofs.PlaceLaws.{place_found, place_lost}
use Rattle.schedule.proofs.chain_of.Goals as goal
use Rattle.schedule.proofs.chain_of.Goals.{in-Some, in_default}

pub loop-i-init : goal.loop-i-init
loop-i-init c = rw (task_zeros c.default-tasks.result c.default-tasks.ensures) (refl, sym (padded_none zero_task 12))

pub loop-i-preserved : goal.loop-i-preserved
loop-i-preserved c =
    let l = c.loop-i in
    let s = c.args.s in
    let places = c.args.r.places in
    let many : length s.tasks ≡ 32 = c.well_formed.0.1.1.0.1.0.1 in
    let twelve : length places ≡ 12 = c.well_formed.1.0.1.1.0.1.0.1 in
    let few : c.min-count.result ≡ least s.count 32 = grind (arith, nat_tests) in
    let searched : position (λ m. eqb m (get_or places l.i 0)) (take c.min-count.result c.numbers_of-numbers.result) ≡ position (λ m. eqb m (get_or places l.i 0)) (take c.min-count.result (map number_of s.tasks)) =
    ap (λ (x : List ℕ). position (λ m. eqb m (get_or places l.i 0)) (take c.min-count.result x)) c.numbers_of-numbers.ensures
    in
    elim c.match-find.branch [
      | in-Some w ↦
          let found = place_found s.tasks s.count _ _ many few w.in-Some.at (w.in-Some.ensures ∙ searched) in
          let more = store_more (task_numbered (tasks_in s)) 0 zero_task 12 places l.i (omega arith) (omega arith) in
          let stored : c.match-find.tasks ≡ padded 12 zero_task (map (task_numbered (tasks_in s)) (take (l.i + 1) places)) =
          w.tasks-is ∙ ap (λ (x : List Task). set x l.i (get_or s.tasks w.in-Some.at zero_numbered).task) l.invariant.1
          ∙ ap (set (padded 12 zero_task (map (task_numbered (tasks_in s)) (take l.i places))) l.i) found.1 ∙ more
          in
          (rw w.tasks-is (simp length-set l.invariant.0), stored)
      | in_default w ↦
          let lost = place_lost s.tasks s.count _ _ many few (w.in_default.ensures ∙ searched) in
          let more = leave_more (task_numbered (tasks_in s)) 0 zero_task 12 places l.i (omega arith) (omega arith) lost in
          (rw w.tasks-is l.invariant.0, w.tasks-is ∙ l.invariant.1 ∙ more)
    ]
