-- The rule of a task as facts, and two tests that both hold.
use Rattle.std.specs.Prelude.{ℕ, ◌≤◌, ◌<◌, ◌≡◌, refl, Bool, true, false, ◌&&◌, ltb, leb}
use Rattle.std.proofs.Common.{arith, ltb-true, leb-true}
use Rattle.task.specs.Jobs.{Within}
use Rattle.task.proofs.LinkLaws.{limits}
use Rattle.schedule.specs.declared.NumberedTask.{NumberedTask}
use Rattle.schedule.specs.Schedules.{task_rule}

pub both : (a b : Bool) → (a && b) ≡ true → (a ≡ true) × (b ≡ true)
both true true h = (refl, refl)
both true false h = absurd (let z : ◌≡◌ {A = ℕ} 0 1 = cc in omega arith)
both false b h = absurd (let z : ◌≡◌ {A = ℕ} 0 1 = cc in omega arith)

pub record Rule (before : ℕ) (t : NumberedTask) : Type 0 where
  pub above : before < t.number
  pub number_max : t.number ≤ 65535
  pub within : Within t.task

pub rule : (before : ℕ) (t : NumberedTask) → task_rule before t ≡ true → Rule before t
unfolding task_rule
rule before t h =
    let a = both (ltb before t.number) _ h in
    let b = both (leb t.number 65535) _ a.1 in
    record { above = ltb-true before t.number a.0; number_max = leb-true t.number 65535 b.0; within = limits t.task b.1 }
