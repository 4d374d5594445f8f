-- What windows answer of a chain of a schedule is the mark of that chain's bad stretch (`windows_answered_from`).
use Rattle.std.specs.Prelude.{ℕ, ◌≡◌, Err}
use Rattle.std.proofs.Common.{arith, sym, ◌∙◌}
use Rattle.task.specs.declared.Job.{Job}
use Rattle.chain.specs.declared.Chain.{Chain}
use Rattle.chain.specs.Chains.{tasks_of}
use Rattle.schedule.specs.declared.Schedule.{Schedule}
use Rattle.schedule.specs.Schedules.{chain_at}
use Rattle.schedule.specs.Arrays.{Arrays}
use Rattle.schedule_checks.proofs.ChosenChain.{chosen_twelve, choice_answers, answer_chosen}
use Rattle.windows.specs.Windows.{windows_of, most_from}
use Rattle.windows.proofs.EveryWindow.{BadStretch}
use Rattle.windows.proofs.Answered.{windows_answered}
use Rattle.from_schedule.specs.Answers.{windows_from}

pub windows_answered_from : (s : Schedule) → Arrays s → (n B k m : ℕ) (j : Job) → windows_from s n B k ≡ most_from m j → BadStretch (tasks_of (chain_at s n)) B k m j.0
windows_answered_from s a n B k m j h =
    let chosen = answer_chosen s n _ _ _ (λ r e. let z : ◌≡◌ {A = ℕ} 0 1 = cc in omega arith) h in
    windows_answered (chain_at s n) (chosen_twelve s n a chosen) B k m j (sym (choice_answers s n Err (λ (c : Chain). windows_of c B k) chosen) ∙ h)
