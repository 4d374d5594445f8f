-- The same question of a list of tasks, one for each place, and the numbers of the tasks that fill the places: what the code works on. That a schedule's chain has this answer is `in_list` in MovedSchedule.
use Rattle.std.specs.Prelude.{ℕ, ◌*◌, ◌/◌, ◌≤◌, ◌<◌, ◌≡◌, Bool, cond, List, leb, length, get_or, Err, Ok, Option, Result}
use Rattle.std.specs.Int.{◌∣◌}
use Rattle.refusal.specs.declared.Refusal.{Refusal}
use Rattle.refusal.specs.Refusals.{refusal}
use Rattle.ranges.specs.Least.{least_from}
use Rattle.task.specs.declared.Task.{Task}
use Rattle.chain.specs.Chains.{placed, at, zero_task}
use Rattle.chain.specs.Checks.{verdict_in, Sound}
use Rattle.chain.specs.Hyperperiod.{hyper_of}
use Rattle.schedule.specs.Schedules.{position_of, known}
use Rattle.stepping.specs.Standing.{Reciprocals}
use Rattle.latency.specs.Latency.{greatest_latency}
use Rattle.phase.specs.declared.Tried.{Tried}
use Rattle.phase.specs.Phases.{smallest_of}
use Rattle.phase.specs.MovedTasks.{moved_at}

-- Phase F keeps the bound.
abbrev pub keeps_in : ℕ → List ℕ → List Task → ℕ → ℕ → ℕ → Bool
keeps_in g places l number bound F = leb (greatest_latency (placed g (moved_at number F places l))) bound

-- The period at the first place with this number.
abbrev pub period_in : List ℕ → List Task → ℕ → ℕ
period_in places l number = (get_or l (position_of number places) zero_task).period

-- 19, 20, or the smallest phase.
unfoldable pub judged_in : ℕ → List ℕ → List Task → ℕ → ℕ → Result (Option ℕ) Refusal
judged_in g places l number bound =
    cond (known places number)
    (cond (leb (period_in places l number) 10000) (smallest_of (keeps_in g places l number bound) (period_in places l number)) (Err (refusal 20 0)))
    (Err (refusal 19 0))

-- After the list's own checks.
unfoldable pub after_verdict : ℕ → List ℕ → List Task → ℕ → ℕ → Result ℕ Refusal → Result (Option ℕ) Refusal
after_verdict g places l number bound (Err r) = Err r
after_verdict g places l number bound (Ok h) = judged_in g places l number bound

abbrev pub phase_in : ℕ → List ℕ → List Task → ℕ → ℕ → Result (Option ℕ) Refusal
phase_in g places l number bound = after_verdict g places l number bound (verdict_in g l)

-- One number, one task: as many numbers as tasks, and places with the same number have the same task.
pub record Filled (places : List ℕ) (l : List Task) : Type 0 where
  pub long : length places ≡ length l
  pub same : (i j : ℕ) → i < length l → j < length l → get_or places i 0 ≡ get_or places j 0 → get_or l i zero_task ≡ get_or l j zero_task

-- Tasks that 8, 5 and 7 accept, and a number for each.
pub record AcceptedList (g : ℕ) (places : List ℕ) (l : List Task) : Type 0 where
  pub long : length places ≡ length l
  pub sound : Sound (placed g l)
  pub small : hyper_of (placed g l) ≤ 60000000

-- r is a multiple of the periods of all tasks but the one with this number.
pub record OthersDivide (number : ℕ) (places : List ℕ) (l : List Task) (r : ℕ) : Type 0 where
  pub some : 1 ≤ r
  pub others : (i : ℕ) → i < length l → (get_or places i 0 ≡ number → ⊥) → (get_or l i zero_task).period ∣ r

-- What the tries of phases begin with: the place p at which the walks go, the length n of its range, a job from which on every phase is warm, and what stands for the divisions of the steps.
pub record Begun (g : ℕ) (places : List ℕ) (l : List Task) (p n from : ℕ) (r : List ℕ) : Type 0 where
  pub accepted : AcceptedList g places l
  pub inside : p < length l
  pub range : n ≡ hyper_of (placed g l) / (at (placed g l) p).period
  pub warm : 60011000 ≤ from * (at (placed g l) p).period
  pub soon : from * (at (placed g l) p).period ≤ 62000000
  pub constants : Reciprocals (placed g l) r

-- What a search of the phases below n finds, and that the partitions that its walks answered together are no more than `most`.
pub record Finds (g : ℕ) (places : List ℕ) (l : List Task) (number bound n most : ℕ) (r : Tried) : Type 0 where
  pub phase : r.phase ≡ least_from (keeps_in g places l number bound) 0 n
  pub few : r.walked ≤ most
