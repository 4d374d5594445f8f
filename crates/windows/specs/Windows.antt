-- Document 01, "Windows of jobs", and order 2 of document 02: the jobs that miss, the largest number of misses in k successive jobs, the earliest job from which
-- there are as many, and what the call answers.
use Rattle.std.specs.Prelude.{ℕ, zero, suc, ◌+◌, ◌-◌, ◌/◌, Bool, true, false, cond, ◌&&◌, List, leb, ltb, eqb, Err, Ok, Result}
use Rattle.refusal.specs.declared.Refusal.{Refusal}
use Rattle.refusal.specs.Refusals.{refusal}
use Rattle.task.specs.declared.Task.{Task}
use Rattle.task.specs.declared.Place.{Place}
use Rattle.task.specs.declared.Job.{Job}
use Rattle.task.specs.Jobs.{read_of, write_of}
use Rattle.chain.specs.declared.Chain.{Chain}
use Rattle.chain.specs.Chains.{placed, tasks_of, at, last_place, walk}
use Rattle.chain.specs.Hyperperiod.{hyper_of}
use Rattle.chain.specs.Checks.{verdict_of, verdict_in}
use Rattle.timing.specs.WarmUp.{warm_at}
use Rattle.ranges.specs.Largest.{largest}
use Rattle.ranges.specs.Least.{least_from}
use Rattle.windows.specs.declared.Windows.{Windows}

-- The forward end of job j of the first place, less its own read, which is never later (`walk_late` in timing/specs/WarmRanges).
unfoldable pub span_of : List Place → ℕ → ℕ
span_of l j = write_of (at l (last_place l)) (walk l j) - read_of (at l 0) j

-- Job j of the first place misses when that is above B.
unfoldable pub misses : List Place → ℕ → ℕ → Bool
misses l B j = ltb B (span_of l j)

-- 1 for a miss, else 0.
abbrev pub one : Bool → ℕ
one true = 1
one false = 0

-- The number of misses in the k successive jobs from s on.
unfoldable pub misses_in : (ℕ → Bool) → ℕ → ℕ → ℕ
misses_in miss s zero = 0
misses_in miss s (suc k) = one (miss s) + misses_in miss (suc s) k

-- How many first jobs of windows are looked at: H / T1, T1 being the first place's period.
abbrev pub starts : List Place → ℕ
starts l = hyper_of l / (at l 0).period

-- The number of misses in the window of k jobs from s on.
abbrev pub window_of : List Place → ℕ → ℕ → ℕ → ℕ
window_of l B k s = misses_in (misses l B) s k

-- The largest number of misses in k successive jobs, the first of them lying in W1 + 1 to W1 + H / T1.
-- That no window after W1 has more, over all time, is `largest_of_all` in EveryWindow.
unfoldable pub most_misses : List Place → ℕ → ℕ → ℕ
most_misses l B k = largest (window_of l B k) (warm_at l 0 + 1) (starts l)

-- Order 2 of document 02: "the earliest starting job whose window holds that many misses, within the range of jobs as before".
-- That there is one, and that every earlier job after W1 has fewer, is `earliest` in EveryWindow.
unfoldable pub earliest_job : List Place → ℕ → ℕ → ℕ
earliest_job l B k = least_from (λ s. eqb (window_of l B k s) (most_misses l B k)) (warm_at l 0 + 1) (starts l)

-- After the chain's own checks, 8, 5 and 7: 15, k outside its limits, 1 to 100.
abbrev pub after_limits : Result ℕ Refusal → ℕ → Result ℕ Refusal
after_limits (Err r) k = Err r
after_limits (Ok h) k = cond (leb 1 k && leb k 100) (Ok h) (Err (refusal 15 0))

-- The two numbers that the call answers.
abbrev pub most_from : ℕ → Job → Result Windows Refusal
most_from m j = Ok (record { most = m; first = j })

-- What the call answers, by what its checks say: 8, 5, 7 and 15, or the two numbers.
unfoldable pub windows_after : List Place → ℕ → ℕ → Result ℕ Refusal → Result Windows Refusal
windows_after l B k (Err r) = Err r
windows_after l B k (Ok h) = most_from (most_misses l B k) (record { 0 = earliest_job l B k })

-- The call on a chain: the chain's own checks, then 15, then the answer.
abbrev pub windows_of : Chain → ℕ → ℕ → Result Windows Refusal
windows_of c B k = windows_after (tasks_of c) B k (after_limits (verdict_of c) k)

-- The same of a gap and a list of tasks, one for each place.
abbrev pub windows_in : ℕ → List Task → ℕ → ℕ → Result Windows Refusal
windows_in g l B k = windows_after (placed g l) B k (after_limits (verdict_in g l) k)
