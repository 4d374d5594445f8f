-- What holds at each return of `most_misses_on`, and what an accepted call has.
use Rattle.std.specs.Prelude.{Err, Ok, Result}
use Prim.Native.Nat.{ℕ, ◌+◌, ◌-◌, ◌/◌, ◌≤◌, ◌<◌}
use native.Mathlib.Omega.{arith}
use native.Mathlib.Nat.{mul-le-mul_right}
use native.Mathlib.Decide.{dec_lt}
use mathlib.Core.Path.{◌≡◌, ap, ◌∙◌}
use mathlib.Core.List.{List}
use lib.Dec.{eqb}
use borrow.Author.Tests.{eq-eqb, ne_eqb}
use Rattle.refusal.specs.declared.Refusal.{Refusal}
use Rattle.task.specs.declared.Task.{Task}
use Rattle.task.specs.declared.Place.{Place}
use Rattle.task.specs.declared.Job.{Job}
use Rattle.task.specs.Jobs.{write_of}
use Rattle.chain.specs.Chains.{placed, at}
use Rattle.chain.specs.Multiples.{hyper_times}
use Rattle.chain.specs.Checks.{verdict_in, Sound}
use Rattle.chain.proofs.CheckLaws.{FactsIn, accepted_in}
use Rattle.timing.specs.WarmUp.{warm_at}
use Rattle.timing.specs.WarmRanges.{warm_range}
use Rattle.ranges.specs.Largest.{largest}
use Rattle.ranges.proofs.LargestLaws.{largest_top, reached}
use Rattle.ranges.proofs.LeastLaws.{FirstOf, first_least}
use Rattle.windows.specs.Windows.{misses, starts, window_of, most_misses, earliest_job, after_limits, windows_after, windows_in, most_from}
use Rattle.windows.specs.Scan.{Looked}
use Rattle.windows.specs.Sliding.{at_most}
use Rattle.windows.proofs.EveryWindow.{starts_pos}
use Rattle.windows.proofs.Answered.{Passed, passed}
use Rattle.windows.proofs.Ends.{number_small}

-- what the checks say of a gap and a list of tasks
abbrev pub judged_in : ℕ → List Task → ℕ → Result ℕ Refusal
judged_in d t k = after_limits (verdict_in d t) k

pub windows_refused : (d : ℕ) (t : List Task) (B k : ℕ) (r : Refusal) → judged_in d t k ≡ Err r → Err r ≡ windows_in d t B k
unfolding windows_after
windows_refused d t B k r e = rw e

-- a look at the n numbers from `from` on
module _ (f : ℕ → ℕ) (from last n : ℕ) (range : from + n ≡ last + 1) (some : 1 ≤ n) (at m : ℕ) where
  -- for the most that there can be: it is the largest where it is reached,
  full_seen : (k : ℕ) → ((x : ℕ) → f x ≤ k) → Looked f k from last at m → at ≤ last → k ≡ largest f from n
  full_seen k top t h =
      let r = reached f n from some in
      omega (arith, t.reached h, largest_top f n from at t.low (omega arith), r.is, top r.number)

  -- else all were looked at;
  all_seen : (k : ℕ) → Looked f k from last at m → last < at → m ≡ largest f from n
  all_seen k t h = let e : at - from ≡ n = omega (arith, t.high) in rw e at t.most_is

  -- for the largest: it ends at the first that has it
  first_seen : Looked f (largest f from n) from last at m → FirstOf (λ x. eqb (f x) (largest f from n)) from n at
  first_seen t =
      let r = reached f n from some in
      let inside : at ≤ last = elim (dec_lt last at) [ yes h ↦ absurd (omega (arith, t.before r.number r.low (omega (arith, r.high)), r.is)) | no h ↦ omega arith ] in
      let a = t.reached inside in
      let b = largest_top f n from at t.low (omega arith) in
      record { low = t.low; high = omega arith; passes = eq-eqb (f at) (largest f from n) (omega arith); before = λ x u v. ne_eqb (f x) (largest f from n) (λ e. omega (arith, t.before x u v)) }

-- an accepted call, w being W1 and a the first task
pub record Call (d : ℕ) (ts : List Task) (k h w : ℕ) (a : Place) : Type 0 where
  pub accepted : judged_in d ts k ≡ Ok h
  pub warm : w ≡ warm_at (placed d ts) 0
  pub first : a ≡ at (placed d ts) 0

module _ (d : ℕ) (ts : List Task) (k h w : ℕ) (a : Place) (c : Call d ts k h w a) where
  abbrev l : List Place
  l = placed d ts

  well : Passed (verdict_in d ts) k h
  well = passed _ _ _ c.accepted

  f : FactsIn l h
  f = accepted_in d ts h well.whole

  pub period_pos : 0 < a.period
  period_pos = rw c.first (f.sound.each 0 f.sound.some).period_pos

  -- the number of first jobs
  starts_are : h / a.period ≡ starts l
  starts_are = rw (c.first, f.hyper)

  pub some_start : 1 ≤ h / a.period
  some_start = omega (arith, starts_are, starts_pos l f.sound)

  -- the last job of the last window writes early
  range_fits : write_of (at l 0) (w + h / a.period + k) ≤ 1000000000000
  range_fits =
      let t = f.sound.each 0 f.sound.some in
      rw (c.warm, starts_are)
      (omega (arith, hyper_times l 0 f.sound.some, f.hyper, f.small, warm_range l f.sound 0 f.sound.some, mul-le-mul_right (at l 0).period well.high, t.period_max, t.duration_max))

  pub last_small : w + h / a.period ≤ 1000000000000
  last_small = number_small l f.sound (w + h / a.period) (w + h / a.period + k) (omega arith) range_fits

  -- what a look through the first jobs asks
  pub look_runs : Sound l × (1 ≤ k) × (k ≤ 100) × (w + 1 ≤ w + h / a.period) × (write_of (at l 0) (w + h / a.period + k) ≤ 1000000000000)
  look_runs = (f.sound, well.low, well.high, omega (arith, some_start), range_fits)

  module _ (B : ℕ) where
    -- a look for the largest number of misses ends at the earliest job that has it
    first_most : (m : ℕ) (j : Job) (y : ℕ) → m ≡ most_misses l B k → Looked (window_of l B k) m (w + 1) (w + h / a.period) j.0 y → most_from m j ≡ windows_in d ts B k
    unfolding windows_after most_misses earliest_job
    first_most m j y e u =
        let i : j.0 ≡ earliest_job l B k
        = first_least (λ s. eqb (window_of l B k s) (most_misses l B k)) (starts l) (warm_at l 0 + 1) j.0
        (first_seen (window_of l B k) _ _ (starts l) (omega arith) (starts_pos l f.sound) j.0 y (rw (c.warm, starts_are, e) at u)) in
        rw c.accepted (ap (λ (v : ℕ). most_from v j) e ∙ ap (λ (v : ℕ). most_from (most_misses l B k) (record { 0 = v })) i)

    -- a window that has k misses
    pub windows_full : (j : Job) (x : ℕ) → Looked (window_of l B k) k (w + 1) (w + h / a.period) j.0 x → j.0 ≤ w + h / a.period → most_from k j ≡ windows_in d ts B k
    unfolding most_misses
    windows_full j x t u =
        first_most k j x
        (rw (← c.warm, ← starts_are) (full_seen (window_of l B k) _ _ (h / a.period) (omega arith) some_start _ _ k (at_most (misses l B) k) t u)) t

    -- no window has k, and one has m
    pub windows_most : (j : Job) (m x y : ℕ) → Looked (window_of l B k) k (w + 1) (w + h / a.period) x m → w + h / a.period < x → Looked (window_of l B k) m (w + 1) (w + h / a.period) j.0 y
        → most_from m j ≡ windows_in d ts B k
    unfolding most_misses
    windows_most j m x y s t u = first_most m j y (rw (← c.warm, ← starts_are) (all_seen (window_of l B k) _ _ (h / a.period) (omega arith) some_start x m k s t)) u
