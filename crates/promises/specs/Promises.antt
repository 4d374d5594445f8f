-- Order 10 of document 02: "After the schedule's own checks (8, 5 and 6 as in order 1, then 7 chain by chain) ask refuses a latency above its bound with 21". What that says of a schedule with bounds, and the
-- greatest latencies that an ask gives. What it means for presses is said in EveryChain.
use Rattle.std.specs.Prelude.{ℕ, Bool, cond, List, [], ◌∷◌, map, leb, eqb, replicate, Err, Ok, Result}
use Rattle.refusal.specs.declared.Refusal.{Refusal}
use Rattle.refusal.specs.Refusals.{refusal, none}
use Rattle.chain.specs.declared.Chain.{Chain}
use Rattle.chain.specs.Chains.{tasks_of}
use Rattle.chain.specs.Checks.{hyper_verdict}
use Rattle.schedule.specs.declared.Schedule.{Schedule}
use Rattle.schedule.specs.Schedules.{tasks_in, routes_in, chain_of, padded}
use Rattle.schedule_checks.specs.Checks.{fault_of}
use Rattle.latency.specs.Latency.{greatest_latency}
use Rattle.bounded.specs.declared.Bounded.{Bounded}
use Rattle.bounded.specs.Bounded.{bounds_in, pairwise}

-- The chains of a schedule, in their order.
abbrev pub chains_of : Schedule → List Chain
chains_of s = map (chain_of s.gap (tasks_in s)) (routes_in s)

-- What a verdict refuses, or else r.
abbrev pub after_verdict : Result ℕ Refusal → Refusal → Refusal
after_verdict (Err q) r = q
after_verdict (Ok h) r = r

-- "7 chain by chain": the first chain whose hyperperiod is above its limit; number 0 at place 0 where there is none.
unfoldable pub hyper_refusal : List Chain → Refusal
hyper_refusal [] = none
hyper_refusal (c ∷ cs) = after_verdict (hyper_verdict (tasks_of c)) (hyper_refusal cs)

-- "the schedule's own checks (8, 5 and 6 as in order 1, then 7 chain by chain)"
unfoldable pub checks_of : Schedule → Refusal
checks_of s = cond (eqb (fault_of s).number 0) (hyper_refusal (chains_of s)) (fault_of s)

-- The greatest latency of each chain, in order.
abbrev pub chain_latency : Chain → ℕ
chain_latency c = greatest_latency (tasks_of c)

abbrev pub greatest_in : Schedule → List ℕ
greatest_in s = map chain_latency (chains_of s)

-- "gives the greatest latencies": four numbers, 0 past the chains.
abbrev pub latencies_of : Schedule → List ℕ
latencies_of s = padded 4 0 (greatest_in s)

-- No latency is "above its bound"; "Bounds beyond the chain count are not looked at."
abbrev pub within_bounds : Bounded → Bool
within_bounds b = pairwise leb (greatest_in b.schedule) (bounds_in b)

-- What is said of a schedule with bounds: the refusal, number 0 at place 0 where every bound is kept, and the latencies.
pub record Judged : Type 0 where
  pub refusal : Refusal
  pub latencies : List ℕ

-- As an answer: the latencies, or the refusal.
abbrev pub answered : Judged → Result (List ℕ) Refusal
answered j = cond (eqb j.refusal.number 0) (Ok j.latencies) (Err j.refusal)

-- A refusal has zeros.
abbrev pub refused_with : Refusal → Judged
refused_with r = record { refusal = r; latencies = replicate 4 0 }

-- All of it: the schedule's own checks, then 21, then the latencies.
unfoldable pub judged_of : Bounded → Judged
judged_of b =
    cond (eqb (checks_of b.schedule).number 0)
    (cond (within_bounds b) (record { refusal = none; latencies = latencies_of b.schedule }) (refused_with (refusal 21 0)))
    (refused_with (checks_of b.schedule))
