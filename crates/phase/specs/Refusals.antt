-- The refusals of the smallest phase: each has a number from 1 on and a place, both small, so it fits one number for C (`refusals_small`).
use Rattle.std.specs.Prelude.{ℕ, ◌≤◌, ◌<◌, ◌≡◌, refl, Bool, true, false, cond, ltb, leb, eqb, Err, None, Ok, Option, Result, Some}
use Rattle.std.proofs.Common.{arith}
use Rattle.std.proofs.Math.Decide.{dec_lt}
use Rattle.std.proofs.lemmas.Bool.{eqb-false}
use Rattle.refusal.specs.declared.Refusal.{Refusal}
use Rattle.refusal.specs.Refusals.{refusal}
use Rattle.ranges.specs.Least.{least_from}
use Rattle.chain.specs.Checks.{verdict_of}
use Rattle.chain.proofs.CheckLaws.{SmallVerdict, verdict_small}
use Rattle.schedule.specs.declared.Schedule.{Schedule}
use Rattle.schedule.specs.Schedules.{known, chain_at}
use Rattle.schedule_checks.specs.Checks.{choice_of, after_choice}
use Rattle.schedule_checks.proofs.Positions.{choice_small}
use Rattle.phase.specs.Phases.{keeps_bound, smallest_of, period_of, places_at, phase_after, phase_from}

abbrev pub SmallPhase : Result (Option ℕ) Refusal → Type 0
SmallPhase (Ok (Some F)) = Unit {0}
SmallPhase (Ok None) = Unit {0}
SmallPhase (Err r) = (1 ≤ r.number) × (r.number < 256) × (r.place ≤ 1000000000)

found_small : (test : ℕ → Bool) (n : ℕ) → SmallPhase (smallest_of test n)
found_small test n = go (ltb (least_from test 0 n) n)
  where
    go : (b : Bool) → SmallPhase (cond b (Ok (Some (least_from test 0 n))) (Ok None))
    go true = tt
    go false = tt

after_small : (s : Schedule) (n number bound : ℕ) (v : Result ℕ Refusal) → SmallVerdict v → SmallPhase (phase_after s n number bound v)
unfolding phase_after
after_small s n number bound (Err r) k = (k.2, k.0, omega (arith, k.1))
after_small s n number bound (Ok h) k = go (known (places_at s n) number) (leb (period_of s number) 10000)
  where
    go : (a b : Bool) → SmallPhase (cond a (cond b (smallest_of (keeps_bound s n number bound) (period_of s number)) (Err (refusal 20 0))) (Err (refusal 19 0)))
    go false b = (omega arith, omega arith, omega arith)
    go true false = (omega arith, omega arith, omega arith)
    go true true = found_small (keeps_bound s n number bound) (period_of s number)

pub refusals_small : (s : Schedule) (n number bound : ℕ) → SmallPhase (phase_from s n number bound)
unfolding after_choice
refusals_small s n number bound = go (eqb (choice_of s n).number 0) refl
  where
    go : (b : Bool) → eqb (choice_of s n).number 0 ≡ b → SmallPhase (cond b (phase_after s n number bound (verdict_of (chain_at s n))) (Err (choice_of s n)))
    go true e = after_small s n number bound (verdict_of (chain_at s n)) (verdict_small (chain_at s n))
    go false e =
        let k = choice_small s n in
        (elim (dec_lt 0 (choice_of s n).number) [ yes h ↦ h | no h ↦ absurd (eqb-false (choice_of s n).number 0 e (omega arith)) ], omega (arith, k.number), omega (arith, k.place))
