-- Every refusal fits one number.
use Rattle.std.specs.Prelude.{Err, Ok, Result}
use Prim.Native.Nat.{ℕ, ◌≤◌, ◌<◌}
use native.Mathlib.Omega.{arith}
use mathlib.Core.Path.{◌≡◌, sym, ◌∙◌}
use mathlib.Core.Bool.{Bool, true, false, cond}
use mathlib.Core.List.{List}
use lib.Dec.{ltb}
use Rattle.refusal.specs.declared.Refusal.{Refusal}
use Rattle.refusal.specs.Refusals.{refusal}
use Rattle.task.specs.declared.Place.{Place}
use Rattle.chain.specs.declared.Chain.{Chain}
use Rattle.chain.specs.Chains.{tasks_of}
use Rattle.chain.specs.Checks.{verdict_of}
use Rattle.chain.proofs.CheckLaws.{SmallVerdict, verdict_small}
use Rattle.timing.specs.declared.WarmUp.{WarmUp}
use Rattle.timing.specs.Answers.{warm_up_after, warm_up_of, span_after}
use Rattle.capi_timing.specs.Calls.{SmallSpan}

span_small : (v : Result ℕ Refusal) → SmallVerdict v → (from t span : ℕ) → SmallSpan (span_after v from t span)
unfolding span_after
span_small (Err r) s from t span = (s.0, s.1)
span_small (Ok h) s from t span = go (ltb t from) (ltb 1000000000000 t)
  where
    go : (a b : Bool) → SmallSpan (cond a (Err (refusal 12 0)) (cond b (Err (refusal 13 0)) (Ok span)))
    go true b = (omega arith, omega arith)
    go false true = (omega arith, omega arith)
    go false false = tt

-- an answer equal to one that is given after the checks
pub answer_small : (c : Chain) (from t span : ℕ) (s : Result ℕ Refusal) → s ≡ span_after (verdict_of c) from t span → SmallSpan s
answer_small c from t span s e = rw e (span_small (verdict_of c) (verdict_small c) from t span)

pub verdict_fits : (c : Chain) (v : Result ℕ Refusal) (r : Refusal) → v ≡ verdict_of c → v ≡ Err r → (r.number < 256) × (r.place ≤ 1000000000)
verdict_fits c v r e f =
    let s : SmallVerdict (Err r) = rw (sym e ∙ f) at (verdict_small c) in
    (s.0, omega (arith, s.1))

warm_small : (l : List Place) (v : Result ℕ Refusal) → SmallVerdict v → (r : Refusal) → warm_up_after l v ≡ Err r → (r.number < 256) × (r.place ≤ 1000000000)
unfolding warm_up_after
warm_small l (Err s) t r e = let i : s ≡ r = cc in rw (← i) (t.0, omega (arith, t.1))
warm_small l (Ok h) t r e = absurd cc

pub warm_fits : (c : Chain) (w : Result WarmUp Refusal) (r : Refusal) → w ≡ warm_up_of c → w ≡ Err r → (r.number < 256) × (r.place ≤ 1000000000)
warm_fits c w r e f = warm_small (tasks_of c) (verdict_of c) (verdict_small c) r (sym e ∙ f)
