-- Every refusal of windows of jobs fits one number.
use Rattle.std.specs.Prelude.{Err, Ok, Result}
use Prim.Native.Nat.{ℕ, ◌≤◌, ◌<◌}
use native.Mathlib.Omega.{arith}
use mathlib.Core.Path.{◌≡◌, sym, ◌∙◌}
use mathlib.Core.Bool.{Bool, true, false, cond, ◌&&◌}
use mathlib.Core.List.{List}
use lib.Dec.{leb}
use Rattle.windows.specs.declared.Windows.{Windows}
use Rattle.refusal.specs.declared.Refusal.{Refusal}
use Rattle.refusal.specs.Refusals.{refusal}
use Rattle.task.specs.declared.Place.{Place}
use Rattle.chain.specs.declared.Chain.{Chain}
use Rattle.chain.specs.Chains.{tasks_of}
use Rattle.chain.specs.Checks.{verdict_of}
use Rattle.chain.proofs.CheckLaws.{SmallVerdict, verdict_small}
use Rattle.windows.specs.Windows.{after_limits, windows_after, windows_of}

pub after_small : (v : Result ℕ Refusal) → SmallVerdict v → (k : ℕ) → SmallVerdict (after_limits v k)
after_small (Err r) s k = s
after_small (Ok h) s k = go (leb 1 k && leb k 100)
  where
    go : (x : Bool) → SmallVerdict (cond x (Ok h) (Err (refusal 15 0)))
    go true = tt
    go false = (omega arith, omega arith, omega arith)

-- the refusal of an answer
abbrev Small : Result Windows Refusal → Type 0
Small (Ok w) = Unit {0}
Small (Err r) = (r.number < 256) × (r.place ≤ 100)

answer_small : (l : List Place) (B k : ℕ) (v : Result ℕ Refusal) → SmallVerdict v → Small (windows_after l B k v)
unfolding windows_after
answer_small l B k (Err r) s = (s.0, s.1)
answer_small l B k (Ok h) s = tt

pub code_fits : (c : Chain) (B k : ℕ) (w : Result Windows Refusal) (r : Refusal) → w ≡ windows_of c B k → w ≡ Err r → (r.number < 256) × (r.place ≤ 1000000000)
code_fits c B k w r a e =
    let s : Small (Err r) = rw (sym a ∙ e) at (answer_small (tasks_of c) B k (after_limits (verdict_of c) k) (after_small (verdict_of c) (verdict_small c) k)) in
    (s.0, omega (arith, s.1))
