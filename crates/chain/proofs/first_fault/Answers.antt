use native.Mathlib.Omega.{arith}
use Prim.Native.Nat.{◌+◌}
use mathlib.Core.Path.{◌≡◌, refl, sym, ap, ◌∙◌}
use mathlib.Core.List.{◌∷◌}
use lib.ListN.{drop}
use Rattle.task.specs.declared.Task.{Task}
use Rattle.chain.specs.Chains.{zero_task}
use Rattle.chain.specs.Checks.{first_fault}
use Rattle.chain.specs.Flat.{given_in, given_count}
use Rattle.chain.proofs.Front.{rest_cons, rest_end}
use Rattle.chain.proofs.Found.{some_found, none_found}
use Rattle.chain.proofs.CheckLaws.{fault_past, fault_here, fault_none}
use Rattle.chain.proofs.first_fault.Goals as goal
use Rattle.chain.proofs.first_fault.Goals.{After-given_at}

-- the task at the loop's place, and the rest
here : (c : After-given_at) → drop c.loop-i.i (given_in c.args.tasks.now) ≡ c.given_at.result ∷ drop (c.loop-i.i + 1) (given_in c.args.tasks.now)
here c =
    let l = c.loop-i in
    let t = given_in c.args.tasks.now in
    rest_cons t l.i zero_task (omega (arith, l.invariant.0)) ∙ ap (λ (x : Task). x ∷ drop (l.i + 1) t) (sym c.given_at.ensures)

pub loop-i-init : goal.loop-i-init
loop-i-init c = (given_count c.args.tasks.now, refl)

pub loop-i-preserved : goal.loop-i-preserved
loop-i-preserved c =
    let l = c.loop-i in
    (l.invariant.0, l.invariant.1 ∙ ap (first_fault (l.i + 1)) (here (goal.at.loop-i-preserved c).After-given_at) ∙ fault_past _ _ _ (sym c.within_limits.ensures ∙ c.if-not-within_limits.false))

pub returns-then-not-within_limits : goal.returns-then-not-within_limits
returns-then-not-within_limits c =
    let l = c.loop-i in
    some_found _ _ (l.invariant.1 ∙ ap (first_fault (l.i + 1)) (here (goal.at.returns-then-not-within_limits c).After-given_at) ∙ fault_here _ _ _ (sym c.within_limits.ensures ∙ c.if-not-within_limits.true)) (omega arith)

pub returns : goal.returns
returns c =
    let l = c.loop-i in
    none_found _ (l.invariant.1 ∙ ap (first_fault (l.i + 1)) (rest_end (given_in c.args.tasks.now) l.i (omega (arith, l.invariant.0))) ∙ fault_none _)
