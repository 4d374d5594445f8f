use native.Mathlib.Omega.{arith}
use Prim.Native.Nat.{◌≤◌}
use mathlib.Core.Path.{sym, ◌∙◌}
use lib.ListN.{length}
use Rattle.chain.specs.Flat.{given_in, given_count}
use Rattle.chain.proofs.Found.{found_none}
use Rattle.chain.proofs.CheckLaws.{sound, check_places, check_fault, check_gap, check_hyper}
use Rattle.std.proofs.lemmas.Grind.{common_steps}
use Rattle.chain.proofs.check_on.Goals as goal
use Rattle.chain.proofs.check_on.Goals.{Else-not-contains}

-- the number of tasks, after the check of 8
low : (c : Else-not-contains) → 1 ≤ length (given_in c.args.tasks.now)
low c = grind (arith, common_steps, given_count)

high : (c : Else-not-contains) → length (given_in c.args.tasks.now) ≤ 12
high c = grind (arith, common_steps, given_count)

pub returns-then-not-contains : goal.returns-then-not-contains
returns-then-not-contains c = check_places _ _ _ (λ h. grind (arith, common_steps, given_count))

pub first_fault-requires : goal.first_fault-requires
first_fault-requires c = high c

pub returns-in-Some : goal.returns-in-Some
returns-in-Some c = check_fault _ _ _ (low (goal.at.returns-in-Some c).Else-not-contains) (high (goal.at.returns-in-Some c).Else-not-contains) _ c.in-Some.ensures

pub returns-then-gap-gt1000 : goal.returns-then-gap-gt1000
returns-then-gap-gt1000 c = check_gap _ _ _ (low (goal.at.returns-then-gap-gt1000 c).Else-not-contains) (high (goal.at.returns-then-gap-gt1000 c).Else-not-contains) (sym (found_none _ c.in_default.ensures)) c.if-gap-gt1000.true

pub hyper_verdict-requires : goal.hyper_verdict-requires
hyper_verdict-requires c = sound _ _ (low (goal.at.hyper_verdict-requires c).Else-not-contains) (high (goal.at.hyper_verdict-requires c).Else-not-contains) (found_none _ c.in_default.ensures) c.if-gap-gt1000.false

pub returns : goal.returns
returns c =
    let s = c.before in
    c.hyper_verdict.ensures ∙ check_hyper _ _ _ (low (goal.at.returns c).Else-not-contains) (high (goal.at.returns c).Else-not-contains) (sym (found_none _ s.in_default.ensures)) s.if-gap-gt1000.false
