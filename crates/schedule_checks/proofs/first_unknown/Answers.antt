use Rattle.std.proofs.Common.{◌+◌, ◌∙◌, sym, ap, arith}
use Rattle.std.specs.Prelude.{ℕ, Option, is_some}
use Rattle.std.proofs.lemmas.List.{at_drop_more, at_drop_all}
use Rattle.chain.proofs.Found.{some_found, none_found}
use Rattle.schedule_checks.specs.Checks.{first_unknown}
use Rattle.schedule_checks.proofs.Faults.{unknown_past, unknown_here, unknown_none}
use Rattle.schedule_checks.proofs.first_unknown.Goals as goal

pub returns-then-is_none : goal.returns-then-is_none
returns-then-is_none c =
    let l = c.loop-i in
    some_found _ _ (l.invariant ∙ at_drop_more (first_unknown (l.i + 1) c.args.numbers.now) c.args.chain.now l.i 0 c.loop-i-test.true ∙ unknown_here _ _ _ _ (ap (λ (o : Option ℕ). is_some o) (sym c.find.ensures) ∙ c.if-is_none.ensures)) (omega arith)

pub loop-i-preserved : goal.loop-i-preserved
loop-i-preserved c =
    let l = c.loop-i in
    l.invariant ∙ at_drop_more (first_unknown (l.i + 1) c.args.numbers.now) c.args.chain.now l.i 0 c.loop-i-test.true ∙ unknown_past _ _ _ _ (ap (λ (o : Option ℕ). is_some o) (sym c.find.ensures) ∙ c.if-is_none.ensures)

pub returns : goal.returns
returns c =
    let l = c.loop-i in
    none_found _ (l.invariant ∙ at_drop_all (first_unknown (l.i + 1) c.args.numbers.now) c.args.chain.now l.i c.loop-i-test.false ∙ unknown_none _ c.args.numbers.now)
