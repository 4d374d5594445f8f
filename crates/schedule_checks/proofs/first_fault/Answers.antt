use Rattle.std.proofs.Common.{◌+◌, ◌∙◌, sym, arith}
use Rattle.std.proofs.lemmas.List.{at_drop_more, at_drop_all}
use Rattle.chain.proofs.Found.{some_found, none_found}
use Rattle.schedule.specs.Schedules.{zero_numbered}
use Rattle.schedule_checks.specs.Checks.{first_fault}
use Rattle.schedule_checks.proofs.Faults.{fault_past, fault_here, fault_none}
use Rattle.schedule_checks.proofs.first_fault.Goals as goal

pub returns-then-not-follows : goal.returns-then-not-follows
returns-then-not-follows c =
    let l = c.loop-i in
    some_found _ _ (l.invariant ∙ at_drop_more (first_fault (l.i + 1) l.before) c.args.tasks.now l.i zero_numbered c.loop-i-test.true ∙ fault_here _ _ _ _ (sym c.follows.ensures ∙ c.if-not-follows.true)) (omega arith)

pub loop-i-preserved : goal.loop-i-preserved
loop-i-preserved c =
    let l = c.loop-i in
    l.invariant ∙ at_drop_more (first_fault (l.i + 1) l.before) c.args.tasks.now l.i zero_numbered c.loop-i-test.true ∙ fault_past _ _ _ _ (sym c.follows.ensures ∙ c.if-not-follows.false)

pub returns : goal.returns
returns c =
    let l = c.loop-i in
    none_found _ (l.invariant ∙ at_drop_all (first_fault (l.i + 1) l.before) c.args.tasks.now l.i c.loop-i-test.false ∙ fault_none _ _)
