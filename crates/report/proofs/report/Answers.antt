use native.Mathlib.Omega.{arith}
use mathlib.Core.Path.{sym, ◌∙◌}
use Rattle.report.proofs.Exits.{file_refused, file_read, few_chains, reported}
use borrow.Author.Rules.{rules}
use Rattle.report.proofs.report.Goals as goal

pub returns-in-Err : goal.returns-in-Err
returns-in-Err c = reported _ _ _ _ _ (file_refused c.args.bytes.now _ (sym c.in-Err.is ∙ c.read_file.ensures)) c.put_refusal.ensures.0 (omega arith)

pub put_schedule-requires : goal.put_schedule-requires
put_schedule-requires c = (few_chains c.args.bytes.now (λ i. search rules) _ (sym c.in-Ok.is ∙ c.read_file.ensures), search rules, search rules)

pub returns : goal.returns
returns c = reported _ _ _ _ _ (file_read c.args.bytes.now _ (sym c.in-Ok.is ∙ c.read_file.ensures)) c.put_schedule.ensures.0 (omega arith)
