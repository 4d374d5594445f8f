use Rattle.std.specs.Prelude.{Err}
use mathlib.Core.Path.{sym, ap, ◌∙◌}
use Rattle.capi_chain.proofs.Given.{Given, given}
use Rattle.capi_maker.specs.Calls.{made_code, made_numbers}
use Rattle.capi_maker.proofs.Gives.{gives, code_fits}
use borrow.Author.Rules.{rules}
use Rattle.capi_maker.proofs.mo_make_table.Goals as goal
use Rattle.capi_maker.proofs.mo_make_table.Goals.{After-flat_length-n}

front : (c : After-flat_length-n) → Given c.args.tasks.now c.args.places c.args.gap c.flat_length-n.result
front c = given _ _ _ _ c.flat_length-n.ensures

pub slice_bounds-make_table_on-end : goal.slice_bounds-make_table_on-end
slice_bounds-make_table_on-end c = (front c).long

pub code-requires : goal.code-requires
code-requires c = code_fits _ _ _ _ _ _ _ _ (c.make_table_on-m.ensures _ (front (goal.at.code-requires c).After-flat_length-n).stands) (c.in-Err-Refused.is ∙ ap Err (rw c.in-Err-Refused.is at c.in-Err-Refused.field-0-is))

pub returns-in-Ok : goal.returns-in-Ok
returns-in-Ok c = gives _ _ _ _ _ _ _ (c.make_table_on-m.ensures _ (front (goal.at.returns-in-Ok c).After-flat_length-n).stands) _ _ (sym (ap made_code c.in-Ok.is)) (c.numbers_of.ensures ∙ sym (ap made_numbers c.in-Ok.is))

pub returns-in-Err-Short : goal.returns-in-Err-Short
returns-in-Err-Short c =
    let e = c.in-Err-Short.is ∙ ap Err (rw c.in-Err-Short.is at c.in-Err-Short.field-0-is) in
    gives _ _ _ _ _ _ _ (c.make_table_on-m.ensures _ (front (goal.at.returns-in-Err-Short c).After-flat_length-n).stands) _ _ (sym (ap made_code e)) (c.numbers_of-in-Err-Short.ensures ∙ sym (ap made_numbers e))

pub returns-in-Err-Refused : goal.returns-in-Err-Refused
returns-in-Err-Refused c =
    let e = c.in-Err-Refused.is ∙ ap Err (rw c.in-Err-Refused.is at c.in-Err-Refused.field-0-is) in
    gives _ _ _ _ _ _ _ (c.make_table_on-m.ensures _ (front (goal.at.returns-in-Err-Refused c).After-flat_length-n).stands) _ _ (c.code.ensures ∙ sym (ap made_code e)) (sym (ap made_numbers e))
