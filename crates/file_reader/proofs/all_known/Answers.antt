use Rattle.std.proofs.Common.{ℕ, ◌≡◌, ◌-◌, ◌∙◌, sym, ap, arith}
use Rattle.std.specs.Prelude.{Option, is_some}
use Rattle.file_reader.proofs.Fields.{all_on, all_off, all_end}
use Rattle.file_reader.proofs.all_known.Goals as goal

pub loop-i-init : goal.loop-i-init
loop-i-init c = let e : c.args.places - 0 ≡ c.args.places = omega arith in rw e

pub loop-i-preserved : goal.loop-i-preserved
loop-i-preserved c =
    let read = c.number_at-n.ensures.0 in
    let there = ap (λ (o : Option ℕ). is_some o) (sym c.find.ensures) ∙ c.if-is_none.ensures in
    c.loop-i.invariant ∙ all_on c.args.numbers.now c.args.rest.now 4 c.args.places c.loop-i.i (omega arith) (rw read at there)

pub returns-then-is_none : goal.returns-then-is_none
returns-then-is_none c =
    let read = c.number_at-n.ensures.0 in
    let lost = ap (λ (o : Option ℕ). is_some o) (sym c.find.ensures) ∙ c.if-is_none.ensures in
    sym (c.loop-i.invariant ∙ all_off c.args.numbers.now c.args.rest.now 4 c.args.places c.loop-i.i (omega arith) (rw read at lost))

pub returns : goal.returns
returns c = sym (c.loop-i.invariant ∙ all_end _ c.args.rest.now _ c.args.places c.loop-i.i c.loop-i-test.false)
