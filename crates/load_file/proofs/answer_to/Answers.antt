use Rattle.std.specs.Prelude.{Err}
use Rattle.std.proofs.Common.{ap, ◌∙◌}
use Rattle.load_file.specs.declared.Text.{Text}
use Rattle.load_file.proofs.Answering.{wrong_count, wrong_seed, right_seed}
use Rattle.load_file.proofs.answer_to.Goals as goal

pub returns-then-count-ne3 : goal.returns-then-count-ne3
returns-then-count-ne3 c = ap (λ (t : Text). Err t) c.text_of.ensures ∙ wrong_count _ _ _ c.if-count-ne3.true

pub returns-in_default : goal.returns-in_default
returns-in_default c = ap (λ (t : Text). Err t) c.text_of-in_default.ensures ∙ wrong_seed _ _ _ c.if-count-ne3.false c.number_of.result c.number_of.ensures c.in_default.is

pub returns : goal.returns
returns c = c.places_answer.ensures ∙ right_seed _ _ _ c.if-count-ne3.false c.number_of.result c.number_of.ensures _ c.in-Some.is
