use Rattle.std.specs.Prelude.{Err}
use Rattle.std.proofs.Common.{ap, ◌∙◌}
use Rattle.load_file.specs.declared.Text.{Text}
use Rattle.load_file.proofs.Answering.{wrong_places, right_places}
use Rattle.load_file.proofs.places_answer.Goals as goal

pub returns-in_default : goal.returns-in_default
returns-in_default c = ap (λ (t : Text). Err t) c.text_of.ensures ∙ wrong_places _ _ c.number_of.result c.number_of.ensures c.in_default.is

pub returns : goal.returns
returns c = c.file_answer.ensures ∙ right_places _ _ c.number_of.result c.number_of.ensures _ c.in-Some.is
