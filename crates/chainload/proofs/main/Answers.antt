-- Every answer fits its bytes.
use Rattle.std.specs.Prelude.{◌≡◌, ℕ, List, Ok, Err, Result}
use mathlib.Core.Path.{sym, subst}
use Rattle.load_file.specs.declared.Text.{Text}
use Rattle.load_file.specs.Answers.{answer_to}
use Rattle.load_file.specs.EveryWord.{text_in, Fits, answer_fits}
use Rattle.chainload.proofs.main.Goals as goal

fits : (a : Result Text Text) (count : ℕ) (seed places : List ℕ) → a ≡ answer_to count seed places → Fits (text_in a)
fits a count seed places e = subst (λ (x : Result Text Text). Fits (text_in x)) (sym e) (answer_fits count seed places)

pub shared_ref_as_front-write_all : goal.shared_ref_as_front-write_all
shared_ref_as_front-write_all c = (fits (Ok c.in-Ok.file) _ _ _ c.in-Ok.ensures).short

pub shared_ref_as_front-write_all-in-Err : goal.shared_ref_as_front-write_all-in-Err
shared_ref_as_front-write_all-in-Err c = (fits (Err c.in-Err.line) _ _ _ c.in-Err.ensures).short
