use Rattle.std.specs.Prelude.{Err}
use Rattle.std.proofs.Common.{ap, ◌∙◌}
use Rattle.load_file.specs.declared.Text.{Text}
use Rattle.load_file.proofs.Answering.{refused_places, few_places, not_refused, file_given}
use Rattle.load_file.proofs.file_answer.Goals as goal

pub returns-in_default : goal.returns-in_default
returns-in_default c = ap (λ (t : Text). Err t) c.text_of.ensures ∙ refused_places _ _ _ c.in_default.ensures

pub schedule_of-requires : goal.schedule_of-requires
schedule_of-requires c = few_places _ _ _ c.in-Ok.ensures

pub returns-in-Ok-write_file : goal.returns-in-Ok-write_file
returns-in-Ok-write_file c =
    let w = c.write_file in
    let s = c.schedule_of in
    file_given _ _ _ c.in-Ok.ensures s.result s.ensures w.result w.new.out w.ensures _ c.in-Ok-write_file.is

pub returns-in-Err : goal.returns-in-Err
returns-in-Err c =
    let w = c.write_file in
    let s = c.schedule_of in
    absurd (not_refused _ _ _ c.in-Ok.ensures s.result s.ensures w.result w.new.out w.ensures _ c.in-Err.is)
