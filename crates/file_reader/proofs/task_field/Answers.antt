use Rattle.file_reader.proofs.Fields.{task_fields_holds}
use Rattle.file_reader.proofs.task_field.Goals as goal

pub returns : goal.returns
returns c =
    task_fields_holds c.args.rest.now c.number_at-4.ensures.0 c.number_at.ensures.0 c.number_at-2.ensures.0 c.number_at-3.ensures.0
