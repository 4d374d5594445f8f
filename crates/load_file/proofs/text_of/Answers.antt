use Rattle.load_file.proofs.Answering.{front_padded}
use Rattle.load_file.proofs.text_of.Goals as goal

pub returns : goal.returns
returns c = rw (c.copy_from_slice.ensures.after, front_padded 0 256 c.args.line.now c.requires)
