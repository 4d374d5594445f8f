use Rattle.file_reader.proofs.Records.{length_numbers}
use Rattle.file_reader.proofs.route_of.Goals as goal

pub returns : goal.returns
returns c = rw (c.chain_entries.ensures, length_numbers c.args.rest.now 4 c.args.places)
