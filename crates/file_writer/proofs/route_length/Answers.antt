use native.Mathlib.Omega.{arith}
use mathlib.Core.Path.{◌≡◌}
use lib.ListN.{length}
use lib.Seq.{length-take-le}
use Rattle.schedule.specs.Schedules.{places_of}
use Rattle.file_writer.proofs.Lengths.{length_chain}
use Rattle.file_writer.proofs.route_length.Goals as goal

pub returns : goal.returns
returns c =
    let n : length c.args.c.places ≡ 12 = c.well_formed.0.1.1.0.1.0.1 in
    let m = length-take-le c.args.c.count c.args.c.places (omega (arith, n, c.requires)) in
    (omega (arith, length_chain (places_of c.args.c), m), omega (arith, c.requires))
