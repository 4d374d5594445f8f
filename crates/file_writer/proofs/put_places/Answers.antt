use Rattle.std.proofs.Common.{◌+◌, ◌*◌, ◌∙◌, sym, get_or}
use Rattle.little_endian.specs.LittleEndian.{bytes_of}
use Rattle.file_writer.proofs.Stores.{run_long, places_turn, places_end}
use Rattle.file_writer.proofs.put_places.Goals as goal

pub loop-i-preserved : goal.loop-i-preserved
loop-i-preserved c =
    let l = c.loop-i in
    let at = c.args.at in
    let ch = c.args.chain.now in
    let put = c.put_number.ensures in
    (run_long l.out _ (at + 2 * l.i) _ (bytes_of 2 (get_or ch l.i 0)) put l.invariant.0, l.invariant.1 ∙ places_turn l.out _ ch at l.i c.loop-i-test.true put)

pub returns : goal.returns
returns c =
    let l = c.loop-i in
    sym (l.invariant.1 ∙ places_end l.out c.args.chain.now (c.args.at + 2 * l.i) l.i c.loop-i-test.false)
