use Rattle.std.proofs.Common.{ℕ, ◌∙◌, refl, sym, ap, arith, List, set, length-set}
use Rattle.schedule.specs.Schedules.{padded}
use Rattle.file_reader.specs.Reading.{chain_field}
use Rattle.file_reader.proofs.Fields.{entries_none, entries_more}
use Rattle.file_reader.proofs.chain_entries.Goals as goal

pub loop-i-init : goal.loop-i-init
loop-i-init c = (refl, sym (entries_none _))

pub loop-i-preserved : goal.loop-i-preserved
loop-i-preserved c =
    let l = c.loop-i in
    let read = c.number_at.ensures.0 in (
      simp length-set l.invariant.0,
      ap (λ (x : List ℕ). set x l.i c.number_at.result) l.invariant.1 ∙ ap (set (padded 12 0 (chain_field c.args.rest.now l.i)) l.i) read ∙ entries_more c.args.rest.now l.i (omega arith),
    )
