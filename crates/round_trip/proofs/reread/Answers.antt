use Rattle.std.proofs.lemmas.Result.{err_from_is_err_and}
use Rattle.schedule.proofs.ArrayLaws.{arrays}
use Rattle.round_trip.proofs.Trips.{file_inside, file_part, reread_read, reread_refused}
use Rattle.round_trip.proofs.reread.Goals as goal

pub returns-in_err-n : goal.returns-in_err-n
returns-in_err-n c =
    let p = err_from_is_err_and c.from_residual.result c.from_residual.ensures.1 in
    rw (p.1, p.2) (reread_refused _ _ _ _ c.in_err-n.ensures)

pub slice_bounds-read_file-end : goal.slice_bounds-read_file-end
slice_bounds-read_file-end c = file_inside _ _ _ c.in_ok-n.n c.in_ok-n.ensures

pub slice_bounds-read_file-end-2 : goal.slice_bounds-read_file-end-2
slice_bounds-read_file-end-2 c = file_part _ _ _ c.in_ok-n.n c.in_ok-n.ensures

pub returns : goal.returns
returns c = reread_read _ _ _ c.in_ok-n.n c.in_ok-n.ensures _ (arrays c.args.s _ c.well_formed.0) c.read_file.ensures
