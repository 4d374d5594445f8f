use borrow.Author.Rules.{rules}
use Rattle.std.proofs.lemmas.Result.{err_from_is_err_and}
use Rattle.round_trip.proofs.Trips.{rewrite_refused, rewrite_written}
use Rattle.round_trip.proofs.rewrite.Goals as goal

pub returns-in_err-s : goal.returns-in_err-s
returns-in_err-s c =
    let p = err_from_is_err_and c.from_residual.result c.from_residual.ensures.1 in
    rw (p.1, p.2) (rewrite_refused _ _ _ c.in_err-s.ensures)

pub returns : goal.returns
returns c = rewrite_written c.args.file.now _ _ _ _ (λ i. search rules) c.in_ok-s.ensures c.write_file.ensures
