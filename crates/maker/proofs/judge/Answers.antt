use Rattle.std.proofs.lemmas.Result.{err_from_is_err_and}
use Rattle.maker.proofs.Exits.{judge_place, judge_lists, judge_well}
use Rattle.maker.proofs.judge.Goals as goal

pub returns-in_err-h : goal.returns-in_err-h
returns-in_err-h c =
    let p = err_from_is_err_and c.from_residual.result c.from_residual.ensures.1 in
    rw (p.1, p.2, c.in_err-h.was)

pub returns-then-p-lt1 : goal.returns-then-p-lt1
returns-then-p-lt1 c = rw c.in_ok-h.was (judge_place _ _ _ _ _ c.then-p-lt1.either)

pub returns-then-a-b : goal.returns-then-a-b
returns-then-a-b c = rw c.in_ok-h.was (judge_lists _ _ _ _ _ c.if-p-lt1.false c.if-places-p.false c.if-a-b.true)

pub returns : goal.returns
returns c = rw c.in_ok-h.was (judge_well _ _ _ _ _ c.if-p-lt1.false c.if-places-p.false c.if-a-b.false)
