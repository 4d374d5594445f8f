use Rattle.std.proofs.lemmas.Result.{err_from_is_err_and}
use mathlib.Core.Path.{sym, ap, ◌∙◌}
use Rattle.chain.specs.Flat.{given_in}
use Rattle.phase.specs.InList.{after_verdict}
use Rattle.phase.proofs.AllPhases.{accepted_list}
use Rattle.phase.proofs.phase_on.Goals as goal

pub judged-requires : goal.judged-requires
judged-requires c = let s = c.before in let k = accepted_list s.args.gap s.args.places.now (given_in s.args.tasks.now) _ s.requires (sym c.in_ok-h.ensures) in (k.0, s.requires, k.1)

pub returns-in_err-h : goal.returns-in_err-h
unfolding after_verdict
returns-in_err-h c =
    let p = err_from_is_err_and c.from_residual.result c.from_residual.ensures.1 in
    rw (p.1, p.2) (let s = c.before in ap (after_verdict s.args.gap s.args.places.now (given_in s.args.tasks.now) s.args.number s.args.bound) (c.in_err-h.ensures))

pub returns : goal.returns
unfolding after_verdict
returns c = let s = c.before in c.judged.ensures ∙ ap (after_verdict s.args.gap s.args.places.now (given_in s.args.tasks.now) s.args.number s.args.bound) (c.in_ok-h.ensures)
