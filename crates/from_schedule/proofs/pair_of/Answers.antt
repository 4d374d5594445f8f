use Rattle.std.proofs.lemmas.Result.{err_from_is_err_and}
use mathlib.Core.Path.{◌≡◌, ◌∙◌}
use Rattle.schedule_checks.specs.Checks.{fault_of}
use Rattle.schedule_checks.proofs.Passed.{number_passed}
use Rattle.schedule_checks.proofs.ChosenChain.{fault_answers, choice_refused, choice_made}
use Rattle.from_schedule.proofs.pair_of.Goals as goal
use Rattle.from_schedule.proofs.pair_of.Goals.{In_ok-check}

-- the schedule is sound
is_sound : (c : In_ok-check) → (fault_of c.args.s).number ≡ 0
is_sound c = number_passed _ _ c.in_ok-check.ensures

pub returns-in_err-check : goal.returns-in_err-check
returns-in_err-check c =
    let p = err_from_is_err_and c.from_residual.result c.from_residual.ensures.1 in
    rw (p.1, p.2) (fault_answers _ _ _ _ _ c.in_err-check.ensures)

pub chain_in-requires : goal.chain_in-requires
chain_in-requires c = is_sound c

pub returns-in_err-c : goal.returns-in_err-c
returns-in_err-c c =
    let p = err_from_is_err_and c.from_residual-in_err-c.result c.from_residual-in_err-c.ensures.1 in
    rw (p.1, p.2) (choice_refused _ _ _ _ _ c.in_err-c.ensures)

pub chain_in-requires-2 : goal.chain_in-requires-2
chain_in-requires-2 c = is_sound (goal.at.chain_in-requires-2 c).In_ok-check

pub returns-in_err-d : goal.returns-in_err-d
returns-in_err-d c =
    let p = err_from_is_err_and c.from_residual-in_err-d.result c.from_residual-in_err-d.ensures.1 in
    rw (p.1, p.2) (choice_refused _ _ _ _ _ c.in_err-d.ensures ∙ choice_made _ _ _ _ _ c.in_ok-c.ensures)

pub returns : goal.returns
returns c = c.pair.ensures ∙ choice_made _ _ _ _ _ c.in_ok-d.ensures ∙ choice_made _ _ _ _ _ c.in_ok-c.ensures
