use mathlib.Core.Path.{◌≡◌, sym, ap, ◌∙◌}
use lib.ListN.{length}
use Rattle.std.specs.Prelude.{ℕ, ◌/◌}
use Rattle.chain.specs.Checks.{verdict_in}
use Rattle.chain.specs.Flat.{given_in, tasks_in, in_count}
use Rattle.sections.specs.Sections.{after_cuts}
use Rattle.sections.proofs.Exits.{accepted_cuts}
use Rattle.sections.proofs.section_latencies_on.Goals as goal
use Rattle.sections.proofs.section_latencies_on.Goals.{After-judge}

-- what the checks say
said : (c : After-judge)
    → after_cuts (length c.args.tasks.now / 3) c.args.cuts.now c.check_on.result ≡ after_cuts (length (tasks_in c.args.gap c.args.tasks.now)) c.args.cuts.now (verdict_in c.args.gap (given_in c.args.tasks.now))
said c =
    let s = c.before in
    ap (λ (n : ℕ). after_cuts n s.args.cuts.now c.check_on.result) (in_count s.args.gap s.args.tasks.now)
    ∙ ap (after_cuts (length (tasks_in s.args.gap s.args.tasks.now)) s.args.cuts.now) c.check_on.ensures

pub measure-requires : goal.measure-requires
measure-requires c =
    let a = c.args in
    accepted_cuts a.gap (given_in a.tasks.now) a.cuts.now _ (sym (c.in_ok-judge.ensures ∙ said (goal.at.measure-requires c).After-judge))
