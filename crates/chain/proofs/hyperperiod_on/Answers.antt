use native.Mathlib.Omega.{arith}
use Prim.Native.Nat.{ℕ, ◌+◌}
use mathlib.Core.Path.{◌≡◌, refl, sym, ap, ◌∙◌}
use lib.ListN.{drop}
use Rattle.euclid.specs.Divisor.{lcm_of}
use Rattle.euclid.proofs.LeastMultiple.{lcm_ge}
use Rattle.task.specs.declared.Place.{Place}
use Rattle.task.specs.Jobs.{Limited}
use Rattle.chain.specs.Chains.{zero_place}
use Rattle.chain.specs.Hyperperiod.{hyper_from, hyper_of}
use Rattle.chain.specs.Flat.{tasks_in, in_count}
use Rattle.chain.specs.Multiples.{from_ge}
use Rattle.chain.proofs.Front.{rest_cons, rest_end}
use Rattle.chain.proofs.CheckLaws.{hyper_cons, hyper_nil, rest_periods}
use Rattle.chain.proofs.hyperperiod_on.Goals as goal
use Rattle.chain.proofs.hyperperiod_on.Goals.{After-task_at-a}

-- the task at the loop's place is within its limits
within : (c : After-task_at-a) → Limited c.task_at-a.result
within c = rw c.task_at-a.ensures (c.requires.each c.loop-i.i (omega (arith, c.loop-i.invariant.0)))

-- the multiple, one task further
next : (c : After-task_at-a) → hyper_of (tasks_in c.args.gap c.args.tasks.now) ≡ hyper_from (lcm_of c.loop-i.h c.task_at-a.result.period) (drop (c.loop-i.i + 1) (tasks_in c.args.gap c.args.tasks.now))
next c =
    let l = c.loop-i in
    let t = tasks_in c.args.gap c.args.tasks.now in
    l.invariant.3 ∙ ap (hyper_from l.h) (rest_cons t l.i zero_place (omega (arith, l.invariant.0))) ∙ hyper_cons _ _ _ ∙ ap (λ (x : Place). hyper_from (lcm_of l.h x.period) (drop (l.i + 1) t)) (sym c.task_at-a.ensures)

pub loop-i-init : goal.loop-i-init
loop-i-init c = (in_count c.args.gap c.args.tasks.now, omega arith, omega arith, refl)

pub returns-then-h-gt60000000 : goal.returns-then-h-gt60000000
returns-then-h-gt60000000 c =
    let a = c.before in
    let l = c.loop-i in
    let t = tasks_in c.args.gap c.args.tasks.now in
    record {
      within = λ few. absurd (omega (arith, c.if-h-gt60000000.true));
      above = λ more. omega (arith, next (goal.at.returns-then-h-gt60000000 c).After-task_at-a, c.lcm-h.ensures, from_ge (drop (l.i + 1) t) (lcm_of l.h a.task_at-a.result.period) (rest_periods _ c.requires (l.i + 1)));
    }

pub loop-i-preserved : goal.loop-i-preserved
loop-i-preserved c =
    let a = c.before in
    let l = c.loop-i in
    let t = tasks_in c.args.gap c.args.tasks.now in (
      l.invariant.0,
      omega (arith, l.invariant.1, c.lcm-h.ensures, lcm_ge l.h a.task_at-a.result.period (within (goal.at.loop-i-preserved c).After-task_at-a).period_pos),
      c.if-h-gt60000000.false,
      next (goal.at.loop-i-preserved c).After-task_at-a ∙ ap (λ (h : ℕ). hyper_from h (drop (l.i + 1) t)) (sym c.lcm-h.ensures),
    )

pub returns : goal.returns
returns c =
    let l = c.loop-i in
    record {
      within = λ few. sym (l.invariant.3 ∙ ap (hyper_from l.h) (rest_end (tasks_in c.args.gap c.args.tasks.now) l.i (omega (arith, l.invariant.0))) ∙ hyper_nil _);
      above = λ more. absurd (omega (arith, l.invariant.2));
    }
