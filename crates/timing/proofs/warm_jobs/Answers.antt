use native.Mathlib.Omega.{arith}
use Prim.Native.Nat.{◌+◌, ◌-◌, ◌/◌}
use mathlib.Core.Path.{◌≡◌, refl, ap, ◌∙◌}
use lib.ListN.{length, replicate}
use Rattle.chain.specs.Chains.{job_of}
use Rattle.chain.specs.Flat.{tasks_in, in_count, in_last}
use Rattle.timing.specs.WarmUp.{warm_at}
use Rattle.timing.proofs.Whole.{last_inside, warm_last_at, warm_back}
use Rattle.timing.proofs.Entries.{no_job, from_store, from_zeros, zeros_at}
use Rattle.timing.proofs.warm_jobs.Goals as goal

pub loop-i-init : goal.loop-i-init
loop-i-init c =
    let s = c.before in
    let l = tasks_in s.args.gap s.args.tasks.now in
    let n = length s.args.tasks.now / 3 - 1 in
    let e = warm_last_at l s.requires n (in_last s.args.gap s.args.tasks.now) _ c.warm_last-k.ensures in (
      last_inside _ _ s.requires,
      e,
      c.task_at-b.ensures,
      from_store l s.requires.few n (replicate 12 no_job) _ (last_inside _ _ s.requires)
          (from_zeros l s.requires.few (n + 1) (replicate 12 no_job) (omega (arith, in_count s.args.gap s.args.tasks.now)) refl (λ x h. zeros_at 12 x)) e,
    )

pub loop-i-preserved : goal.loop-i-preserved
loop-i-preserved c =
    let s = c.before in
    let l = c.loop-i in
    let t = tasks_in s.args.gap s.args.tasks.now in
    let g = c.loop-i-test.true in
    let e : c.job_of-k.result.0 ≡ warm_at t (l.i - 1)
    = c.job_of-k.ensures ∙ ap job_of c.backward_to.ensures ∙ warm_back t s.requires l.i l.k.0 l.b l.invariant.0 l.invariant.2 l.invariant.1 g _ c.task_at-a.ensures in
    let i : l.i - 1 + 1 ≡ l.i = omega arith in
    (omega (arith, l.invariant.0), e, c.task_at-a.ensures, from_store t s.requires.few (l.i - 1) l.jobs _ (omega (arith, l.invariant.0)) (rw i l.invariant.3) e)
