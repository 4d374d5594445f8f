use native.Mathlib.Omega.{arith}
use Prim.Native.Nat.{◌*◌}
use mathlib.Core.Path.{◌≡◌, refl, sym, ap, ◌∙◌, subst}
use mathlib.Core.List.{List}
use lib.ListN.{length, take}
use lib.Seq.{length-take-le}
use Rattle.task.specs.declared.Task.{Task}
use Rattle.chain.specs.Chains.{given_of}
use Rattle.chain.specs.Flat.{task_fields, given_in, length_flat, flat_front}
use Rattle.phase.specs.InList.{Filled, phase_in}
use Rattle.phase.proofs.phase_in.Goals as goal
use Rattle.phase.proofs.phase_in.Goals.{After-flat-tasks, Start}

-- the chain has room for twelve tasks
twelve : (c : Start) → length c.args.c.tasks ≡ 12
twelve c = c.well_formed.0.1.1.0.1.0.1

-- the lent front holds the tasks at its places
front : (c : After-flat-tasks) → given_in (take (3 * c.args.c.places) c.flat-tasks.result) ≡ given_of c.args.c
front c = ap (λ (l : List _). given_in (take (3 * c.args.c.places) l)) c.flat-tasks.ensures ∙ flat_front c.args.c

pub slice_bounds-phase_on-end : goal.slice_bounds-phase_on-end
slice_bounds-phase_on-end c =
    let s = c.before in
    let n : length c.flat-tasks.result ≡ 3 * length s.args.c.tasks = ap length c.flat-tasks.ensures ∙ length_flat task_fields 3 (λ x. refl) s.args.c.tasks in
    sym (length-take-le (3 * s.args.c.places) c.flat-tasks.result (omega (arith, n, s.requires.0, twelve (goal.at.slice_bounds-phase_on-end c).Start)))

pub slice_bounds-phase_on-end-2 : goal.slice_bounds-phase_on-end-2
slice_bounds-phase_on-end-2 c =
    let s = c.before in
    sym (length-take-le s.args.c.places s.args.places (omega (arith, s.requires.0, s.well_formed.1.0.1.0.1)))

pub phase_on-requires : goal.phase_on-requires
phase_on-requires c =
    let s = c.before in
    subst (Filled (take s.args.c.places s.args.places)) (sym (front (goal.at.phase_on-requires c).After-flat-tasks)) s.requires.1

pub returns : goal.returns
returns c =
    let s = c.before in
    c.phase_on.ensures ∙ ap (λ (l : List Task). phase_in s.args.c.gap (take s.args.c.places s.args.places) l s.args.number s.args.bound) (front (goal.at.returns c).After-flat-tasks)
