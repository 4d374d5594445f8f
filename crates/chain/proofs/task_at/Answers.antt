use native.Mathlib.Omega.{arith}
use mathlib.Core.Path.{sym, ap, ◌∙◌}
use lib.ListN.{length-map}
use Rattle.task.specs.Jobs.{place_of}
use Rattle.chain.specs.Flat.{given_in}
use Rattle.chain.specs.Placed.{at_placed}
use Rattle.chain.proofs.task_at.Goals as goal

pub given_at-a-requires : goal.given_at-a-requires
given_at-a-requires c = let s = c.before in (omega (arith, s.requires.0, length-map (given_in s.args.tasks.now) (place_of s.args.gap)), s.requires.1)

pub returns : goal.returns
returns c =
    let s = c.before in
    ap (place_of s.args.gap) c.given_at-a.ensures ∙ sym (at_placed s.args.gap (given_in s.args.tasks.now) s.args.i (omega (arith, s.requires.0, length-map (given_in s.args.tasks.now) (place_of s.args.gap))))
