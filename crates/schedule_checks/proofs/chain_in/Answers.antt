use native.Mathlib.Omega.{arith}
use Prim.Native.Nat.{◌≤◌}
use mathlib.Core.Path.{sym, ◌∙◌}
use Rattle.schedule_checks.proofs.SoundSchedule.{sound, count_right_holds}
use Rattle.schedule_checks.proofs.chain_in.Goals as goal
use Rattle.schedule_checks.proofs.chain_in.Goals.{Else-not-count_right}

-- the number is one of the schedule's, which has at most four chains
inside : (c : Else-not-count_right) → (1 ≤ c.args.n) × (c.args.n ≤ c.args.s.chains) × (c.args.s.chains ≤ 4)
inside c =
    let k = count_right_holds _ _ (sym c.count_right.ensures ∙ c.if-not-count_right.false) in
    (k.0, k.1, (sound c.args.s c.requires).few_chains)

pub offset_bounds-s-n : goal.offset_bounds-s-n
offset_bounds-s-n c = omega (arith, (inside c).1, (inside c).2)

pub bounds-s-n : goal.bounds-s-n
bounds-s-n c = omega (arith, (inside c).0, (inside c).1, (inside c).2)
