use native.Mathlib.Omega.{arith}
use Prim.Native.Nat.{ℕ, ◌-◌, ◌≤◌}
use mathlib.Core.Path.{◌≡◌, refl, sym, ap, ◌∙◌}
use mathlib.Core.List.{List, map}
use Rattle.schedule.specs.declared.NumberedTask.{NumberedTask}
use lib.ListN.{length, take, set, get_or, length-map, length-set}
use lib.Seq.{take_all}
use Rattle.schedule.specs.Schedules.{number_of, padded, zero_numbered}
use Rattle.schedule.specs.Padding.{padded_none, padded_whole, store_more}
use Rattle.schedule.proofs.numbers_of.Goals as goal

pub loop-i-init : goal.loop-i-init
loop-i-init c = (omega arith, refl, sym (padded_none 0 32))

pub loop-i-preserved : goal.loop-i-preserved
loop-i-preserved c =
    let l = c.loop-i in
    let s = c.before in (
      omega arith,
      simp length-set l.invariant.1,
      ap (λ (x : List ℕ). set x l.i (get_or s.args.tasks l.i zero_numbered).number) l.invariant.2 ∙ store_more number_of zero_numbered 0 32 s.args.tasks l.i (omega (arith, s.well_formed.0.1.0.1)) (omega arith),
    )

pub returns : goal.returns
returns c =
    let l = c.loop-i in
    let ts = c.args.tasks in
    let n : length ts ≡ 32 = c.well_formed.0.1.0.1 in
    let e : take l.i ts ≡ ts = take_all l.i ts (omega arith) in
    l.invariant.2 ∙ ap (λ (x : List NumberedTask). padded 32 0 (map number_of x)) e ∙ padded_whole 0 32 (map number_of ts) (simp length-map (omega arith))
