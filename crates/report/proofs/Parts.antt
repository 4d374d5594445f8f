-- The parts of a schedule's text, one after the other.
use Prim.Native.Nat.{ℕ, suc, ◌+◌, ◌-◌, ◌≤◌, ◌<◌}
use native.Mathlib.Omega.{arith}
use mathlib.Core.Path.{◌≡◌, refl, sym, ap, ◌∙◌}
use mathlib.Core.List.{List, [], ◌++◌}
use lib.ListN.{length, get_or, length-append}
use lib.Seq.{sets}
use Rattle.little_endian.specs.Stores.{sets_append}
use Rattle.chain.specs.declared.Chain.{Chain}
use Rattle.schedule.specs.declared.Schedule.{Schedule}
use Rattle.schedule.specs.Schedules.{tasks_in, no_route, chain_of, chain_at}
use Rattle.schedule.specs.ChainTasks.{route_there}
use Rattle.text.specs.Text.{Puts}
use Rattle.report.specs.Report.{part_text, parts_text, schedule_text}

-- the parts after those of the first i chains
abbrev pub left : Schedule → ℕ → List ℕ
left s i = parts_text 1024 s (suc i) (s.chains - i)

-- What is stored so far, at the loop's i: whoever stores the rest from `at` on has stored the whole.
pub record Far (s : Schedule) (old new : List ℕ) (at i : ℕ) : Type 0 where
  pub stored : sets old 0 (schedule_text 1024 s) ≡ sets new at (left s i)
  pub long : length (schedule_text 1024 s) ≡ at + length (left s i)

pub far_start : (s : Schedule) (old : List ℕ) → Far s old old 0 0
unfolding schedule_text
far_start s old = let e : s.chains - 0 ≡ s.chains = omega arith in record { stored = rw e refl; long = rw e (omega arith) }

module _ (s : Schedule) where
  left_cons : (i : ℕ) → i < s.chains → left s i ≡ part_text 1024 (suc i) (chain_at s (suc i)) ++ left s (suc i)
  unfolding parts_text
  left_cons i h = let e : s.chains - i ≡ suc (s.chains - suc i) = omega arith in rw e

  -- the chain that the loop takes from the array
  chain_there : (i : ℕ) → i < s.chains → chain_of s.gap (tasks_in s) (get_or s.routes i no_route) ≡ chain_at s (suc i)
  chain_there i h =
      let e : suc i - 1 ≡ i = omega arith in
      ap (λ (k : ℕ). chain_of s.gap (tasks_in s) (get_or s.routes k no_route)) (sym e) ∙ ap (chain_of s.gap (tasks_in s)) (sym (route_there s (suc i) (omega arith) h))

  pub far_more : (old m new : List ℕ) (at to i : ℕ) (c : Chain) → i < s.chains → Far s old m at i → c ≡ chain_of s.gap (tasks_in s) (get_or s.routes i no_route)
      → Puts (part_text 1024 (i + 1) c) at m new to → Far s old new to (i + 1)
  far_more old m new at to i c h f e p =
      let n : i + 1 ≡ suc i = omega arith in
      let part = part_text 1024 (suc i) (chain_at s (suc i)) in
      let is : part_text 1024 (i + 1) c ≡ part = ap (λ (k : ℕ). part_text 1024 k c) n ∙ ap (part_text 1024 (suc i)) (e ∙ chain_there i h) in
      let q : Puts part at m new to = rw is at p in
      let l = ap length (left_cons i h) ∙ length-append part (left s (suc i)) in
      rw n (record {
        stored = f.stored ∙ ap (sets m at) (left_cons i h) ∙ sets_append m at part (left s (suc i)) ∙ ap (λ (x : List ℕ). sets x (at + length part) (left s (suc i))) (sym q.leaves)
            ∙ ap (λ (k : ℕ). sets new k (left s (suc i))) (sym q.ends);
        long = omega (arith, f.long, l, q.ends);
      })

  pub far_end : (old new : List ℕ) (at i : ℕ) → s.chains ≤ i → Far s old new at i → Puts (schedule_text 1024 s) 0 old new at
  unfolding parts_text
  far_end old new at i h f =
      let z : s.chains - i ≡ 0 = omega arith in
      let e : left s i ≡ [] = rw z refl in
      record { ends = omega (arith, f.long, ap length e); leaves = sym (f.stored ∙ ap (sets new at) e) }
