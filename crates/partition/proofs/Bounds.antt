-- No number on the ways of a partition of a checked chain is large.
use Rattle.std.specs.Prelude.{None, Option, Some}
use Prim.Native.Nat.{ℕ, ◌+◌, ◌-◌, ◌≤◌, ◌<◌}
use native.Mathlib.Omega.{arith}
use mathlib.Core.Path.{◌≡◌, refl, sym, ap, ◌∙◌}
use mathlib.Core.List.{List}
use lib.ListN.{length}
use Rattle.task.specs.declared.Job.{Job}
use Rattle.task.specs.declared.Place.{Place}
use Rattle.task.specs.Jobs.{read_of, write_of, Limited}
use Rattle.task.proofs.LinkLaws.{job_small, read_mono}
use Rattle.chain.specs.Chains.{at, last_place, backward_by, job_of}
use Rattle.chain.specs.Checks.{Sound}
use Rattle.chain.specs.Ranges.{forward_fits, forward_late, backward_fits}
use Rattle.timing.specs.WarmUp.{warm_at}
use Rattle.timing.specs.WarmLaws.{start_there}
use Rattle.partition.specs.declared.Partition.{Partition}
use Rattle.partition.specs.Partitions.{start_of, end_of, IsPartition}

module _ (l : List Place) (ok : Sound l) (p : ℕ) (h : p < length l) where
  here : Limited (at l p)
  here = ok.each p h

  -- whether there is a job back there or not, its read is not far
  pub start_near : (m : ℕ) → start_of l p m ≤ read_of (at l p) m + 1000000
  unfolding start_of
  start_near m = go (backward_by l 0 p m) refl
    where
      go : (q : Option Job) → backward_by l 0 p m ≡ q → read_of (at l 0) (job_of q) ≤ read_of (at l p) m + 1000000
      go (Some j) e =
          let z : p - 0 ≡ p = omega arith in
          let f = backward_fits l ok 0 p (omega arith) h m j (rw z e) in
          omega arith
      go None e = omega (arith, (ok.each 0 ok.some).phase_max)

  start_early : (m : ℕ) → warm_at l p ≤ m → start_of l p m ≤ read_of (at l p) m
  unfolding start_of
  start_early m g =
      let f = start_there l ok p h m g in
      let z : p - 0 ≡ p = omega arith in
      rw f.is (backward_fits l ok 0 p (omega arith) h m f.job (rw z f.is))

  end_late : (m : ℕ) → write_of (at l p) (m + 1) ≤ end_of l p m
  unfolding end_of
  end_late m = forward_late l ok p (last_place l) (omega arith) (omega arith) (m + 1)

  pub end_near : (m : ℕ) → end_of l p m ≤ write_of (at l p) (m + 1) + 55011000
  unfolding end_of
  end_near m = forward_fits l ok p (last_place l) (omega arith) (omega arith) (m + 1)

  -- from the warm-up job on a partition starts before it ends
  pub start_end : (m : ℕ) → warm_at l p ≤ m → start_of l p m ≤ end_of l p m
  start_end m g = omega (arith, start_early m g, end_late m, read_mono (at l p) m (m + 1) (omega arith))

  -- no end is 0
  pub end_pos : (m : ℕ) → end_of l p m ≡ 0 → ⊥
  end_pos m e = omega (arith, end_late m, here.duration_pos)

  -- a job number is at most its write
  pub job_fits : (m : ℕ) → m ≤ write_of (at l p) m
  job_fits m = omega (arith, job_small (at l p) here.period_pos m)

-- a partition is that of its own job
pub own : (l : List Place) (p m : ℕ) (x : Partition) → IsPartition l p m x → IsPartition l p x.job.0 x
own l p m x i = record { of = refl; starts = i.starts ∙ ap (start_of l p) (sym i.of); ends = i.ends ∙ ap (end_of l p) (sym i.of) }
