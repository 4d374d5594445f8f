-- The greatest latency in one walk, wherever the chain is cut and with no list (`any_cut`): the largest end less start of all partitions of the range, also of those that are not kept.
use Prim.Native.Nat.{ℕ, zero, suc, ◌+◌, ◌-◌, ◌/◌, ◌≤◌, ◌<◌, max}
use native.Mathlib.Omega.{arith}
use Rattle.std.proofs.Common.{add-one, zero-add}
use Rattle.std.proofs.Math.Decide.{dec_lt}
use Rattle.std.specs.Prelude.{◌≡◌, Bool, true, false, not, eqb, length, Some}
use Rattle.std.proofs.Math.Path.{ap}
use mathlib.Core.List.{List, map}
use Rattle.task.specs.declared.Place.{Place}
use Rattle.task.specs.Jobs.{read_of}
use Rattle.task.proofs.LinkLaws.{AtLeast, read_mono}
use Rattle.chain.specs.Chains.{at, last_place, forward_by, backward_by, walk}
use Rattle.chain.specs.Checks.{Sound}
use Rattle.chain.specs.Hyperperiod.{hyper_of}
use Rattle.chain.specs.Galois.{Periods, galois}
use Rattle.chain.specs.GaloisPair.{forward_mono, backward_mono}
use Rattle.ranges.specs.Largest.{largest}
use Rattle.timing.specs.WarmUp.{warm_at}
use Rattle.timing.specs.WarmLaws.{Found, periods, start_there}
use Rattle.table.specs.Figures.{greatest}
use Rattle.partition.specs.Lists.{range_from, put, keep, fresh, drop_repeats}
use Rattle.partition.specs.Partitions.{start_of, end_of, keeps, anchor_of, anchors_from}
use Rattle.partition.proofs.CutFree.{end_walk, walk_parts, cut_free, warm_way}
use Rattle.agreement.specs.Jobs.{delay_read, read_warm}
use Rattle.latency.specs.Latency.{greatest_latency, latency_of}
use Rattle.latency.specs.GreatestDelay.{greatest_latency_is}

-- ---- the anchors are some of the partitions

module _ (l : List Place) (p : ℕ) where
  -- the greatest latency of some partitions
  abbrev most : List ℕ → ℕ
  most ms = greatest (map (anchor_of l p) ms)

  fresh_below : (n m before : ℕ) → most (fresh (end_of l p) before (keep (keeps l p) (range_from m n))) ≤ largest (latency_of l p) m n
  unfolding range_from keep fresh greatest largest
  fresh_below zero m before = omega arith
  fresh_below (suc n) m before = rw (add-one m) (go (keeps l p m) (fresh_below n (suc m)))
    where
      rest : List ℕ
      rest = keep (keeps l p) (range_from (suc m) n)

      new : (t : Bool) → ((b : ℕ) → most (fresh (end_of l p) b rest) ≤ largest (latency_of l p) (suc m) n)
          → most (put t m (fresh (end_of l p) (end_of l p m) rest)) ≤ max (latency_of l p m) (largest (latency_of l p) (suc m) n)
      new true ih = omega (arith, ih (end_of l p m))
      new false ih = omega (arith, ih (end_of l p m))

      go : (t : Bool) → ((b : ℕ) → most (fresh (end_of l p) b rest) ≤ largest (latency_of l p) (suc m) n)
          → most (fresh (end_of l p) before (put t m rest)) ≤ max (latency_of l p m) (largest (latency_of l p) (suc m) n)
      go true ih = new (not (eqb (end_of l p m) before)) ih
      go false ih = omega (arith, ih before)

  anchors_below : (n m : ℕ) → most (drop_repeats (end_of l p) (keep (keeps l p) (range_from m n))) ≤ largest (latency_of l p) m n
  unfolding range_from keep fresh drop_repeats greatest largest
  anchors_below zero m = omega arith
  anchors_below (suc n) m = rw (add-one m) (go (keeps l p m) (anchors_below n (suc m)))
    where
      rest : List ℕ
      rest = keep (keeps l p) (range_from (suc m) n)

      go : (t : Bool) → most (drop_repeats (end_of l p) rest) ≤ largest (latency_of l p) (suc m) n
          → most (drop_repeats (end_of l p) (put t m rest)) ≤ max (latency_of l p m) (largest (latency_of l p) (suc m) n)
      go true ih = omega (arith, fresh_below n (suc m) (end_of l p m))
      go false ih = omega arith

-- ---- no partition has more than the delay at its start

module _ (l : List Place) (ok : Sound l) (p : ℕ) (h : p < length l) where
  head : Periods l (0 + p)
  head = rw (zero-add p) (periods l ok p h)

  tail : Periods l (p + (last_place l - p))
  tail = let e : p + (last_place l - p) ≡ last_place l = omega arith in rw e (periods l ok (last_place l) (omega arith))

  module _ (m : ℕ) (from : warm_at l p ≤ m) where
    there : Found (backward_by l 0 p m)
    there = start_there l ok p h m from

    abbrev j : ℕ
    j = there.job.0

    start_is : start_of l p m ≡ read_of (at l 0) j
    unfolding start_of
    start_is = rw there.is

    -- the start is a read of a job from the warm-up job on
    warm : warm_at l 0 ≤ j
    warm =
        let a : AtLeast (backward_by l 0 p (warm_at l p)) (warm_at l 0) = rw (warm_way l ok p h) (omega arith) in
        let b : AtLeast (Some there.job) (warm_at l 0) = rw there.is at (backward_mono l 0 p head (warm_at l p) m (warm_at l 0) from a) in
        b

    -- the next job of the first place comes past m
    past : m < forward_by l 0 p (suc j)
    past = elim (dec_lt m (forward_by l 0 p (suc j))) [
      | yes g ↦ g
      | no g ↦ let a : AtLeast (Some there.job) (suc j) = rw there.is at ((galois l 0 p head (suc j) m).0 (omega arith)) in absurd (omega arith)
    ]

    end_early : end_of l p m ≤ end_walk l (suc j)
    unfolding end_of
    end_early =
        let a = forward_mono l p (last_place l - p) tail (m + 1) (forward_by l 0 p (suc j)) (omega (arith, past)) in
        omega (arith, read_mono (at l (last_place l)) (forward_by l p (last_place l - p) (m + 1)) (walk l (suc j)) (omega (arith, walk_parts l ok p h (suc j))))

    pub partition_below : end_of l p m - start_of l p m ≤ greatest_latency l
    partition_below =
        omega (
          arith,
          start_is,
          end_early,
          delay_read l ok j,
          (greatest_latency_is l ok).bound (read_of (at l 0) j) (read_warm l ok j warm),
        )

  largest_below : (n m : ℕ) → warm_at l p ≤ m → largest (latency_of l p) m n ≤ greatest_latency l
  unfolding largest
  largest_below zero m g = omega arith
  largest_below (suc n) m g = omega (arith, partition_below m g, largest_below n (suc m) (omega arith))

  largest_above : greatest_latency l ≤ largest (latency_of l p) (warm_at l p) (hyper_of l / (at l p).period)
  unfolding greatest_latency anchors_from
  largest_above = omega (arith, ap greatest (cut_free l ok 0 p ok.some h), anchors_below l p (hyper_of l / (at l p).period) (warm_at l p))

  -- Wherever the chain is cut, the largest of the range's partitions is the greatest latency.
  pub any_cut : largest (latency_of l p) (warm_at l p) (hyper_of l / (at l p).period) ≡ greatest_latency l
  any_cut = omega (arith, largest_below (hyper_of l / (at l p).period) (warm_at l p) (omega arith), largest_above)
