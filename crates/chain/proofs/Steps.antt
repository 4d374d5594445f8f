-- One step of each way, with the places as the loops count them.
use Rattle.std.specs.Prelude.{None, Some}
use Prim.Native.Nat.{ℕ, suc, ◌+◌, ◌-◌, ◌≤◌, ◌<◌}
use native.Mathlib.Omega.{arith}
use mathlib.Core.Path.{◌≡◌, ap, ◌∙◌}
use mathlib.Core.List.{List}
use lib.ListN.{length}
use Rattle.task.specs.declared.Place.{Place}
use Rattle.task.specs.declared.Job.{Job}
use Rattle.task.specs.Links.{forward_link, backward_link}
use Rattle.task.specs.Jobs.{read_of, write_of, readable_of}
use Rattle.task.proofs.LinkLaws.{backward_earlier}
use Rattle.chain.specs.Chains.{at, forward_by, backward_by, on_latest}
use Rattle.chain.specs.Checks.{Sound}
use Rattle.chain.specs.Ranges.{forward_fits}

pub forward_none : (l : List Place) (p j : ℕ) → j ≡ forward_by l p (p - p) j
unfolding forward_by
forward_none l p j = let a : p - p ≡ 0 = omega arith in rw a

pub backward_none : (l : List Place) (p m : ℕ) → Some (record { 0 = m }) ≡ backward_by l p (p - p) m
unfolding backward_by
backward_none l p m = let a : p - p ≡ 0 = omega arith in rw a

-- the task at a place is a value of the code
module _ (l : List Place) (p : ℕ) where
  -- k is the job at place i, a its task
  module _ (i j k : ℕ) (a : Place) (h : p ≤ i) (here : a ≡ at l i) (way : k ≡ forward_by l p (i - p) j) where
    pub forward_small : Sound l → i < length l → write_of (at l p) j ≤ 1500000000000 → readable_of a k ≤ 2000000000000
    forward_small ok g top = omega (arith, ap (λ (x : Place). readable_of x k) here, ap (readable_of (at l i)) way, forward_fits l ok p i h g j, (ok.each i g).gap_max)

    pub forward_step : (b : Place) → b ≡ at l (i + 1) → forward_link a b k ≡ forward_by l p (i + 1 - p) j
    unfolding forward_by
    forward_step b next =
        let n : i + 1 - p ≡ suc (i - p) = omega arith in
        let c : p + suc (i - p) ≡ i + 1 = omega arith in
        let d : p + (i - p) ≡ i = omega arith in
        ap (λ (x : Place). forward_link x b k) here ∙ ap (λ (x : Place). forward_link (at l i) x k) next ∙ ap (forward_link (at l i) (at l (i + 1))) way ∙ rw (n, c, d)

  -- m is the job at place i, b its task and a that of the place before
  module _ (i m : ℕ) (a b : Place) (h : p < i) (before : a ≡ at l (i - 1)) (here : b ≡ at l i) where
    backward_unfold : backward_by l p (i - p) m ≡ on_latest (backward_link a b m) (backward_by l p (i - 1 - p))
    unfolding backward_by
    backward_unfold =
        let n : i - p ≡ suc (i - 1 - p) = omega arith in
        let c : p + suc (i - 1 - p) ≡ i = omega arith in
        let d : p + (i - 1 - p) ≡ i - 1 = omega arith in
        rw (n, c, d, before, here)

    pub backward_step : (j : Job) → backward_link a b m ≡ Some j → backward_by l p (i - p) m ≡ backward_by l p (i - 1 - p) j.0
    unfolding on_latest
    backward_step j e = backward_unfold ∙ rw e

    pub backward_stop : backward_link a b m ≡ None → backward_by l p (i - p) m ≡ None
    unfolding on_latest
    backward_stop e = backward_unfold ∙ rw e

    pub backward_small : 1 ≤ a.period → read_of b m ≤ 1500000000000 → (j : Job) → backward_link a b m ≡ Some j → read_of a j.0 ≤ 1500000000000
    backward_small pos top j e = omega (arith, backward_earlier a b pos m j e)
