-- A chain has no more anchors than partitions are walked, whatever the place of the cut (`few_anchors`).
use Rattle.std.specs.Prelude.{ℕ, ◌/◌, ◌≤◌, ◌<◌, Bool, true, false, not, List, [], ◌∷◌, eqb, length}
use Rattle.std.proofs.Common.{arith, ap}
use Rattle.std.proofs.lemmas.List.{length-map}
use Rattle.task.specs.declared.Place.{Place}
use Rattle.chain.specs.Chains.{at}
use Rattle.chain.specs.Checks.{Sound}
use Rattle.chain.specs.Hyperperiod.{hyper_of}
use Rattle.timing.specs.WarmUp.{warm_at}
use Rattle.partition.specs.Lists.{put, keep, fresh, drop_repeats}
use Rattle.partition.specs.Partitions.{end_of, keeps, anchor_of, anchors_from, anchors_of, range_of}
use Rattle.partition.specs.Selections.{range_length, select_length, keep_select}
use Rattle.partition.proofs.CutFree.{cut_free}

fresh_length : (e : ℕ → ℕ) (p : ℕ) (l : List ℕ) → length (fresh e p l) ≤ length l
unfolding fresh
fresh_length e p [] = omega arith
fresh_length e p (m ∷ l) = go (not (eqb (e m) p)) (fresh_length e (e m) l)
  where
    go : (t : Bool) → length (fresh e (e m) l) ≤ length l → length (put t m (fresh e (e m) l)) ≤ length (m ∷ l)
    go true h = omega arith
    go false h = omega arith

drop_length : (e : ℕ → ℕ) (l : List ℕ) → length (drop_repeats e l) ≤ length l
unfolding drop_repeats
drop_length e [] = omega arith
drop_length e (m ∷ l) = omega (arith, fresh_length e (e m) l)

-- The anchors of a cut are at most as many as its range of m is long.
pub anchors_walked : (l : List Place) (p h : ℕ) → length (anchors_of l p h) ≤ length (range_of l p h)
unfolding anchors_from
anchors_walked l p h =
    let n : ℕ = h / (at l p).period in
    let kept : List ℕ = keep (keeps l p) (range_of l p h) in
    let left : List ℕ = drop_repeats (end_of l p) kept in
    omega (
      arith,
      length-map left (anchor_of l p),
      drop_length (end_of l p) kept,
      ap length (keep_select (keeps l p) (warm_at l p) n),
      select_length (keeps l p) (warm_at l p) n,
      range_length (warm_at l p) n,
    )

-- Cut at p, they are at most as many as the partitions that are walked at any place q.
pub few_anchors : (l : List Place) → Sound l → (p q : ℕ) → p < length l → q < length l → length (anchors_of l p (hyper_of l)) ≤ length (range_of l q (hyper_of l))
few_anchors l ok p q h g = omega (arith, ap length (cut_free l ok p q h g), anchors_walked l q (hyper_of l))
