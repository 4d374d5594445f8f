-- A chain's anchors are those of a well-formed table.
use Prim.Native.Nat.{ℕ, zero, suc, ◌+◌, ◌-◌, ◌/◌, ◌≤◌, ◌<◌}
use Rattle.std.proofs.Common.{mul-le-mul_right, ◌∙◌}
use native.Mathlib.Omega.{arith}
use Rattle.std.specs.Prelude.{◌≡◌, Bool}
use Rattle.std.proofs.Math.Path.{refl, sym, subst}
use Rattle.std.proofs.Math.Bool.{true, false}
use mathlib.Core.List.{List, ◌∷◌, map}
use Rattle.task.specs.declared.Place.{Place}
use Rattle.task.specs.Jobs.{read_of}
use Rattle.chain.specs.Chains.{at}
use Rattle.chain.specs.Checks.{Sound}
use Rattle.chain.specs.Hyperperiod.{hyper_of}
use Rattle.chain.specs.Multiples.{hyper_pos}
use Rattle.timing.specs.WarmUp.{warm_at}
use Rattle.table.specs.WellFormed.{latency_limit}
use Rattle.table.specs.Segments.{Spaced, Formed}
use Rattle.partition.specs.Lists.{put}
use Rattle.partition.specs.Selections.{differ_false, select}
use Rattle.partition.specs.CanonicalAnchors.{ends_later, anchor_at}
use Rattle.partition.proofs.CutFree.{end_walk, canonical}
use Rattle.agreement.specs.Jobs.{hyper_first, some_job, end_after, latency_fits}
use Rattle.agreement.specs.ReadsAsWalk.{first_anchor, other_anchors, canonical_cons}

pub read_less : (a : Place) → 1 ≤ a.period → (i j : ℕ) → i < j → read_of a i < read_of a j
read_less a h i j l = omega (arith, mul-le-mul_right a.period l)

module _ (w readAt : ℕ → ℕ) (W : ℕ) (rise : (i j : ℕ) → i < j → readAt i < readAt j) (after : (j : ℕ) → readAt j < w j)
    (fits : (j : ℕ) → W ≤ j → w (suc j) - readAt j ≤ latency_limit) where
  spaced : (n s x : ℕ) → W ≤ x → x < s → w s ≡ w (suc x) → Spaced (readAt (s + n)) (anchor_at w readAt x ∷ map (anchor_at w readAt) (select (ends_later w readAt) s n))
  unfolding select
  spaced zero s x h l e =
      let z : s + 0 ≡ s = omega arith in
      rw z (rise x s l, fits x h, omega (arith, after s, rise x s l), tt)
  spaced (suc n) s x h l e =
      let z : s + suc n ≡ suc s + n = omega arith in
      subst (λ (k : ℕ). Spaced (readAt k) (anchor_at w readAt x ∷ map (anchor_at w readAt) (select (ends_later w readAt) s (suc n)))) (sym z) (go (ends_later w readAt s) refl (spaced n (suc s) s (omega arith) (omega arith) refl) (λ k. spaced n (suc s) x h (omega arith) (k ∙ e)))
    where
      go : (t : Bool) → ends_later w readAt s ≡ t
          → Spaced (readAt (suc s + n)) (anchor_at w readAt s ∷ map (anchor_at w readAt) (select (ends_later w readAt) (suc s) n))
          → (w (suc s) ≡ w s → Spaced (readAt (suc s + n)) (anchor_at w readAt x ∷ map (anchor_at w readAt) (select (ends_later w readAt) (suc s) n)))
          → Spaced (readAt (suc s + n)) (anchor_at w readAt x ∷ map (anchor_at w readAt) (put t s (select (ends_later w readAt) (suc s) n)))
      go true k p q = (rise x s l, fits x h, omega (arith, after s, rise x s l), p)
      go false k p q = q (differ_false (w (suc s)) (w s) k)

module _ (l : List Place) (ok : Sound l) where
  pub canonical_spaced : Spaced (read_of (at l 0) (warm_at l 0) + hyper_of l) (first_anchor l ok ∷ other_anchors l ok)
  canonical_spaced =
      subst (λ (e : ℕ). Spaced e (first_anchor l ok ∷ other_anchors l ok)) again
      (spaced (end_walk l) (read_of (at l 0)) (warm_at l 0) (read_less (at l 0) (ok.each 0 ok.some).period_pos) (end_after l ok) (latency_fits l ok)
      (hyper_of l / (at l 0).period - 1) (suc (warm_at l 0)) (warm_at l 0) (omega arith) (omega arith) refl)
    where
      again : read_of (at l 0) (suc (warm_at l 0) + (hyper_of l / (at l 0).period - 1)) ≡ read_of (at l 0) (warm_at l 0) + hyper_of l
      again =
          let z : suc (warm_at l 0) + (hyper_of l / (at l 0).period - 1) ≡ warm_at l 0 + hyper_of l / (at l 0).period = omega (arith, some_job l ok) in
          rw z (omega (arith, hyper_first l ok))

  pub canonical_formed : Formed (hyper_of l) (canonical l (hyper_of l))
  canonical_formed = record {
    head = first_anchor l ok;
    tail = other_anchors l ok;
    whole = canonical_cons l ok;
    some = hyper_pos l ok;
    spacing = canonical_spaced;
  }
