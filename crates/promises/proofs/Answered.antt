-- What the judge's answer says of what is said of a schedule with bounds: the latencies, or the refusal with zeros.
use Rattle.std.specs.Prelude.{◌≡◌, ℕ, Bool, true, false, cond, eqb, List, Ok, Err}
use Rattle.std.proofs.Math.Path.{refl, ap}
use Rattle.std.proofs.Common.{◌∙◌}
use borrow.Author.Tests.{eqb-false}
use Rattle.refusal.specs.declared.Refusal.{Refusal}
use Rattle.refusal.specs.Refusals.{refusal, none}
use Rattle.bounded.specs.declared.Bounded.{Bounded}
use Rattle.promises.specs.Promises.{Judged, answered, checks_of, latencies_of, within_bounds, refused_with, judged_of}

module _ (b : Bounded) where
  abbrev said : Bool → Bool → Judged
  said x y = cond x (cond y (record { refusal = none; latencies = latencies_of b.schedule }) (refused_with (refusal 21 0))) (refused_with (checks_of b.schedule))

  pub judged_kept : (l : List ℕ) → Ok l ≡ answered (judged_of b) → judged_of b ≡ record { refusal = none; latencies = l }
  unfolding judged_of
  judged_kept l e = go (eqb (checks_of b.schedule).number 0) refl (within_bounds b) e
    where
      go : (x : Bool) → eqb (checks_of b.schedule).number 0 ≡ x → (y : Bool) → Ok l ≡ answered (said x y) → said x y ≡ record { refusal = none; latencies = l }
      go true k true h = let i : latencies_of b.schedule ≡ l = cc in ap (λ (z : List ℕ). record { refusal = none; latencies = z }) i
      go true k false h = absurd cc
      go false k y h = absurd (let w = rw k at h in cc)

  pub judged_refused : (r : Refusal) → Err r ≡ answered (judged_of b) → (judged_of b ≡ refused_with r) × (r.number ≡ 0 → ⊥)
  unfolding judged_of
  judged_refused r e = go (eqb (checks_of b.schedule).number 0) refl (within_bounds b) e
    where
      go : (x : Bool) → eqb (checks_of b.schedule).number 0 ≡ x → (y : Bool) → Err r ≡ answered (said x y) → (said x y ≡ refused_with r) × (r.number ≡ 0 → ⊥)
      go true k true h = absurd cc
      go true k false h =
          let i : refusal 21 0 ≡ r = cc in
          (ap refused_with i, λ z. absurd (eqb-false 21 0 refl (ap (λ (q : Refusal). q.number) i ∙ z)))
      go false k y h =
          let i : checks_of b.schedule ≡ r = (let w = rw k at h in cc) in
          (ap refused_with i, λ z. absurd (eqb-false (checks_of b.schedule).number 0 k (ap (λ (q : Refusal). q.number) i ∙ z)))
