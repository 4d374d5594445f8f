-- Which of several places with the longest period a chain is cut at cannot be seen: of places with equal periods making in two lists of equal length answers the same and writes the same anchors (`tie_made`, `tie_written`).
use Rattle.std.specs.Prelude.{ℕ, ◌-◌, ◌/◌, ◌≤◌, ◌<◌, ◌≡◌, cond, leb, length, Err, Ok, Result}
use Rattle.std.proofs.Common.{arith, ◌∙◌}
use Rattle.std.proofs.Math.Path.{refl, sym, ap}
use mathlib.Core.List.{List}
use borrow.Author.Tests.{le-leb, eq-eqb}
use Rattle.maker.specs.declared.Unmade.TheVariants.{Short}
use Rattle.refusal.specs.declared.Refusal.{Refusal}
use Rattle.maker.specs.declared.Unmade.{Unmade}
use Rattle.chain.specs.declared.Chain.{Chain}
use Rattle.chain.specs.Chains.{tasks_of, at}
use Rattle.chain.specs.Checks.{verdict_of}
use Rattle.chain.specs.Hyperperiod.{hyper_of}
use Rattle.chain.proofs.CheckLaws.{Facts, accepted}
use Rattle.timing.specs.WarmUp.{warm_tick, warm_at}
use Rattle.table.specs.Anchors.{Anchor}
use Rattle.partition.specs.Partitions.{range_of, anchors_of}
use Rattle.partition.specs.Selections.{range_length}
use Rattle.partition.proofs.CutFree.{cut_canonical}
use Rattle.maker.specs.declared.Figures.{Figures}
use Rattle.maker.specs.Making.{after_checks, judged, figures_of, made_after, made_of, written_after, written_of}

module _ (c : Chain) (twelve : length c.tasks ≡ 12) (slots : ℕ) where
  -- a place inside is not refused for itself
  pub inside : (p : ℕ) → 1 ≤ p → p ≤ c.places → judged c p slots slots ≡ verdict_of c
  unfolding judged
  inside p low high = go (verdict_of c)
    where
      go : (v : Result ℕ Refusal) → after_checks v c.places p slots slots ≡ v
      go (Err r) = refl
      go (Ok h) = rw (le-leb 1 p low, le-leb p c.places high, eq-eqb slots slots refl)

  module _ (p q : ℕ) (p-low : 1 ≤ p) (p-high : p ≤ c.places) (q-low : 1 ≤ q) (q-high : q ≤ c.places)
      (equal : (at (tasks_of c) (p - 1)).period ≡ (at (tasks_of c) (q - 1)).period) where
    module _ (h : ℕ) (e : verdict_of c ≡ Ok h) where
      k : Facts c h
      k = accepted c h twelve e

      cut : (x : ℕ) → 1 ≤ x → x ≤ c.places → anchors_of (tasks_of c) (x - 1) h ≡ anchors_of (tasks_of c) 0 h
      cut x low high =
          let own : (y : ℕ) → y < length (tasks_of c) → anchors_of (tasks_of c) y h ≡ anchors_of (tasks_of c) y (hyper_of (tasks_of c)) = λ y g. ap (anchors_of (tasks_of c) y) k.hyper in
          let a : x - 1 < length (tasks_of c) = omega (arith, k.passes.counted) in
          let b : 0 < length (tasks_of c) = omega (arith, k.passes.counted) in
          own (x - 1) a ∙ cut_canonical (tasks_of c) k.passes.sound (x - 1) a ∙ sym (own 0 b ∙ cut_canonical (tasks_of c) k.passes.sound 0 b)

      anchors_same : anchors_of (tasks_of c) (p - 1) h ≡ anchors_of (tasks_of c) (q - 1) h
      anchors_same = cut p p-low p-high ∙ sym (cut q q-low q-high)

      walked_same : length (range_of (tasks_of c) (p - 1) h) ≡ length (range_of (tasks_of c) (q - 1) h)
      walked_same =
          range_length (warm_at (tasks_of c) (p - 1)) (h / (at (tasks_of c) (p - 1)).period)
          ∙ ap (λ (t : ℕ). h / t) equal
          ∙ sym (range_length (warm_at (tasks_of c) (q - 1)) (h / (at (tasks_of c) (q - 1)).period))

      figures_same : figures_of c p h ≡ figures_of c q h
      figures_same =
          ap (λ (n : ℕ). figures n (length (range_of (tasks_of c) (p - 1) h))) (ap length anchors_same)
          ∙ ap (figures (length (anchors_of (tasks_of c) (q - 1) h))) walked_same
        where
          figures : ℕ → ℕ → Figures
          figures g walked = record { anchors = g; tick = record { 0 = warm_tick (tasks_of c) }; hyperperiod = h; walked = walked }

      -- a whole table or a short one, with the same figures
      abbrev made : List Anchor → Figures → Result Figures Unmade
      made l f = cond (leb (length l) slots) (Ok f) (Err (Short f))

      accepted_made : made_after c p slots (Ok h) ≡ made_after c q slots (Ok h)
      unfolding made_after
      accepted_made = ap (λ (l : List Anchor). made l (figures_of c p h)) anchors_same ∙ ap (made (anchors_of (tasks_of c) (q - 1) h)) figures_same

      accepted_written : written_after c p (Ok h) ≡ written_after c q (Ok h)
      unfolding written_after
      accepted_written = anchors_same

    -- the answer is the same,
    pub tie_made : made_of c p slots slots ≡ made_of c q slots slots
    unfolding made_after
    tie_made = ap (made_after c p slots) (inside p p-low p-high) ∙ go (verdict_of c) refl ∙ sym (ap (made_after c q slots) (inside q q-low q-high))
      where
        go : (v : Result ℕ Refusal) → verdict_of c ≡ v → made_after c p slots v ≡ made_after c q slots v
        go (Err r) e = refl
        go (Ok h) e = accepted_made h e

    -- and so is what is written
    pub tie_written : written_of c p slots slots ≡ written_of c q slots slots
    unfolding written_after
    tie_written = ap (written_after c p) (inside p p-low p-high) ∙ go (verdict_of c) refl ∙ sym (ap (written_after c q) (inside q q-low q-high))
      where
        go : (v : Result ℕ Refusal) → verdict_of c ≡ v → written_after c p v ≡ written_after c q v
        go (Err r) e = refl
        go (Ok h) e = accepted_written h e
