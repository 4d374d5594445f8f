-- What is answered of a gap and a list of tasks that stand for a chain is what is answered of the chain.
use Prim.Native.Nat.{ℕ, ◌<◌}
use Rattle.std.proofs.Common.{arith, sym, ap, ◌∙◌}
use Rattle.std.specs.Prelude.{◌≡◌, length, Err, Ok, Result}
use Rattle.std.proofs.Math.Path.{refl}
use mathlib.Core.List.{List}
use Rattle.std.proofs.lemmas.List.{length-map}
use Rattle.refusal.specs.declared.Refusal.{Refusal}
use Rattle.task.specs.declared.Task.{Task}
use Rattle.task.specs.declared.Place.{Place}
use Rattle.task.specs.Jobs.{place_of}
use Rattle.chain.specs.declared.Chain.{Chain}
use Rattle.chain.specs.Chains.{at, given_of, placed}
use Rattle.chain.specs.Placed.{at_placed}
use Rattle.chain.specs.Checks.{verdict_in}
use Rattle.chain.specs.StandsFor.{StandsFor, stands_answer}
use Rattle.chain.proofs.CheckLaws.{accepted_in}
use Rattle.sections.specs.declared.Sections.{Sections}
use Rattle.sections.specs.Sections.{after_cuts, sections_after, sections_answer, sections_in}

-- places that are there tell their gap
gap_of : (g : ℕ) (l : List Task) → 0 < length (placed g l) → (at (placed g l) 0).gap ≡ g
gap_of g l h = ap (λ (a : Place). a.gap) (at_placed g l 0 (omega (arith, length-map l (place_of g))))

module _ (g : ℕ) (l : List Task) (c : Chain) (st : StandsFor g l c) where
  -- so the gap of an accepted list is the chain's
  gap_same : (h : ℕ) → verdict_in g l ≡ Ok h → g ≡ c.gap
  gap_same h e =
      let some = (accepted_in g l h e).sound.some in
      let same = st.tasks h (sym st.verdict ∙ e) in
      sym (gap_of g l some) ∙ ap (λ (x : List Place). (at x 0).gap) same ∙ gap_of c.gap (given_of c) (rw (ap length (sym same)) some)

  pub sections_stands : (cuts : List ℕ) → sections_in g l cuts ≡ sections_answer c cuts
  unfolding sections_after
  sections_stands cuts = go (verdict_in g l) refl ∙ stands_answer (answer c.gap) (λ r x y. refl) g l c st
    where
      answer : ℕ → List Place → Result ℕ Refusal → Result Sections Refusal
      answer d x v = sections_after d x cuts (after_cuts (length x) cuts v)

      go : (v : Result ℕ Refusal) → verdict_in g l ≡ v → answer g (placed g l) v ≡ answer c.gap (placed g l) v
      go (Err r) e = refl
      go (Ok h) e = ap (λ (d : ℕ). answer d (placed g l) (Ok h)) (gap_same h e)
