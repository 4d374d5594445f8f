-- The tasks at a chain's places, those of one task with another phase: what stays. The list passes 8 and 5 as before, and its hyperperiod and its periods are the same.
use Prim.Native.Nat.{ℕ, zero, suc, ◌≤◌, ◌<◌}
use Rattle.std.proofs.Common.{arith, sym, ◌∙◌, subst}
use Rattle.std.specs.Prelude.{◌≡◌, Bool, true, false, eqb, length, get_or}
use Rattle.std.proofs.Math.Path.{refl, ap}
use Rattle.std.proofs.Math.Bool.{cond}
use mathlib.Core.List.{List, [], ◌∷◌}
use Rattle.std.proofs.lemmas.List.{length-map}
use Rattle.euclid.specs.Divisor.{lcm_of}
use Rattle.task.specs.declared.Task.{Task}
use Rattle.task.specs.declared.Place.{Place}
use Rattle.task.specs.Jobs.{place_of, Limited}
use Rattle.chain.specs.Chains.{placed, at, zero_task}
use Rattle.chain.specs.Placed.{at_placed}
use Rattle.chain.specs.Checks.{Sound}
use Rattle.chain.specs.Hyperperiod.{hyper_from, hyper_of}
use Rattle.phase.specs.Phases.{phased}

-- The tasks at the places, with phase F where the place has this number. `moved_chain` in MovedSchedule: of a schedule's chain they are the tasks of the moved schedule's.
unfoldable pub moved_at : ℕ → ℕ → List ℕ → List Task → List Task
moved_at number F [] l = l
moved_at number F (m ∷ places) [] = []
moved_at number F (m ∷ places) (a ∷ l) = cond (eqb m number) (phased F a) a ∷ moved_at number F places l

module _ (number : ℕ) where
  pub moved_length : (F : ℕ) (places : List ℕ) (l : List Task) → length (moved_at number F places l) ≡ length l
  unfolding moved_at
  moved_length F [] l = refl
  moved_length F (m ∷ places) [] = refl
  moved_length F (m ∷ places) (a ∷ l) = ap suc (moved_length F places l)

  -- the task at a place
  pub moved_at_holds : (F : ℕ) (places : List ℕ) (l : List Task) (i : ℕ) → i < length places → i < length l
      → get_or (moved_at number F places l) i zero_task ≡ cond (eqb (get_or places i 0) number) (phased F (get_or l i zero_task)) (get_or l i zero_task)
  unfolding moved_at
  moved_at_holds F [] l i h g = absurd (omega arith)
  moved_at_holds F (m ∷ places) [] i h g = absurd (omega arith)
  moved_at_holds F (m ∷ places) (a ∷ l) zero h g = refl
  moved_at_holds F (m ∷ places) (a ∷ l) (suc i) h g = moved_at_holds F places l i (omega arith) (omega arith)

  -- what is moved again is moved from where it was first
  moved_twice : (b : Bool) (E F : ℕ) (a : Task) → cond b (phased F (cond b (phased E a) a)) (cond b (phased E a) a) ≡ cond b (phased F a) a
  moved_twice true E F a = refl
  moved_twice false E F a = refl

  pub moved_again : (E F : ℕ) (places : List ℕ) (l : List Task) → moved_at number F places (moved_at number E places l) ≡ moved_at number F places l
  unfolding moved_at
  moved_again E F [] l = refl
  moved_again E F (m ∷ places) [] = refl
  moved_again E F (m ∷ places) (a ∷ l) =
      ap (λ (t : Task). t ∷ moved_at number F places (moved_at number E places l)) (moved_twice (eqb m number) E F a)
      ∙ ap (λ (r : List Task). cond (eqb m number) (phased F a) a ∷ r) (moved_again E F places l)

  -- the hyperperiod is worked out once
  moved_period : (b : Bool) (F : ℕ) (a : Task) → (cond b (phased F a) a).period ≡ a.period
  moved_period true F a = refl
  moved_period false F a = refl

  hyper_same : (g F : ℕ) (places : List ℕ) (l : List Task) (h : ℕ) → hyper_from h (placed g (moved_at number F places l)) ≡ hyper_from h (placed g l)
  unfolding moved_at hyper_from
  hyper_same g F [] l h = refl
  hyper_same g F (m ∷ places) [] h = refl
  hyper_same g F (m ∷ places) (a ∷ l) h =
      ap (λ (T : ℕ). hyper_from (lcm_of h T) (placed g (moved_at number F places l))) (moved_period (eqb m number) F a)
      ∙ hyper_same g F places l (lcm_of h a.period)

  pub moved_hyper : (g F : ℕ) (places : List ℕ) (l : List Task) → hyper_of (placed g (moved_at number F places l)) ≡ hyper_of (placed g l)
  moved_hyper g F places l = hyper_same g F places l 1

  -- ---- of lists with a number for each task

  module _ (g F : ℕ) (places : List ℕ) (l : List Task) (long : length places ≡ length l) where
    pub moved_count : length (placed g (moved_at number F places l)) ≡ length (placed g l)
    moved_count = length-map (moved_at number F places l) (place_of g) ∙ moved_length F places l ∙ sym (length-map l (place_of g))

    -- the place itself
    pub moved_place : (i : ℕ) → i < length l
        → at (placed g (moved_at number F places l)) i ≡ place_of g (cond (eqb (get_or places i 0) number) (phased F (get_or l i zero_task)) (get_or l i zero_task))
    moved_place i h =
        at_placed g (moved_at number F places l) i (omega (arith, moved_length F places l)) ∙ ap (place_of g) (moved_at_holds F places l i (omega arith) h)

    pub period_same : (i : ℕ) → i < length l → (at (placed g (moved_at number F places l)) i).period ≡ (at (placed g l) i).period
    period_same i h =
        ap (λ (a : Place). a.period) (moved_place i h) ∙ moved_period (eqb (get_or places i 0) number) F (get_or l i zero_task) ∙ sym (ap (λ (a : Place). a.period) (at_placed g l i h))

    -- it passes 8 and 5
    pub moved_list_sound : F ≤ 1000000 → Sound (placed g l) → Sound (placed g (moved_at number F places l))
    moved_list_sound f ok =
        let n : length (placed g l) ≡ length l = length-map l (place_of g) in
        record {
          some = omega (arith, moved_count, ok.some);
          few = omega (arith, moved_count, ok.few);
          each = λ i h.
              let small : i < length l = omega (arith, moved_count) in
              subst Limited (sym (moved_place i small)) (go (eqb (get_or places i 0) number) (get_or l i zero_task) (subst Limited (at_placed g l i small) (ok.each i (omega arith))));
        }
      where
        go : (b : Bool) (a : Task) → Limited (place_of g a) → Limited (place_of g (cond b (phased F a) a))
        go true a w = record { period_pos = w.period_pos; period_max = w.period_max; duration_pos = w.duration_pos; duration_max = w.duration_max; phase_max = f; gap_max = w.gap_max }
        go false a w = w
