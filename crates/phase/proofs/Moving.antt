-- The stores of a phase: after i places the flat list holds the tasks moved at those places.
use Prim.Native.Nat.{ℕ, zero, suc, ◌+◌, ◌*◌, ◌≤◌, ◌<◌}
use native.Mathlib.Omega.{arith}
use native.Mathlib.Numerals.{add-one}
use mathlib.Core.Path.{◌≡◌, refl, ap, ◌∙◌}
use mathlib.Core.Bool.{Bool, true, false, cond}
use mathlib.Core.List.{List, [], ◌∷◌}
use lib.Dec.{eqb}
use lib.ListN.{length, get_or, set, take, length-set}
use borrow.Author.Tests.{eq-eqb, ne_eqb}
use Rattle.task.specs.declared.Task.{Task}
use Rattle.chain.specs.Chains.{zero_task}
use Rattle.chain.specs.Flat.{given_in, in_long}
use Rattle.phase.specs.Phases.{phased}
use Rattle.phase.specs.MovedTasks.{moved_at, moved_length}

-- the store in the flat list is one in the list of tasks
given_set : (list : List ℕ) (i F : ℕ) → i < length (given_in list) → given_in (set list (3 * i + 2) F) ≡ set (given_in list) i (phased F (get_or (given_in list) i zero_task))
unfolding given_in
given_set [] i F h = absurd (omega arith)
given_set (t ∷ []) i F h = absurd (omega arith)
given_set (t ∷ d ∷ []) i F h = absurd (omega arith)
given_set (t ∷ d ∷ f ∷ l) zero F h = refl
given_set (t ∷ d ∷ f ∷ l) (suc i) F h =
    let e : 3 * suc i + 2 ≡ suc (suc (suc (3 * i + 2))) = omega arith in
    rw e (ap (λ (r : List Task). record { period = t; duration = d; phase = f } ∷ r) (given_set l i F (omega arith)))

-- one place more
module _ (number F : ℕ) where
  spread : (b : Bool) (x : Task) (u v : List Task) → (x ∷ cond b u v) ≡ cond b (x ∷ u) (x ∷ v)
  spread true x u v = refl
  spread false x u v = refl

  gather : (b : Bool) (x a : Task) (l : List Task) → (cond b x a ∷ l) ≡ cond b (x ∷ l) (a ∷ l)
  gather true x a l = refl
  gather false x a l = refl

  moved_more : (places : List ℕ) (l : List Task) (i : ℕ) → i < length places → i < length l
      → moved_at number F (take (suc i) places) l
      ≡ cond (eqb (get_or places i 0) number) (set (moved_at number F (take i places) l) i (phased F (get_or (moved_at number F (take i places) l) i zero_task))) (moved_at number F (take i places) l)
  unfolding moved_at
  moved_more [] l i h g = absurd (omega arith)
  moved_more (m ∷ places) [] i h g = absurd (omega arith)
  moved_more (m ∷ places) (a ∷ l) zero h g = gather (eqb m number) (phased F a) a l
  moved_more (m ∷ places) (a ∷ l) (suc i) h g =
      ap (λ (r : List Task). cond (eqb m number) (phased F a) a ∷ r) (moved_more places l i (omega arith) (omega arith))
      ∙ spread (eqb (get_or places i 0) number) (cond (eqb m number) (phased F a) a) _ _

pub record Moving (number F : ℕ) (places old new : List ℕ) (i : ℕ) : Type 0 where
  pub few : i ≤ length places
  pub long : length new ≡ length old
  pub is : given_in new ≡ moved_at number F (take i places) (given_in old)

module _ (number F : ℕ) (places old : List ℕ) (counts : length places ≡ length (given_in old)) where
  pub moving_start : Moving number F places old old 0
  unfolding moved_at
  moving_start = record { few = omega arith; long = refl; is = refl }

  module _ (new : List ℕ) (i : ℕ) (k : Moving number F places old new i) where
    module _ (more : i < length places) where
      inside : i < length (given_in new)
      inside = omega (arith, ap length k.is, moved_length number F (take i places) (given_in old))

      -- the entry is in the list
      pub moving_room : 3 * i + 2 < length new
      moving_room = omega (arith, inside, in_long new)

      -- a place of the task,
      pub moving_store : get_or places i 0 ≡ number → Moving number F places old (set new (3 * i + 2) F) (i + 1)
      moving_store e = record {
        few = omega arith;
        long = length-set new (3 * i + 2) F ∙ k.long;
        is =
            given_set new i F inside ∙ ap (λ (l : List Task). set l i (phased F (get_or l i zero_task))) k.is
            ∙ rw (add-one i, moved_more number F places (given_in old) i more (omega arith), eq-eqb (get_or places i 0) number e);
      }

      -- and one of another.
      pub moving_skip : (get_or places i 0 ≡ number → ⊥) → Moving number F places old new (i + 1)
      moving_skip e = record {
        few = omega arith;
        long = k.long;
        is = k.is ∙ rw (add-one i, moved_more number F places (given_in old) i more (omega arith), ne_eqb (get_or places i 0) number e);
      }
