-- A chain's tasks as the flat list T, D, F, T, D, F, .., and the places that they fill with a gap.
use Prim.Native.Nat.{ℕ, zero, suc, ◌+◌, ◌-◌, ◌*◌, ◌/◌, ◌≤◌, ◌<◌}
use native.Mathlib.Omega.{arith}
use Rattle.std.specs.Prelude.{◌≡◌, refl, cond, ltb, get_or}
use Rattle.std.proofs.Math.Path.{sym, ap}
use Rattle.std.proofs.Common.{◌∙◌}
use mathlib.Core.List.{List, [], ◌∷◌, ◌++◌, append_assoc, append-nil}
use Rattle.std.proofs.Math.ListN.{length, take, length-append}
use Rattle.std.proofs.lemmas.List.{length-map}
use Rattle.std.proofs.Math.Seq.{take-nil, take-append-add}
use Rattle.task.specs.declared.Task.{Task}
use Rattle.task.specs.declared.Place.{Place}
use Rattle.task.specs.Jobs.{place_of}
use Rattle.chain.specs.declared.Chain.{Chain}
use Rattle.chain.specs.Chains.{given_of, placed, zero_task, last_place}

-- The numbers of each element, one after the other.
unfoldable pub flat_of : {A : Type 0} → (A → List ℕ) → List A → List ℕ
flat_of f [] = []
flat_of f (x ∷ l) = f x ++ flat_of f l

abbrev pub task_fields : Task → List ℕ
task_fields a = a.period ∷ a.duration ∷ a.phase ∷ []

abbrev pub flat_chain : List Task → List ℕ
flat_chain l = flat_of task_fields l

-- The tasks of a flat list. One or two numbers left at its end are no task.
unfoldable pub given_in : List ℕ → List Task
given_in [] = []
given_in (t ∷ []) = []
given_in (t ∷ d ∷ []) = []
given_in (t ∷ d ∷ f ∷ l) = record { period = t; duration = d; phase = f } ∷ given_in l

-- The same at places with the gap g.
abbrev pub tasks_in : ℕ → List ℕ → List Place
tasks_in g l = placed g (given_in l)

-- How many numbers of a chain's flat list hold the tasks at its places; none of a chain that has too many places.
abbrev pub flat_length : ℕ → ℕ
flat_length n = cond (ltb 12 n) 0 (3 * n)

-- ---- flat lists of elements that have k numbers each

module _ {A : Type 0} (f : A → List ℕ) (k : ℕ) (each : (x : A) → length (f x) ≡ k) where
  pub length_flat : (l : List A) → length (flat_of f l) ≡ k * length l
  unfolding flat_of
  length_flat [] = omega arith
  length_flat (x ∷ l) = length-append (f x) (flat_of f l) ∙ (omega (arith, each x, length_flat l))

  pub flat_more : (d : A) (l : List A) (i : ℕ) → i < length l → flat_of f (take (suc i) l) ≡ flat_of f (take i l) ++ f (get_or l i d)
  unfolding flat_of
  flat_more d [] i h = absurd (omega arith)
  flat_more d (x ∷ l) zero h = append-nil (f x)
  flat_more d (x ∷ l) (suc i) h = ap (λ (r : List ℕ). f x ++ r) (flat_more d l i (omega arith)) ∙ sym (append_assoc (f x) (flat_of f (take i l)) (f (get_or l i d)))

  pub take_flat : (n : ℕ) (l : List A) → take (k * n) (flat_of f l) ≡ flat_of f (take n l)
  unfolding flat_of
  take_flat zero l = let e : k * 0 ≡ 0 = omega arith in rw e
  take_flat (suc n) [] = take-nil (k * suc n)
  take_flat (suc n) (x ∷ l) =
      let e : k * suc n ≡ length (f x) + k * n = omega (arith, each x) in
      ap (λ (m : ℕ). take m (f x ++ flat_of f l)) e ∙ take-append-add (f x) (flat_of f l) (k * n) ∙ ap (λ (r : List ℕ). f x ++ r) (take_flat n l)

-- ---- the number of tasks in a flat list

pub in_long : (l : List ℕ) → 3 * length (given_in l) ≤ length l
unfolding given_in
in_long [] = omega arith
in_long (t ∷ []) = omega arith
in_long (t ∷ d ∷ []) = omega arith
in_long (t ∷ d ∷ f ∷ l) = omega (arith, in_long l)

in_all : (l : List ℕ) → length l < 3 * length (given_in l) + 3
unfolding given_in
in_all [] = omega arith
in_all (t ∷ []) = omega arith
in_all (t ∷ d ∷ []) = omega arith
in_all (t ∷ d ∷ f ∷ l) = omega (arith, in_all l)

pub given_count : (l : List ℕ) → length l / 3 ≡ length (given_in l)
given_count l = omega (arith, in_long l, in_all l)

pub in_count : (g : ℕ) (l : List ℕ) → length l / 3 ≡ length (tasks_in g l)
in_count g l = given_count l ∙ sym (length-map (given_in l) (place_of g))

pub in_last : (g : ℕ) (l : List ℕ) → length l / 3 - 1 ≡ last_place (tasks_in g l)
in_last g l = ap (λ (n : ℕ). n - 1) (in_count g l)

-- ---- each of the tasks

pub given_at : (l : List ℕ) (i : ℕ) → i < length (given_in l) → get_or (given_in l) i zero_task ≡ record { period = get_or l (3 * i) 0; duration = get_or l (3 * i + 1) 0; phase = get_or l (3 * i + 2) 0 }
unfolding given_in
given_at [] i h = absurd (omega arith)
given_at (t ∷ []) i h = absurd (omega arith)
given_at (t ∷ d ∷ []) i h = absurd (omega arith)
given_at (t ∷ d ∷ f ∷ l) zero h = refl
given_at (t ∷ d ∷ f ∷ l) (suc i) h =
    let a : 3 * suc i + 1 ≡ suc (suc (suc (3 * i + 1))) = omega arith in
    let b : 3 * suc i + 2 ≡ suc (suc (suc (3 * i + 2))) = omega arith in
    let e : 3 * suc i ≡ suc (suc (suc (3 * i))) = omega arith in
    rw (a, b, e) (given_at l i (omega arith))

-- ---- there and back

pub in_flat : (l : List Task) → given_in (flat_chain l) ≡ l
unfolding given_in flat_of
in_flat [] = refl
in_flat (a ∷ l) = ap (λ (r : List Task). a ∷ r) (in_flat l)

-- the front of a chain's flat list holds the tasks at its places
pub flat_front : (c : Chain) → given_in (take (3 * c.places) (flat_chain c.tasks)) ≡ given_of c
flat_front c = ap given_in (take_flat task_fields 3 (λ x. refl) c.places c.tasks) ∙ in_flat (given_of c)
