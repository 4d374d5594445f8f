-- A part of a flat list holds the tasks of a section (`in_section`): the code makes no copy of a chain.
use Prim.Native.Nat.{ℕ, zero, suc, ◌-◌, ◌*◌}
use native.Mathlib.Omega.{arith}
use Rattle.std.specs.Prelude.{◌≡◌, take, drop}
use Rattle.std.proofs.Math.Path.{refl}
use Rattle.std.proofs.Common.{ap, ◌∙◌}
use mathlib.Core.List.{List, [], ◌∷◌}
use Rattle.std.proofs.Math.Seq.{take-nil, drop-nil}
use Rattle.task.specs.declared.Place.{Place}
use Rattle.task.specs.Jobs.{place_of}
use Rattle.chain.specs.Flat.{given_in, tasks_in}

module _ (g : ℕ) where
  in_take : (k : ℕ) (l : List ℕ) → tasks_in g (take (3 * k) l) ≡ take k (tasks_in g l)
  unfolding given_in
  in_take zero l = refl
  in_take (suc k) [] = rw (take-nil {A = ℕ} (3 * suc k))
  in_take (suc k) (t ∷ []) = let e : 3 * suc k ≡ suc (suc (suc (3 * k))) = omega arith in rw e
  in_take (suc k) (t ∷ d ∷ []) = let e : 3 * suc k ≡ suc (suc (suc (3 * k))) = omega arith in rw e
  in_take (suc k) (t ∷ d ∷ f ∷ l) =
      let e : 3 * suc k ≡ suc (suc (suc (3 * k))) = omega arith in
      rw e (ap (λ (r : List Place). place_of g (record { period = t; duration = d; phase = f }) ∷ r) (in_take k l))

  in_drop : (k : ℕ) (l : List ℕ) → tasks_in g (drop (3 * k) l) ≡ drop k (tasks_in g l)
  unfolding given_in
  in_drop zero l = refl
  in_drop (suc k) [] = rw (drop-nil {A = ℕ} (3 * suc k))
  in_drop (suc k) (t ∷ []) = let e : 3 * suc k ≡ suc (suc (suc (3 * k))) = omega arith in rw e
  in_drop (suc k) (t ∷ d ∷ []) = let e : 3 * suc k ≡ suc (suc (suc (3 * k))) = omega arith in rw e
  in_drop (suc k) (t ∷ d ∷ f ∷ l) = let e : 3 * suc k ≡ suc (suc (suc (3 * k))) = omega arith in rw e (in_drop k l)

  -- The numbers from 3 × a up to 3 × e hold the section after place a up to place e.
  pub in_section : (a e : ℕ) (l : List ℕ) → tasks_in g (take (3 * e - 3 * a) (drop (3 * a) l)) ≡ take (e - a) (drop a (tasks_in g l))
  in_section a e l =
      let s : 3 * e - 3 * a ≡ 3 * (e - a) = omega arith in
      ap (λ (x : ℕ). tasks_in g (take x (drop (3 * a) l))) s ∙ in_take (e - a) (drop (3 * a) l) ∙ ap (take (e - a)) (in_drop a l)
