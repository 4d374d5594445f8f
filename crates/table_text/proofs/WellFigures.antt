-- The figures of a well-formed table are not refused.
use Rattle.std.specs.Prelude.{Err, Ok, Result}
use Prim.Native.Nat.{ℕ, ◌*◌}
use native.Mathlib.Omega.{arith}
use mathlib.Core.Path.{◌≡◌, ap}
use mathlib.Core.Bool.{Bool, true, cond}
use mathlib.Core.List.{List}
use Rattle.figures.specs.declared.Mean.{Mean}
use Rattle.refusal.specs.declared.Refusal.{Refusal}
use Rattle.table.specs.Anchors.{anchors}
use Rattle.table.specs.WellFormed.{well_formed}
use Rattle.table.specs.Figures.{greatest, low}
use Rattle.figures.specs.Figures.{doubled_area, greatest_of, low_of, mean_of, mean_by}

taken : {A : Type 0} (b : Bool) (x y r : A) → b ≡ true → r ≡ cond b x y → r ≡ x
taken b x y r h e = rw h at e

module _ (s v : List ℕ) (g H : ℕ) (well : well_formed s v g H ≡ true) where
  greatest_there : (a : Result ℕ Refusal) → a ≡ greatest_of s v g H → a ≡ Ok (greatest (anchors s v g))
  unfolding greatest_of
  greatest_there a e = taken (well_formed s v g H) _ _ a well e

  pub greatest_is_holds : (a : Result ℕ Refusal) (x : ℕ) → a ≡ greatest_of s v g H → a ≡ Ok x → x ≡ greatest (anchors s v g)
  greatest_is_holds a x e d = let h = greatest_there a e in cc

  pub greatest_told : (a : Result ℕ Refusal) (r : Refusal) → a ≡ greatest_of s v g H → a ≡ Err r → ⊥
  greatest_told a r e d = let h = greatest_there a e in let z : ◌≡◌ {A = ℕ} 0 1 = cc in omega arith

  low_there : (a : Result ℕ Refusal) → a ≡ low_of s v g H → a ≡ Ok (low H (anchors s v g))
  unfolding low_of
  low_there a e = taken (well_formed s v g H) _ _ a well e

  pub low_is_holds : (a : Result ℕ Refusal) (x : ℕ) → a ≡ low_of s v g H → a ≡ Ok x → x ≡ low H (anchors s v g)
  low_is_holds a x e d = let h = low_there a e in cc

  pub low_told : (a : Result ℕ Refusal) (r : Refusal) → a ≡ low_of s v g H → a ≡ Err r → ⊥
  low_told a r e d = let h = low_there a e in let z : ◌≡◌ {A = ℕ} 0 1 = cc in omega arith

  mean_there : (a : Result Mean Refusal) → a ≡ mean_of s v g H → a ≡ mean_by (doubled_area H (anchors s v g)) (2 * H)
  unfolding mean_of
  mean_there a e = taken (well_formed s v g H) _ _ a well e

  pub mean_is_holds : (a : Result Mean Refusal) (x t : ℕ) → a ≡ mean_of s v g H → a ≡ mean_by x t → (x ≡ doubled_area H (anchors s v g)) × (t ≡ 2 * H)
  mean_is_holds a x t e d =
      let h = mean_there a e in
      let i : ◌≡◌ {A = Mean} (record { doubled_area = x; doubled_ticks = t }) (record { doubled_area = doubled_area H (anchors s v g); doubled_ticks = 2 * H }) = cc in
      (ap (λ (m : Mean). m.doubled_area) i, ap (λ (m : Mean). m.doubled_ticks) i)

  pub mean_told : (a : Result Mean Refusal) (r : Refusal) → a ≡ mean_of s v g H → a ≡ Err r → ⊥
  mean_told a r e d = let h = mean_there a e in let z : ◌≡◌ {A = ℕ} 0 1 = cc in omega arith
