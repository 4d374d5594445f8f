-- A machine that takes calls one after another: the state that a list of calls leaves, and what every list keeps because every call does.
use Rattle.std.specs.Prelude.{◌≡◌, refl, Bool, true, false, cond}
use Rattle.std.proofs.Common.{ap, ◌∙◌}
use mathlib.Core.List.{List, [], ◌∷◌, map}

-- Each of a list has a property.
unfoldable pub All : {C : Type 0} → (C → Type 0) → List C → Type 0
All Q [] = Unit
All Q (c ∷ l) = (Q c) × (All Q l)

module _ {S C : Type 0} (next : S → C → S) where
  -- The state that a list of calls leaves.
  unfoldable pub run : S → List C → S
  run s [] = s
  run s (c ∷ l) = run (next s c) l

  -- What every call keeps, every list keeps.
  pub run_keeps : (P : S → Type 0) → ((s : S) (c : C) → P s → P (next s c)) → (s : S) (l : List C) → P s → P (run s l)
  unfolding run
  run_keeps P step s [] h = h
  run_keeps P step s (c ∷ l) h = run_keeps P step (next s c) l (step s c h)

  -- The same of what every call keeps that has a property, over lists of such calls.
  pub run_keeps_of : (Q : C → Type 0) (P : S → Type 0) → ((s : S) (c : C) → Q c → P s → P (next s c)) → (s : S) (l : List C) → All Q l → P s → P (run s l)
  unfolding run All
  run_keeps_of Q P step s [] q h = h
  run_keeps_of Q P step s (c ∷ l) q h = run_keeps_of Q P step (next s c) l q.1 (step s c q.0 h)

-- Where one machine's calls are another's, seen through a view of its states, so are its lists.
pub run_view : {S C T D : Type 0} (next : S → C → S) (step : T → D → T) (view : S → T) (call : C → D) → ((s : S) (c : C) → view (next s c) ≡ step (view s) (call c))
    → (s : S) (l : List C) → view (run next s l) ≡ run step (view s) (map call l)
unfolding run
run_view next step view call e s [] = refl
run_view next step view call e s (c ∷ l) = run_view next step view call e (next s c) l ∙ ap (λ (t : _). run step t (map call l)) (e s c)

-- The last of a list, or a first one.
unfoldable pub last_or : {A : Type 0} → A → List A → A
last_or x [] = x
last_or x (y ∷ l) = last_or y l

-- a choice has what both sides have
pub choice : {A : Type 0} (P : A → Type 0) (b : Bool) (x y : A) → (b ≡ true → P x) → (b ≡ false → P y) → P (cond b x y)
choice P true x y f g = f refl
choice P false x y f g = g refl
