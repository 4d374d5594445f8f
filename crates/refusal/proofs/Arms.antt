-- Calls for C give an answer as numbers, the first of which is its code. What each arm of a match on the answer gives, whatever the answer is; and a refusal whose code is below 256
-- fits one number.
use Prim.Native.Nat.{ℕ, ◌+◌, ◌*◌, ◌≤◌, ◌<◌}
use native.Mathlib.Omega.{arith}
use mathlib.Core.Path.{◌≡◌, sym, ap, ◌∙◌}
use mathlib.Core.Bool.{Bool, true, false, cond}
use mathlib.Core.List.{List, [], ◌∷◌}
use Rattle.refusal.specs.declared.Refusal.{Refusal}
use Rattle.refusal.specs.Refusals.{code_of}

-- the code is the first of the numbers
abbrev pub code : List ℕ → ℕ
code [] = 0
code (n ∷ l) = n

-- a choice between two answers with small codes has a small code
pub either : {A : Type 0} (numbers : A → List ℕ) (w : Bool) (x y : A) → code (numbers x) < 256 → code (numbers y) < 256 → code (numbers (cond w x y)) < 256
either numbers true x y h k = h
either numbers false x y h k = k

-- an answer a, which is b by its contract and x in the arm of the match
module _ {A : Type 0} (numbers : A → List ℕ) {a b x : A} (e : a ≡ b) (k : a ≡ x) where
  pub gives : numbers x ≡ numbers b
  gives = ap numbers (sym k ∙ e)

  -- where the arm is that of a refusal, which gives its code and m
  module _ (r : Refusal) (m : List ℕ) (p : numbers x ≡ code_of r ∷ m) where
    pub gives_refusal : (n : ℕ) → n ≡ code_of r → (n ∷ m) ≡ numbers b
    gives_refusal n q = ap (λ (i : ℕ). i ∷ m) q ∙ sym p ∙ gives

    pub fits : code (numbers b) < 256 → (r.number < 256) × (r.place ≤ 1000000000)
    fits h = let q : code (numbers b) ≡ r.number + 256 * r.place = ap code (sym gives ∙ p) in (omega arith, omega arith)
