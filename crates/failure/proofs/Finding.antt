-- Of a text is left what stands before the place where std finds the mark, and all of it where std finds none.
use Rattle.std.specs.Prelude.{ℕ, zero, suc, ◌<◌, ◌≤◌, ◌≡◌, refl, false, List, [], ◌∷◌, ◌++◌, length, take, drop}
use Rattle.std.specs.Str.Pattern.{LacksTextAt}
use Rattle.std.proofs.Common.{arith, sym, ap}
use Rattle.std.proofs.lemmas.Bool.Decides.{Decides-eqb}
use Rattle.std.proofs.lemmas.Str.Pattern.{starts_text}
use Rattle.std.proofs.lemmas.Slice.Eq.{starts_is}
use Rattle.failure.specs.Reasons.{before_mark}

pub before_none : (mark text : List ℕ) → ((i : ℕ) → i ≤ length text → LacksTextAt mark text i) → before_mark mark text ≡ text
unfolding before_mark
before_none mark [] none = refl
before_none mark (b ∷ l) none =
    rw (sym (starts_text false mark (b ∷ l) (none 0 (omega arith)))) (ap (λ (x : List ℕ). b ∷ x) (before_none mark l (λ i h. none (suc i) (omega arith))))

pub before_first : (mark text : List ℕ) (i : ℕ) → ((k : ℕ) → k < i → LacksTextAt mark text k) → (rest : List ℕ) → drop i text ≡ mark ++ rest → before_mark mark text ≡ take i text
unfolding before_mark
before_first mark [] zero none rest e = refl
before_first mark [] (suc i) none rest e = refl
before_first mark (b ∷ l) zero none rest e = rw ((starts_is Decides-eqb (b ∷ l) mark _ refl).1 rest e) refl
before_first mark (b ∷ l) (suc i) none rest e =
    rw (sym (starts_text false mark (b ∷ l) (none 0 (omega arith)))) (ap (λ (x : List ℕ). b ∷ x) (before_first mark l i (λ k h. none (suc k) (omega arith)) rest e))
