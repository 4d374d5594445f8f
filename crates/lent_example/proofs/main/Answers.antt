use Rattle.std.specs.Prelude.{Result}
use Prim.Native.Nat.{ℕ}
use mathlib.Core.Path.{◌≡◌, ap, ◌∙◌}
use mathlib.Core.List.{List, [], ◌∷◌}
use lib.ListN.{get_or}
use borrow.Author.Rules.{rules}
use borrow.Author.Tests.{eq-eqb}
use Rattle.maker.specs.declared.Unmade.{Unmade}
use Rattle.maker.specs.declared.Figures.{Figures}
use Rattle.maker.specs.Making.{told}
use Rattle.lent_example.proofs.ChainA.{whole_a, leaves_of_a}
use Rattle.lent_example.proofs.main.Goals as goal
use Rattle.lent_example.proofs.main.Goals.{After-made_of-m}

-- what the call of `made_of` gave
table : (c : After-made_of-m) → (c.made_of-m.result ≡ whole_a) × (c.made_of-m.new.starts ≡ 0 ∷ 8 ∷ 7 ∷ []) × (c.made_of-m.new.latencies ≡ 18 ∷ 16 ∷ 9 ∷ [])
table c = leaves_of_a _ _ _ c.made_of-m.ensures

pub expect-requires : goal.expect-requires
expect-requires c = eq-eqb _ _ (c.walked_of.ensures ∙ ap (λ (r : Result Figures Unmade). (told r).walked) (table (goal.at.expect-requires c).After-made_of-m).0)

pub expect-requires-2 : goal.expect-requires-2
expect-requires-2 c = eq-eqb _ _ (ap (λ (l : List ℕ). get_or l 0 0) (table (goal.at.expect-requires-2 c).After-made_of-m).1)

pub expect-requires-3 : goal.expect-requires-3
expect-requires-3 c = eq-eqb _ _ (ap (λ (l : List ℕ). get_or l 1 0) (table (goal.at.expect-requires-3 c).After-made_of-m).1)

pub expect-requires-4 : goal.expect-requires-4
expect-requires-4 c = eq-eqb _ _ (ap (λ (l : List ℕ). get_or l 2 0) (table (goal.at.expect-requires-4 c).After-made_of-m).1)

pub expect-requires-5 : goal.expect-requires-5
expect-requires-5 c = eq-eqb _ _ (ap (λ (l : List ℕ). get_or l 0 0) (table (goal.at.expect-requires-5 c).After-made_of-m).2)

pub expect-requires-6 : goal.expect-requires-6
expect-requires-6 c = eq-eqb _ _ (ap (λ (l : List ℕ). get_or l 1 0) (table (goal.at.expect-requires-6 c).After-made_of-m).2)

pub expect-requires-7 : goal.expect-requires-7
expect-requires-7 c = eq-eqb _ _ (ap (λ (l : List ℕ). get_or l 2 0) (table (goal.at.expect-requires-7 c).After-made_of-m).2)
