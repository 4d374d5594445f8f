use Rattle.std.proofs.Common.{ℕ, ◌≡◌, ◌∙◌, leb, arith, Bool, true, false, refl, List, [], ◌∷◌, cond, ◌&&◌, length}
use Rattle.std.specs.List.{list_all, zip}
use Rattle.std.proofs.lemmas.Iterator.{YieldsList-from_slice, YieldsList-from_zip}
use Rattle.std.proofs.lemmas.Iterator.Search.{all_from_yields_List}
use borrow.Author.Tests.{tests}
use borrow.Author.Rules.{rules}
use Rattle.bounded.specs.Bounded.{pairwise}
use Rattle.promises.proofs.at_most_each.Goals as goal

-- the pairs of two lists of one length, in the words of the library
pairs_all : (a b : List ℕ) → length a ≡ length b → list_all (λ (p : ℕ × ℕ). leb p.0 p.1) (zip a b) ≡ pairwise leb a b
unfolding pairwise
pairs_all [] [] h = refl
pairs_all [] (y ∷ b) h = absurd (omega arith)
pairs_all (x ∷ a) [] h = absurd (omega arith)
pairs_all (x ∷ a) (y ∷ b) h = rw (pairs_all a b (omega arith)) (go (leb x y) (pairwise leb a b))
  where
    go : (a b : Bool) → (a && b) ≡ cond a b false
    go true b = refl
    go false b = refl

pub returns : goal.returns
returns c =
    let a = c.args.numbers.now in
    let b = c.args.limits.now in
    let all =
    all_from_yields_List (λ (p : ℕ × ℕ). leb p.0 p.1) c.all.new.self _ c.all.result c.all.ensures.ran (YieldsList-from_zip (YieldsList-from_slice a (search rules)) (YieldsList-from_slice b (search rules)))
    (λ x b q k. search (rules, tests))
    in
    all ∙ pairs_all a b c.requires
