use Rattle.std.proofs.Common.{◌≡◌, ◌∙◌, arith, Bool, true, false, refl, List, [], ◌∷◌, cond, ◌&&◌}
use Rattle.std.specs.List.{list_all}
use Rattle.std.proofs.lemmas.Iterator.{YieldsList-from_slice}
use Rattle.std.proofs.lemmas.Iterator.Search.{all_from_yields_List}
use borrow.Author.Tests.{tests}
use borrow.Author.Rules.{rules}
use Rattle.schedule.specs.declared.Route.{Route}
use Rattle.schedule_checks.specs.Checks.{count_right, places_right}
use Rattle.schedule_checks.proofs.places_right.Goals as goal

-- the places of all routes, in the words of the library
places_all : (rs : List Route) → list_all (λ (r : Route). count_right r.count 12) rs ≡ places_right rs
unfolding places_right
places_all [] = refl
places_all (r ∷ rs) = rw (places_all rs) (go (count_right r.count 12) (places_right rs))
  where
    go : (a b : Bool) → (a && b) ≡ cond a b false
    go true b = refl
    go false b = refl

pub returns : goal.returns
returns c =
    let rs = c.args.routes.now in
    let all = all_from_yields_List (λ (r : Route). count_right r.count 12) _ _ c.all.result c.all.ensures.ran (YieldsList-from_slice rs (grind arith)) (λ x b q k. search (rules, tests)) in
    all ∙ places_all rs
