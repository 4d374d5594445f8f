-- The derived `==` answers as `same_bounded`: it compares the same entries, in another order.
use Rattle.std.specs.Prelude.{◌≡◌, Bool, true, false, cond, ◌&&◌, List, [], ◌∷◌, eqb}
use Rattle.std.proofs.Math.Path.{refl}
use Rattle.std.proofs.Common.{arith}
use Rattle.std.specs.Cmp.Lexicographic.{pointwise}
use Rattle.schedule.specs.declared.NumberedTask.{NumberedTask}
use Rattle.schedule.specs.declared.Route.{Route}
use Rattle.schedule.specs.declared.Schedule.{Schedule}
use Rattle.bounded.specs.declared.Bounded.{Bounded}
use Rattle.schedule.specs.contracts.NumberedTaskPartialEq.TheImpl as numbered
use Rattle.schedule.specs.contracts.RoutePartialEq.TheImpl as route
use Rattle.schedule.specs.contracts.SchedulePartialEq.TheImpl as schedule
use Rattle.bounded.specs.contracts.BoundedPartialEq.TheImpl as bounded
use Rattle.bounded.specs.Bounded.{pairwise, same_task, same_route, same_schedule, same_bounded}

both : (a b : Bool) → (a && b) ≡ cond a b false
both true b = refl
both false b = refl

pairs : {A : Type 0} (f g : A → A → Bool) → ((x y : A) → f x y ≡ g x y) → (a b : List A) → pointwise f a b ≡ pairwise g a b
unfolding pairwise
pairs f g same [] [] = refl
pairs f g same [] (y ∷ b) = refl
pairs f g same (x ∷ a) [] = refl
pairs f g same (x ∷ a) (y ∷ b) = rw (same x y, pairs f g same a b) (both (g x y) (pairwise g a b))

task_same : (a b : NumberedTask) → (numbered.ghosts).eq a b ≡ same_task a b
unfolding same_task
task_same a b = simp both refl

-- the tests of a route and of a schedule, in the one order and the other
turned : (p n : Bool) → (p && n) ≡ cond n p false
turned true true = refl
turned true false = refl
turned false true = refl
turned false false = refl

moved : (t r n m g : Bool) → (t && (r && (n && (m && g)))) ≡ cond n (cond m (cond g (cond t r false) false) false) false
moved t r n m g = grind arith

route_same : (a b : Route) → (route.ghosts).eq a b ≡ same_route a b
unfolding same_route
route_same a b = rw (pairs eqb eqb (λ x y. refl) a.places b.places) (turned (pairwise eqb a.places b.places) (eqb a.count b.count))

schedule_same : (a b : Schedule) → (schedule.ghosts).eq a b ≡ same_schedule a b
unfolding same_schedule
schedule_same a b =
    rw (pairs _ same_task task_same a.tasks b.tasks, pairs _ same_route route_same a.routes b.routes)
    (moved (pairwise same_task a.tasks b.tasks) (pairwise same_route a.routes b.routes) (eqb a.count b.count) (eqb a.chains b.chains) (eqb a.gap b.gap))

pub bounded_same : (a b : Bounded) → (bounded.ghosts).eq a b ≡ same_bounded a b
unfolding same_bounded
bounded_same a b = rw (schedule_same a.schedule b.schedule, pairs eqb eqb (λ x y. refl) a.bounds b.bounds) (both (same_schedule a.schedule b.schedule) (pairwise eqb a.bounds b.bounds))
