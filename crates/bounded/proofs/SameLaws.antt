-- What compares as the same is equal, and what is equal compares as the same (`same_exactly`).
use Rattle.std.specs.Prelude.{ℕ, ◌↔◌, Bool, eqb}
use Rattle.std.proofs.Common.{arith, ◌∙◌, subst, eqb-true, eq-eqb}
use Rattle.std.proofs.Math.Path.{◌≡◌, refl, ap}
use Rattle.std.proofs.Math.Bool.{true, false, cond}
use mathlib.Core.List.{List, [], ◌∷◌}
use Rattle.schedule.specs.declared.NumberedTask.{NumberedTask}
use Rattle.schedule.specs.declared.Route.{Route}
use Rattle.schedule.specs.declared.Schedule.{Schedule}
use Rattle.bounded.specs.declared.Bounded.{Bounded}
use Rattle.bounded.specs.Bounded.{pairwise, same_task, same_route, same_schedule, same_bounded}

module _ {A : Type 0} (f : A → A → Bool) where
  pub pairs_equal : ((x y : A) → f x y ≡ true → x ≡ y) → (a b : List A) → pairwise f a b ≡ true → a ≡ b
  unfolding pairwise
  pairs_equal g [] [] h = refl
  pairs_equal g [] (y ∷ b) h = absurd (let z : ◌≡◌ {A = ℕ} 0 1 = cc in omega arith)
  pairs_equal g (x ∷ a) [] h = absurd (let z : ◌≡◌ {A = ℕ} 0 1 = cc in omega arith)
  pairs_equal g (x ∷ a) (y ∷ b) h = go (f x y) refl h (pairs_equal g a b)
    where
      go : (t : Bool) → f x y ≡ t → cond t (pairwise f a b) false ≡ true → (pairwise f a b ≡ true → a ≡ b) → x ∷ a ≡ y ∷ b
      go true e h k = ap (λ (u : A). u ∷ a) (g x y e) ∙ ap (λ (r : List A). y ∷ r) (k h)
      go false e h k = absurd (let z : ◌≡◌ {A = ℕ} 0 1 = cc in omega arith)

  pub pairs_self : ((x : A) → f x x ≡ true) → (a : List A) → pairwise f a a ≡ true
  unfolding pairwise
  pairs_self g [] = refl
  pairs_self g (x ∷ a) = rw (g x) (pairs_self g a)

-- two tests that both hold
two : (a b : Bool) → cond a b false ≡ true → (a ≡ true) × (b ≡ true)
two true b h = (refl, h)
two false b h = absurd (let z : ◌≡◌ {A = ℕ} 0 1 = cc in omega arith)

number_self : (n : ℕ) → eqb n n ≡ true
number_self n = eq-eqb n n refl

numbers_equal : (a b : List ℕ) → pairwise eqb a b ≡ true → a ≡ b
numbers_equal a b h = pairs_equal eqb eqb-true a b h

task_equal : (a b : NumberedTask) → same_task a b ≡ true → a ≡ b
unfolding same_task
task_equal a b h =
    let p = two (eqb a.number b.number) _ h in
    let q = two (eqb a.task.period b.task.period) _ p.1 in
    let r = two (eqb a.task.duration b.task.duration) _ q.1 in
    let n = eqb-true a.number b.number p.0 in
    let t = eqb-true a.task.period b.task.period q.0 in
    let d = eqb-true a.task.duration b.task.duration r.0 in
    let f = eqb-true a.task.phase b.task.phase r.1 in
    ap (λ (x : ℕ). record { number = x; task = a.task }) n
    ∙ ap (λ (x : ℕ). record { number = b.number; task = record { period = x; duration = a.task.duration; phase = a.task.phase } }) t
    ∙ ap (λ (x : ℕ). record { number = b.number; task = record { period = b.task.period; duration = x; phase = a.task.phase } }) d
    ∙ ap (λ (x : ℕ). record { number = b.number; task = record { period = b.task.period; duration = b.task.duration; phase = x } }) f

route_equal : (a b : Route) → same_route a b ≡ true → a ≡ b
unfolding same_route
route_equal a b h =
    let p = two (eqb a.count b.count) _ h in
    ap (λ (x : List ℕ). record { places = x; count = a.count }) (numbers_equal a.places b.places p.1)
    ∙ ap (λ (x : ℕ). record { places = b.places; count = x }) (eqb-true a.count b.count p.0)

schedule_equal : (a b : Schedule) → same_schedule a b ≡ true → a ≡ b
unfolding same_schedule
schedule_equal a b h =
    let p = two (eqb a.count b.count) _ h in
    let q = two (eqb a.chains b.chains) _ p.1 in
    let r = two (eqb a.gap b.gap) _ q.1 in
    let s = two (pairwise same_task a.tasks b.tasks) _ r.1 in
    ap (λ (x : List NumberedTask). record { tasks = x; routes = a.routes; count = a.count; chains = a.chains; gap = a.gap }) (pairs_equal same_task task_equal a.tasks b.tasks s.0)
    ∙ ap (λ (x : List Route). record { tasks = b.tasks; routes = x; count = a.count; chains = a.chains; gap = a.gap }) (pairs_equal same_route route_equal a.routes b.routes s.1)
    ∙ ap (λ (x : ℕ). record { tasks = b.tasks; routes = b.routes; count = x; chains = a.chains; gap = a.gap }) (eqb-true a.count b.count p.0)
    ∙ ap (λ (x : ℕ). record { tasks = b.tasks; routes = b.routes; count = b.count; chains = x; gap = a.gap }) (eqb-true a.chains b.chains q.0)
    ∙ ap (λ (x : ℕ). record { tasks = b.tasks; routes = b.routes; count = b.count; chains = b.chains; gap = x }) (eqb-true a.gap b.gap r.0)

-- What compares as the same is equal.
pub same_equal : (a b : Bounded) → same_bounded a b ≡ true → a ≡ b
unfolding same_bounded
same_equal a b h =
    let p = two (same_schedule a.schedule b.schedule) _ h in
    ap (λ (x : Schedule). record { schedule = x; bounds = a.bounds }) (schedule_equal a.schedule b.schedule p.0)
    ∙ ap (λ (x : List ℕ). record { schedule = b.schedule; bounds = x }) (numbers_equal a.bounds b.bounds p.1)

task_self : (a : NumberedTask) → same_task a a ≡ true
unfolding same_task
task_self a = rw (number_self a.number, number_self a.task.period, number_self a.task.duration) (number_self a.task.phase)

route_self : (a : Route) → same_route a a ≡ true
unfolding same_route
route_self a = rw (number_self a.count) (pairs_self eqb number_self a.places)

schedule_self : (a : Schedule) → same_schedule a a ≡ true
unfolding same_schedule
schedule_self a = rw (number_self a.count, number_self a.chains, number_self a.gap, pairs_self same_task task_self a.tasks) (pairs_self same_route route_self a.routes)

-- What is equal compares as the same.
pub same_self : (a : Bounded) → same_bounded a a ≡ true
unfolding same_bounded
same_self a = rw (schedule_self a.schedule) (pairs_self eqb number_self a.bounds)

pub same_exactly : (a b : Bounded) → (same_bounded a b ≡ true) ↔ (a ≡ b)
same_exactly a b = (same_equal a b, λ e. subst (λ (x : Bounded). same_bounded a x ≡ true) e (same_self a))
