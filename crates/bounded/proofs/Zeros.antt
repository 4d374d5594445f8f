-- What the types have by default is zeros, and an array that is filled with them from an entry on has them past its front.
use Rattle.std.specs.Prelude.{◌≡◌, ℕ, zero, suc, ◌-◌, min, List, [], ◌∷◌, ◌++◌, length, take, drop, replicate, map}
use Rattle.std.proofs.Common.{arith, ap, sym, ◌∙◌, append-nil, length-take-le, length-drop, take_all}
use Rattle.std.proofs.Math.Decide.{dec_lt}
use Rattle.std.specs.Array.{AllOfLen, IsMapOf}
use Rattle.std.proofs.lemmas.List.{ext_get_or, length-replicate, get_or-replicate, drop_all, length-map}
use borrow.Rule.Slice.PartMut.{put_mid, post_of}
use denote.Param.Members.{Mut, Called}
use Rattle.schedule.specs.Padding.{map_at}
use Rattle.schedule.specs.declared.NumberedTask.{NumberedTask}
use Rattle.schedule.specs.declared.Route.{Route}
use Rattle.schedule.specs.declared.Schedule.{Schedule}
use Rattle.schedule.specs.Schedules.{padded, zero_numbered, empty_route, empty_schedule}
use Rattle.schedule.specs.contracts.NumberedTaskDefault.TheImpl as numbered
use Rattle.schedule.specs.contracts.RouteDefault.TheImpl as route
use Rattle.schedule.specs.contracts.ScheduleDefault.TheImpl as schedule
use Rattle.bounded.specs.contracts.BoundedDefault.TheImpl as bounded
use Rattle.bounded.specs.declared.Bounded.{Bounded}
use Rattle.bounded.specs.Bounded.{zero_bounded}

-- an array whose entries are all d
pub filled : {A : Type 0} (P : A → Type 0) (d : A) → ((x : A) → P x → x ≡ d) → (n : ℕ) (xs : List A) → AllOfLen P xs n → xs ≡ replicate n d
filled P d is n xs h = ext_get_or d xs (replicate n d) (h.long ∙ sym (length-replicate n d)) (λ i k. is _ (h.at i d (omega (arith, h.long))) ∙ sym (get_or-replicate n i d d (omega (arith, h.long))))

pub numbered_zero : (t : NumberedTask) → (numbered.ghosts).is_default t → t ≡ zero_numbered
numbered_zero t h = λ i. record { number = h.0 i; task = record { period = h.1.0 i; duration = h.1.1.0 i; phase = h.1.1.1 i } }

pub route_zero : (r : Route) → (route.ghosts).is_default r → r ≡ empty_route
route_zero r h = let p = filled _ 0 (λ x e. e) 12 r.places h.0 in λ i. record { places = p i; count = h.1 i }

schedule_zero : (s : Schedule) → (schedule.ghosts).is_default s → s ≡ empty_schedule
schedule_zero s h =
    let t = filled _ zero_numbered numbered_zero 32 s.tasks h.0 in
    let r = filled _ empty_route route_zero 4 s.routes h.1.0 in
    λ i. record { tasks = t i; routes = r i; count = h.1.1.0 i; chains = h.1.1.1.0 i; gap = h.1.1.1.1 i }

pub bounded_zero : (b : Bounded) → (bounded.ghosts).is_default b → b ≡ zero_bounded
bounded_zero b h =
    let s = schedule_zero b.schedule h.0 in
    let l = filled _ 0 (λ x e. e) 4 b.bounds h.1 in
    λ i. record { schedule = s i; bounds = l i }

module _ {A : Type 0} (d : A) where
  padded_by : (n : ℕ) (l : List A) → padded n d l ≡ l ++ replicate (n - length l) d
  unfolding padded
  padded_by zero l = sym (let e : 0 - length l ≡ 0 = omega arith in rw e (append-nil l))
  padded_by (suc n) [] = let e : suc n - 0 ≡ suc (n - 0) = omega arith in rw e (ap (λ (r : List A). d ∷ r) (padded_by n []))
  padded_by (suc n) (x ∷ l) = let e : suc n - suc (length l) ≡ n - length l = omega arith in rw e (ap (λ (r : List A). x ∷ r) (padded_by n l))

  -- `xs[m..].fill(d)`, m being the lesser of i and n
  pub rest_filled : (n : ℕ) (xs : List A) → length xs ≡ n → (i m : ℕ) → m ≡ min i n → (ys : List A) → ys ≡ replicate (length (take (n - m) (drop m xs))) d
      → put_mid m (n - m) xs ys ≡ padded n d (take i xs)
  rest_filled n xs long i m least ys rest =
      let front : take i xs ≡ take m xs = elim (dec_lt i n) [
        | yes h ↦ let e : i ≡ m = omega arith in ap (λ (k : ℕ). take k xs) e
        | no h ↦ take_all i xs (omega arith) ∙ sym (take_all m xs (omega arith))
      ] in
      let left : length (take (n - m) (drop m xs)) ≡ n - m = length-take-le (n - m) (drop m xs) (omega (arith, length-drop m xs)) in
      let none : post_of m (n - m) xs ≡ [] = drop_all (n - m) (drop m xs) (omega (arith, length-drop m xs)) in
      let few : length (take m xs) ≡ m = length-take-le m xs (omega arith) in
      rw (front, padded_by n (take m xs), few, none, rest, left, append-nil)

-- `xs.map(f)`, where each call answers h
pub mapped : {F A B : Type 0} (g : Mut F (A × Unit {0}) B) (f : F) (h : A → B) (a : A) (b : B) (xs : List A) (ys : List B) (n : ℕ) → length xs ≡ n
    → ((p q : F) (x : A) (y : B) → Called g p (x, tt) y q → y ≡ h x) → IsMapOf g f xs ys n → ys ≡ map h xs
mapped g f h a b xs ys n long call m =
    ext_get_or b ys (map h xs) (m.long ∙ sym (length-map xs h ∙ long))
    (λ i k. call _ _ _ _ (m.at i a b (omega (arith, m.long))).2 ∙ sym (map_at h xs i a b (omega (arith, m.long))))
