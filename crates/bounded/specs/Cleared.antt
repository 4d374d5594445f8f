-- Zeros past the counts: what counts stays (`cleared_same`, `bounds_stay`), and clearing again changes nothing (`cleared_twice`). Two schedules with bounds are equal after it exactly where they agree in all that counts
-- (`agree_exactly`). A sound schedule becomes the one that reading its file gives (`cleared_sound`).
use Prim.Native.Nat.{ℕ, zero, suc, ◌+◌, ◌≤◌, ◌<◌}
use Rattle.std.proofs.Common.{arith, add-one, sym, ◌∙◌, length-take, take_all, take-suc-set, length-take-le, get_or-take}
use Rattle.std.specs.Prelude.{◌≡◌, ◌↔◌, true, length, set, take, get_or}
use Rattle.std.proofs.Math.Path.{refl, ap}
use mathlib.Core.List.{List, [], ◌∷◌, map}
use Rattle.std.proofs.lemmas.List.{length-map}
use Rattle.schedule.specs.declared.NumberedTask.{NumberedTask}
use Rattle.schedule.specs.declared.Route.{Route}
use Rattle.schedule.specs.declared.Schedule.{Schedule}
use Rattle.schedule.specs.Schedules.{tasks_in, places_of, count_of, routes_in, chains_in, padded, zero_numbered, empty_route, no_route, route_of, schedule_of}
use Rattle.schedule.specs.Arrays.{Arrays}
use Rattle.schedule.specs.Padding.{padded_same, padded_whole, length_padded, padded_at}
use Rattle.schedule_checks.specs.Checks.{places_right}
use Rattle.schedule_checks.proofs.SameSchedule.{SameSchedule}
use Rattle.schedule_checks.proofs.SoundSchedule.{SoundSchedule, placed_cons}
use Rattle.bounded.specs.declared.Bounded.{Bounded}
use Rattle.bounded.specs.Bounded.{cleared_route, cleared_schedule, bounds_in, cleared}

module _ {A : Type 0} (d : A) where
  -- one entry more of the tail is cleared,
  pub clear_step : (n : ℕ) (l : List A) (i : ℕ) → length l ≡ n → i < n → padded n d (take i l) ≡ padded n d (take (i + 1) (set l i d))
  clear_step n l i long h =
      padded_same d n (take i l) (omega (arith, length-take-le i l (omega arith)))
      ∙ ap (padded n d) (sym (ap (λ (k : ℕ). take k (set l i d)) (add-one i) ∙ take-suc-set l i d (omega arith)))

  -- and past the end nothing is left to clear.
  pub clear_end : (n : ℕ) (l : List A) (i : ℕ) → length l ≡ n → n ≤ i → padded n d (take i l) ≡ l
  clear_end n l i long h = ap (padded n d) (take_all i l (omega arith)) ∙ padded_whole d n l (omega arith)

  -- What is below the count stays.
  pub front_cleared : (n : ℕ) (k : ℕ) (l : List A) → length l ≡ n → take k (padded n d (take k l)) ≡ take k l
  unfolding padded
  front_cleared n zero l long = refl
  front_cleared zero (suc k) [] long = refl
  front_cleared zero (suc k) (x ∷ l) long = absurd (omega arith)
  front_cleared (suc n) (suc k) [] long = absurd (omega arith)
  front_cleared (suc n) (suc k) (x ∷ l) long = ap (λ (r : List A). x ∷ r) (front_cleared n k l (omega arith))

  -- The same where the entries below the count are taken over through f.
  pub front_mapped : {B : Type 0} (f : B → A) (n k : ℕ) (l : List B) → length l ≡ n → take k (padded n d (map f (take k l))) ≡ map f (take k l)
  unfolding padded
  front_mapped f n zero l long = refl
  front_mapped f zero (suc k) [] long = refl
  front_mapped f zero (suc k) (x ∷ l) long = absurd (omega arith)
  front_mapped f (suc n) (suc k) [] long = absurd (omega arith)
  front_mapped f (suc n) (suc k) (x ∷ l) long = ap (λ (r : List A). f x ∷ r) (front_mapped f n k l (omega arith))

-- ---- chains

-- each of some routes has its array of twelve places
abbrev Twelve : List Route → Type 0
Twelve rs = (i : ℕ) → i < length rs → length (get_or rs i no_route).places ≡ 12

later_twelve : (r : Route) (rs : List Route) → Twelve (r ∷ rs) → Twelve rs
later_twelve r rs t i h = t (suc i) (omega arith)

counts_stay : (rs : List Route) → map count_of (map cleared_route rs) ≡ map count_of rs
counts_stay [] = refl
counts_stay (r ∷ rs) = ap (λ (l : List ℕ). r.count ∷ l) (counts_stay rs)

places_stay : (rs : List Route) → Twelve rs → map places_of (map cleared_route rs) ≡ map places_of rs
places_stay [] t = refl
places_stay (r ∷ rs) t =
    ap (λ (x : List ℕ). x ∷ map places_of (map cleared_route rs)) (front_cleared 0 12 r.count r.places (t 0 (omega arith)))
    ∙ ap (λ (l : List (List ℕ)). places_of r ∷ l) (places_stay rs (later_twelve r rs t))

routes_twice : (rs : List Route) → Twelve rs → map cleared_route (map cleared_route rs) ≡ map cleared_route rs
routes_twice [] t = refl
routes_twice (r ∷ rs) t =
    ap (λ (x : List ℕ). record { places = padded 12 0 x; count = r.count } ∷ map cleared_route (map cleared_route rs)) (front_cleared 0 12 r.count r.places (t 0 (omega arith)))
    ∙ ap (λ (l : List Route). cleared_route r ∷ l) (routes_twice rs (later_twelve r rs t))

cleared_twelve : (rs : List Route) → Twelve rs → (i : ℕ) → length (get_or (map cleared_route rs) i empty_route).places ≡ 12
cleared_twelve [] t i = refl
cleared_twelve (r ∷ rs) t zero = length_padded 0 12 (places_of r) (omega (arith, length-take r.count r.places, t 0 (omega arith)))
cleared_twelve (r ∷ rs) t (suc i) = cleared_twelve rs (later_twelve r rs t) i

-- ---- schedules

module _ (s : Schedule) (a : Arrays s) where
  in_twelve : Twelve (routes_in s)
  in_twelve i h =
      let n = length-take s.chains s.routes in
      rw (get_or-take s.chains s.routes i no_route (omega arith)) (a.places i (omega (arith, a.routes)))

  routes_in_holds : routes_in (cleared_schedule s) ≡ map cleared_route (routes_in s)
  routes_in_holds = front_mapped empty_route cleared_route 4 s.chains s.routes a.routes

  -- What counts of a schedule stays,
  pub cleared_same : SameSchedule (cleared_schedule s) s
  cleared_same = record {
    count = refl;
    chains = refl;
    tasks = front_cleared zero_numbered 32 s.count s.tasks a.tasks;
    places = ap (map count_of) routes_in_holds ∙ counts_stay (routes_in s);
    numbers = ap (map places_of) routes_in_holds ∙ places_stay (routes_in s) in_twelve;
    gap = refl;
  }

  -- its arrays have their lengths,
  pub cleared_arrays : Arrays (cleared_schedule s)
  cleared_arrays = record {
    tasks = length_padded zero_numbered 32 (tasks_in s) (omega (arith, length-take s.count s.tasks, a.tasks));
    routes = length_padded empty_route 4 (map cleared_route (routes_in s)) (omega (arith, length-map (routes_in s) cleared_route, length-take s.chains s.routes, a.routes));
    places = λ i h. ap (λ (r : Route). length r.places) (padded_at empty_route 4 (map cleared_route (routes_in s)) i no_route h) ∙ cleared_twelve (routes_in s) in_twelve i;
  }

  schedule_twice : cleared_schedule (cleared_schedule s) ≡ cleared_schedule s
  schedule_twice =
      rw (front_cleared zero_numbered 32 s.count s.tasks a.tasks, routes_in_holds, routes_twice (routes_in s) in_twelve)

-- ---- with bounds

-- The arrays have their lengths, as every value of the type has.
pub record BoundedArrays (b : Bounded) : Type 0 where
  pub schedule : Arrays b.schedule
  pub bounds : length b.bounds ≡ 4

module _ (b : Bounded) (a : BoundedArrays b) where
  -- the bounds of the chains stay,
  pub bounds_stay : bounds_in (cleared b) ≡ bounds_in b
  bounds_stay = front_cleared 0 4 b.schedule.chains b.bounds a.bounds

  -- and a second clearing changes nothing.
  pub cleared_twice : cleared (cleared b) ≡ cleared b
  cleared_twice = rw (schedule_twice b.schedule a.schedule, bounds_stay)

  pub cleared_lengths : BoundedArrays (cleared b)
  cleared_lengths = record { schedule = cleared_arrays b.schedule a.schedule; bounds = length_padded 0 4 (bounds_in b) (omega (arith, length-take b.schedule.chains b.bounds, a.bounds)) }

-- ---- what counts

-- Two schedules with bounds agree in all that counts: the counts, the tasks, the chains, the gap, and the bounds of the chains.
pub record Agree (a b : Bounded) : Type 0 where
  pub schedule : SameSchedule a.schedule b.schedule
  pub bounds : bounds_in a ≡ bounds_in b

-- cleared routes by the numbers of places and the task numbers
cleared_by : List ℕ → List (List ℕ) → List Route
cleared_by [] chs = []
cleared_by (n ∷ ns) [] = []
cleared_by (n ∷ ns) (ch ∷ chs) = record { places = padded 12 0 ch; count = n } ∷ cleared_by ns chs

cleared_by_holds : (rs : List Route) → map cleared_route rs ≡ cleared_by (map count_of rs) (map places_of rs)
unfolding cleared_by
cleared_by_holds [] = refl
cleared_by_holds (r ∷ rs) = ap (λ (l : List Route). cleared_route r ∷ l) (cleared_by_holds rs)

pub agree_cleared : (a b : Bounded) → Agree a b → cleared a ≡ cleared b
agree_cleared a b e =
    let s = e.schedule in
    let routes : map cleared_route (routes_in a.schedule) ≡ map cleared_route (routes_in b.schedule)
    = cleared_by_holds (routes_in a.schedule) ∙ ap (λ (ns : List ℕ). cleared_by ns (chains_in a.schedule)) s.places
    ∙ ap (cleared_by (map count_of (routes_in b.schedule))) s.numbers ∙ sym (cleared_by_holds (routes_in b.schedule)) in
    ap (λ (x : List NumberedTask). made x (map cleared_route (routes_in a.schedule)) a.schedule.count a.schedule.chains a.schedule.gap (bounds_in a)) s.tasks
    ∙ ap (λ (x : List Route). made (tasks_in b.schedule) x a.schedule.count a.schedule.chains a.schedule.gap (bounds_in a)) routes
    ∙ ap (λ (x : ℕ). made (tasks_in b.schedule) (map cleared_route (routes_in b.schedule)) x a.schedule.chains a.schedule.gap (bounds_in a)) s.count
    ∙ ap (λ (x : ℕ). made (tasks_in b.schedule) (map cleared_route (routes_in b.schedule)) b.schedule.count x a.schedule.gap (bounds_in a)) s.chains
    ∙ ap (λ (x : ℕ). made (tasks_in b.schedule) (map cleared_route (routes_in b.schedule)) b.schedule.count b.schedule.chains x (bounds_in a)) s.gap
    ∙ ap (made (tasks_in b.schedule) (map cleared_route (routes_in b.schedule)) b.schedule.count b.schedule.chains b.schedule.gap) e.bounds
  where
    made : List NumberedTask → List Route → ℕ → ℕ → ℕ → List ℕ → Bounded
    made ts rs n m g bs = record { schedule = record { tasks = padded 32 zero_numbered ts; routes = padded 4 empty_route rs; count = n; chains = m; gap = g }; bounds = padded 4 0 bs }

module _ (a b : Bounded) (la : BoundedArrays a) (lb : BoundedArrays b) where
  cleared_agree : cleared a ≡ cleared b → Agree a b
  cleared_agree e =
      let x = cleared_same a.schedule la.schedule in
      let y = cleared_same b.schedule lb.schedule in
      record {
        schedule = record {
          count = ap (λ (c : Bounded). c.schedule.count) e;
          chains = ap (λ (c : Bounded). c.schedule.chains) e;
          tasks = sym x.tasks ∙ ap (λ (c : Bounded). tasks_in c.schedule) e ∙ y.tasks;
          places = sym x.places ∙ ap (λ (c : Bounded). map count_of (routes_in c.schedule)) e ∙ y.places;
          numbers = sym x.numbers ∙ ap (λ (c : Bounded). chains_in c.schedule) e ∙ y.numbers;
          gap = ap (λ (c : Bounded). c.schedule.gap) e;
        };
        bounds = sym (bounds_stay a la) ∙ ap bounds_in e ∙ bounds_stay b lb;
      }

  -- They agree in all that counts exactly where they are equal once zeros stand past the counts.
  pub agree_exactly : (Agree a b) ↔ (cleared a ≡ cleared b)
  agree_exactly = (agree_cleared a b, cleared_agree)

-- ---- a sound schedule

counted_routes : (rs : List Route) → Twelve rs → places_right rs ≡ true → map cleared_route rs ≡ map route_of (map places_of rs)
counted_routes [] t h = refl
counted_routes (r ∷ rs) t h =
    let k = placed_cons r rs h in
    ap (λ (n : ℕ). record { places = padded 12 0 (places_of r); count = n } ∷ map cleared_route rs) (sym (length-take-le r.count r.places (omega (arith, t 0 (omega arith), k.1))))
    ∙ ap (λ (l : List Route). route_of (places_of r) ∷ l) (counted_routes rs (later_twelve r rs t) k.2)

-- It is the schedule of its tasks, its chains and its gap, as a file gives it.
pub cleared_sound : (s : Schedule) → Arrays s → SoundSchedule s → cleared_schedule s ≡ schedule_of (tasks_in s) (chains_in s) s.gap
cleared_sound s a k =
    let n : length (tasks_in s) ≡ s.count = length-take-le s.count s.tasks (omega (arith, a.tasks, k.few)) in
    let m : length (chains_in s) ≡ s.chains = length-map (routes_in s) places_of ∙ length-take-le s.chains s.routes (omega (arith, a.routes, k.few_chains)) in
    rw (n, m, counted_routes (routes_in s) (in_twelve s a) k.placed)
