-- The lists that C gets of a schedule give the schedule back (`schedule_given_back`), and lists that hold the same numbers at the counted places
-- give the same tasks and chains (`same_tasks`, `same_counts`, `same_places`).
use Rattle.std.specs.Prelude.{ℕ, zero, suc, ◌+◌, ◌-◌, ◌*◌, ◌/◌, ◌%◌, ◌≤◌, ◌<◌, ◌≡◌, refl, Bool, true, false, cond, ◌&&◌, List, [], ◌∷◌, ◌++◌, map, leb, eqb, length, get_or, take}
use Rattle.std.proofs.Common.{arith, sym, ap, ◌∙◌, take-add, drop-cons, ext_get_or, get_or-take, length-take-le}
use borrow.Author.Tests.{le-leb, leb-true}
use Rattle.chain.specs.Flat.{flat_of, length_flat, flat_more}
use Rattle.ranges.specs.Entries.{entries_length, entries_at, entries_are, entries_front, map_front}
use Rattle.schedule.specs.declared.NumberedTask.{NumberedTask}
use Rattle.schedule.specs.declared.Route.{Route}
use Rattle.schedule.specs.declared.Schedule.{Schedule}
use Rattle.schedule.specs.Schedules.{places_of, count_of, no_route, zero_numbered}
use Rattle.schedule.specs.Arrays.{Arrays}
use Rattle.capi_schedule.specs.FlatSchedule.{numbered_at, tasks_from, count_from, held_from, place_from, places_from, route_from, routes_from, schedule_from, numbered_fields, flat_tasks, place_in, flat_routes, count_in, route_counts}

-- The arrays of a schedule from lists have their lengths.
pub from_arrays : (ts : List ℕ) (n : ℕ) (ch pl : List ℕ) (m g : ℕ) → Arrays (schedule_from ts n ch pl m g)
from_arrays ts n ch pl m g = record {
  tasks = entries_length (numbered_at ts) 0 32;
  routes = entries_length (route_from ch pl) 0 4;
  places = λ i h. ap (λ (r : Route). length r.places) (entries_at (route_from ch pl) no_route 4 i h) ∙ entries_length (place_from ch (12 * i)) 0 12;
}

-- ---- tasks

-- four numbers of the list are a task
fields_at : (ts : List NumberedTask) (i : ℕ) → i < length ts
    → ◌≡◌ {A = NumberedTask} (record { number = get_or (flat_tasks ts) (4 * i) 0; task = record { period = get_or (flat_tasks ts) (4 * i + 1) 0; duration = get_or (flat_tasks ts) (4 * i + 2) 0; phase = get_or (flat_tasks ts) (4 * i + 3) 0 } })
    (get_or ts i zero_numbered)
unfolding flat_of
fields_at [] i h = absurd (omega arith)
fields_at (t ∷ ts) zero h = refl
fields_at (t ∷ ts) (suc i) h =
    let a : 4 * suc i + 1 ≡ suc (suc (suc (suc (4 * i + 1)))) = omega arith in
    let b : 4 * suc i + 2 ≡ suc (suc (suc (suc (4 * i + 2)))) = omega arith in
    let c : 4 * suc i + 3 ≡ suc (suc (suc (suc (4 * i + 3)))) = omega arith in
    let e : 4 * suc i ≡ suc (suc (suc (suc (4 * i)))) = omega arith in
    rw (a, b, c, e) (fields_at ts i (omega arith))

numbered_at_holds : (ts : List NumberedTask) (i : ℕ) → i < length ts → numbered_at (flat_tasks ts) i ≡ get_or ts i zero_numbered
unfolding numbered_at
numbered_at_holds ts i h = rw (le-leb (4 * i + 4) (length (flat_tasks ts)) (omega (arith, length_flat numbered_fields 4 (λ x. refl) ts))) (fields_at ts i h)

count_back_holds : (n : ℕ) → n ≤ 32 → count_from 128 n ≡ n
unfolding count_from
count_back_holds n h = rw (le-leb n 32 h)

-- four numbers more of a list
four_more : (l : List ℕ) (k : ℕ) → k + 4 ≤ length l → take (k + 4) l ≡ take k l ++ (get_or l k 0 ∷ get_or l (k + 1) 0 ∷ get_or l (k + 2) 0 ∷ get_or l (k + 3) 0 ∷ [])
four_more l k h =
    let a : k + 1 ≡ suc k = omega arith in
    let b : k + 2 ≡ suc (suc k) = omega arith in
    let c : k + 3 ≡ suc (suc (suc k)) = omega arith in
    take-add k 4 l ∙ rw (drop-cons l k 0 (omega arith), drop-cons l (suc k) 0 (omega arith), drop-cons l (suc (suc k)) 0 (omega arith), drop-cons l (suc (suc (suc k))) 0 (omega arith), a, b, c)

-- of a list that holds them, the flat list of the first n tasks is its own front
pub front_tasks : (ts : List ℕ) (n : ℕ) → n ≤ 32 → 4 * n ≤ length ts → flat_tasks (take n (tasks_from ts)) ≡ take (4 * n) ts
unfolding flat_of numbered_at
front_tasks ts zero h g = refl
front_tasks ts (suc n) h g =
    let m : 4 * suc n ≡ 4 * n + 4 = omega arith in
    let at = entries_at (numbered_at ts) zero_numbered 32 n (omega arith) in
    flat_more numbered_fields 4 (λ x. refl) zero_numbered (tasks_from ts) n (omega (arith, entries_length (numbered_at ts) 0 32))
    ∙ ap (λ (x : NumberedTask). flat_tasks (take n (tasks_from ts)) ++ numbered_fields x) at
    ∙ rw (le-leb (4 * n + 4) (length ts) (omega arith), m) (ap (λ (r : List ℕ). r ++ (get_or ts (4 * n) 0 ∷ get_or ts (4 * n + 1) 0 ∷ get_or ts (4 * n + 2) 0 ∷ get_or ts (4 * n + 3) 0 ∷ [])) (front_tasks ts n (omega arith) (omega arith)) ∙ sym (four_more ts (4 * n) (omega arith)))

-- two lists that hold the same numbers of the first n tasks hold the same tasks
module _ (ts us : List ℕ) (k : ℕ) (a : k ≤ length ts) (b : k ≤ length us) (same : take k us ≡ take k ts) where
  same_at : (i : ℕ) → i < k → get_or us i 0 ≡ get_or ts i 0
  same_at i h = sym (get_or-take k us i 0 h) ∙ ap (λ (l : List ℕ). get_or l i 0) same ∙ get_or-take k ts i 0 h

  numbered_same : (i : ℕ) → 4 * i + 4 ≤ k → numbered_at us i ≡ numbered_at ts i
  unfolding numbered_at
  numbered_same i h =
      rw (le-leb (4 * i + 4) (length us) (omega arith), le-leb (4 * i + 4) (length ts) (omega arith), same_at (4 * i) (omega arith), same_at (4 * i + 1) (omega arith), same_at (4 * i + 2) (omega arith), same_at (4 * i + 3) (omega arith))

pub same_tasks : (ts us : List ℕ) (n : ℕ) → n ≤ 32 → 4 * n ≤ length ts → 4 * n ≤ length us → take (4 * n) us ≡ take (4 * n) ts → take n (tasks_from us) ≡ take n (tasks_from ts)
same_tasks ts us n h a b same =
    let x : length (take n (tasks_from us)) ≡ n = length-take-le n (tasks_from us) (omega (arith, entries_length (numbered_at us) 0 32)) in
    let y : length (take n (tasks_from ts)) ≡ n = length-take-le n (tasks_from ts) (omega (arith, entries_length (numbered_at ts) 0 32)) in
    ext_get_or zero_numbered (take n (tasks_from us)) (take n (tasks_from ts)) (x ∙ sym y)
    (λ i g. get_or-take n (tasks_from us) i zero_numbered (omega arith) ∙ entries_at (numbered_at us) zero_numbered 32 i (omega arith) ∙ numbered_same ts us (4 * n) a b same i (omega arith)
    ∙ sym (get_or-take n (tasks_from ts) i zero_numbered (omega arith) ∙ entries_at (numbered_at ts) zero_numbered 32 i (omega arith)))

pub count_fits : (long n : ℕ) → count_from long n ≡ n → 4 * n ≤ long
unfolding count_from
count_fits long n = go (eqb (long % 4) 0) (leb n (long / 4)) refl
  where
    go : (x y : Bool) → leb n (long / 4) ≡ y → cond (x && y) n 0 ≡ n → 4 * n ≤ long
    go true true e h = omega (arith, leb-true n (long / 4) e)
    go true false e h = omega arith
    go false y e h = omega arith

-- a count that is not 0 is the one given
pub count_is : (long n : ℕ) → 1 ≤ count_from long n → count_from long n ≡ n
unfolding count_from
count_is long n = go (eqb (long % 4) 0 && leb n (long / 4))
  where
    go : (x : Bool) → 1 ≤ cond x n 0 → cond x n 0 ≡ n
    go true h = refl
    go false h = absurd (omega arith)

-- ---- chains

pub held_back : (long n : ℕ) → n ≤ long → held_from long n ≡ n
unfolding held_from
held_back long n h = rw (le-leb n long h)

-- a count that is not 0 is the one given
pub held_is : (long n : ℕ) → 1 ≤ held_from long n → held_from long n ≡ n
unfolding held_from
held_is long n = go (leb n long)
  where
    go : (x : Bool) → 1 ≤ cond x n 0 → cond x n 0 ≡ n
    go true h = refl
    go false h = absurd (omega arith)

pub flat_long : (rs : List Route) → length (flat_routes rs) ≡ 48
flat_long rs = entries_length (place_in rs) 0 48

-- place i of chain c
pub flat_at : (rs : List Route) (c i : ℕ) → c < 4 → i < 12 → get_or (flat_routes rs) (12 * c + i) 0 ≡ get_or (get_or rs c no_route).places i 0
flat_at rs c i h g =
    let q : (12 * c + i) / 12 ≡ c = omega arith in
    let r : (12 * c + i) % 12 ≡ i = omega arith in
    entries_at (place_in rs) 0 48 (12 * c + i) (omega arith) ∙ ap (λ (x : ℕ). get_or (get_or rs x no_route).places ((12 * c + i) % 12) 0) q ∙ ap (λ (x : ℕ). get_or (get_or rs c no_route).places x 0) r

pub count_at : (rs : List Route) (c : ℕ) → c < 4 → get_or (route_counts rs) c 0 ≡ (get_or rs c no_route).count
count_at rs c h = entries_at (count_in rs) 0 4 c h

module _ (rs : List Route) (four : length rs ≡ 4) (twelve : (c : ℕ) → c < 4 → length (get_or rs c no_route).places ≡ 12) (few : (c : ℕ) → c < 4 → (get_or rs c no_route).count ≤ 12) where
  route_back : (c : ℕ) → c < 4 → route_from (flat_routes rs) (route_counts rs) c ≡ get_or rs c no_route
  route_back c h =
      let r = get_or rs c no_route in
      let n : length (flat_routes rs) ≡ 48 = flat_long rs in
      let p = entries_are (place_from (flat_routes rs) (12 * c)) 0 r.places 12 (twelve c h) (λ i g. flat_at rs c i h g) in
      let k = ap (held_from (length (flat_routes rs) - 12 * c)) (count_at rs c h) ∙ held_back (length (flat_routes rs) - 12 * c) r.count (omega (arith, few c h)) in
      rw (p, k)

  routes_back : routes_from (flat_routes rs) (route_counts rs) ≡ rs
  routes_back = entries_are (route_from (flat_routes rs) (route_counts rs)) no_route rs 4 four route_back

-- C gets the schedule back, where its counts are inside their limits
pub schedule_given_back : (s : Schedule) → Arrays s → s.count ≤ 32 → s.chains ≤ 4 → ((c : ℕ) → c < 4 → (get_or s.routes c no_route).count ≤ 12)
    → schedule_from (flat_tasks s.tasks) s.count (flat_routes s.routes) (route_counts s.routes) s.chains s.gap ≡ s
schedule_given_back s a few few_chains few_places =
    let n : length (flat_tasks s.tasks) ≡ 128 = length_flat numbered_fields 4 (λ x. refl) s.tasks ∙ ap (λ (x : ℕ). 4 * x) a.tasks in
    let t = entries_are (numbered_at (flat_tasks s.tasks)) zero_numbered s.tasks 32 a.tasks (λ i h. numbered_at_holds s.tasks i (omega (arith, a.tasks))) in
    let c = routes_back s.routes a.routes a.places few_places in
    let k = ap (λ (x : ℕ). count_from x s.count) n ∙ count_back_holds s.count few in
    let m = ap (λ (x : ℕ). held_from x s.chains) (entries_length (count_in s.routes) 0 4) ∙ held_back 4 s.chains few_chains in
    rw (t, c, k, m)

-- Other lists of chains and of their numbers of places that hold the same m chains: as many places each, which they hold, and the same numbers at them.
pub record SameChains (m : ℕ) (chains places chains' places' : List ℕ) : Type 0 where
  pub counts : (c : ℕ) → c < m → get_or places' c 0 ≡ get_or places c 0
  pub held : (c : ℕ) → c < m → held_from (length chains' - 12 * c) (get_or places c 0) ≡ get_or places c 0
  pub numbers : (c i : ℕ) → c < m → i < get_or places c 0 → get_or chains' (12 * c + i) 0 ≡ get_or chains (12 * c + i) 0

-- `counted` says that the first lists hold their own chains
module _ (m : ℕ) (chains places chains' places' : List ℕ) (counted : (c : ℕ) → c < m → held_from (length chains - 12 * c) (get_or places c 0) ≡ get_or places c 0) (same : SameChains m chains places chains' places') where
  counted' : (c : ℕ) → c < m → (route_from chains' places' c).count ≡ get_or places c 0
  counted' c h = ap (held_from (length chains' - 12 * c)) (same.counts c h) ∙ same.held c h

  same_count : (c : ℕ) → c < m → (route_from chains' places' c).count ≡ (route_from chains places c).count
  same_count c h = counted' c h ∙ sym (counted c h)

  same_numbers : (c : ℕ) → c < m → places_of (route_from chains' places' c) ≡ places_of (route_from chains places c)
  same_numbers c h =
      ap (λ (k : ℕ). take k (places_from chains' (12 * c))) (counted' c h)
      ∙ entries_front (place_from chains' (12 * c)) (place_from chains (12 * c)) (get_or places c 0) 0 12 (λ i a b. same.numbers c i h (omega arith))
      ∙ ap (λ (k : ℕ). take k (places_from chains (12 * c))) (sym (counted c h))

  pub same_counts : map count_of (take m (routes_from chains' places')) ≡ map count_of (take m (routes_from chains places))
  same_counts = map_front count_of (route_from chains' places') (route_from chains places) m 0 4 (λ c a b. same_count c (omega arith))

  pub same_places : map places_of (take m (routes_from chains' places')) ≡ map places_of (take m (routes_from chains places))
  same_places = map_front places_of (route_from chains' places') (route_from chains places) m 0 4 (λ c a b. same_numbers c (omega arith))
