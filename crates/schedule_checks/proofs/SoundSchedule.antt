-- What is known of a schedule that the judge finds sound, and that it finds no other schedule so.
use Rattle.std.specs.Prelude.{ℕ, zero, suc, ◌+◌, ◌≤◌, ◌<◌, ◌≡◌, Bool, cond, List, [], ◌∷◌, map, leb, length, get_or, take}
use Rattle.std.proofs.Common.{arith, get_or-take, length-take-le}
use Rattle.std.proofs.Math.Path.{refl}
use Rattle.std.proofs.Math.Bool.{true, false}
use borrow.Author.Tests.{leb-true, le-leb}
use Rattle.refusal.specs.declared.Refusal.{Refusal}
use Rattle.refusal.specs.Refusals.{refusal, none}
use Rattle.task.specs.Jobs.{gap_limit}
use Rattle.schedule.specs.declared.NumberedTask.{NumberedTask}
use Rattle.schedule.specs.declared.Route.{Route}
use Rattle.schedule.specs.declared.Schedule.{Schedule}
use Rattle.schedule.specs.Schedules.{number_of, tasks_in, routes_in, chains_in, task_rule, no_route}
use Rattle.schedule.specs.Rule.{both}
use Rattle.schedule_checks.specs.Checks.{count_right, places_right, counts_right, first_fault, first_unknown, or_else, unknown_place, fault_at, after_gap, fault_of}

pub record SoundSchedule (s : Schedule) : Type 0 where
  pub some : 1 ≤ s.count
  pub few : s.count ≤ 32
  pub chained : 1 ≤ s.chains
  pub few_chains : s.chains ≤ 4
  pub placed : places_right (routes_in s) ≡ true
  pub tasks_right : first_fault 1 0 (tasks_in s) ≡ 0
  pub permitted : s.gap ≤ gap_limit
  pub places_known : unknown_place (map number_of (tasks_in s)) (chains_in s) ≡ 0

-- ---- counts

pub count_right_holds : (n limit : ℕ) → count_right n limit ≡ true → (1 ≤ n) × (n ≤ limit)
unfolding count_right
count_right_holds n limit h = let b = both (leb 1 n) (leb n limit) h in (leb-true 1 n b.0, leb-true n limit b.1)

pub right_count : (n limit : ℕ) → 1 ≤ n → n ≤ limit → count_right n limit ≡ true
unfolding count_right
right_count n limit a b = rw (le-leb 1 n a, le-leb n limit b)

-- a test under which another stands
first_holds : (a b : Bool) → cond a b false ≡ true → (a ≡ true) × (b ≡ true)
first_holds true b h = (refl, h)
first_holds false b h = absurd (let z : ◌≡◌ {A = ℕ} 0 1 = cc in omega arith)

pub placed_cons : (r : Route) (rs : List Route) → places_right (r ∷ rs) ≡ true → (1 ≤ r.count) × (r.count ≤ 12) × (places_right rs ≡ true)
unfolding places_right
placed_cons r rs h =
    let k = first_holds (count_right r.count 12) (places_right rs) h in
    let n = count_right_holds r.count 12 k.0 in
    (n.0, n.1, k.1)

-- what 8 leaves of a schedule
pub record Counted (s : Schedule) : Type 0 where
  pub some : 1 ≤ s.count
  pub few : s.count ≤ 32
  pub chained : 1 ≤ s.chains
  pub few_chains : s.chains ≤ 4
  pub placed : places_right (routes_in s) ≡ true

pub counted : (s : Schedule) → counts_right s ≡ true → Counted s
unfolding counts_right
counted s e =
    let a = first_holds (count_right s.count 32) (cond (count_right s.chains 4) (places_right (routes_in s)) false) e in
    let b = first_holds (count_right s.chains 4) (places_right (routes_in s)) a.1 in
    let n = count_right_holds s.count 32 a.0 in
    let m = count_right_holds s.chains 4 b.0 in
    record { some = n.0; few = n.1; chained = m.0; few_chains = m.1; placed = b.1 }

-- each chain has its 1 to 12 places
pub placed_at : (rs : List Route) → places_right rs ≡ true → (i : ℕ) → i < length rs → (1 ≤ (get_or rs i no_route).count) × ((get_or rs i no_route).count ≤ 12)
placed_at [] h i g = absurd (omega arith)
placed_at (r ∷ rs) h zero g = let k = placed_cons r rs h in (k.0, k.1)
placed_at (r ∷ rs) h (suc i) g = placed_at rs (placed_cons r rs h).2 i (omega arith)

-- so of the first `chains` routes of an array
pub placed_front : (rs : List Route) (chains : ℕ) → chains ≤ length rs → places_right (take chains rs) ≡ true → (i : ℕ) → i < chains → (1 ≤ (get_or rs i no_route).count) × ((get_or rs i no_route).count ≤ 12)
placed_front rs chains g h i k =
    let n = length-take-le chains rs g in
    rw (get_or-take chains rs i no_route k) at (placed_at (take chains rs) h i (omega arith))

-- ---- positions

-- no fault from position p on: the first task keeps the rule, and there is none after it
pub fault_cons : (p before : ℕ) (t : NumberedTask) (ts : List NumberedTask) → 1 ≤ p → first_fault p before (t ∷ ts) ≡ 0 → (task_rule before t ≡ true) × (first_fault (p + 1) t.number ts ≡ 0)
unfolding first_fault
fault_cons p before t ts pos h = go (task_rule before t) refl h
  where
    go : (b : Bool) → task_rule before t ≡ b → cond b (first_fault (p + 1) t.number ts) p ≡ 0 → (task_rule before t ≡ true) × (first_fault (p + 1) t.number ts ≡ 0)
    go true e k = (e, k)
    go false e k = absurd (omega arith)

-- nothing was found, and nothing comes after
none_found : (p q : ℕ) → or_else p q ≡ 0 → (p ≡ 0) × (q ≡ 0)
none_found zero q h = (refl, h)
none_found (suc p) q h = absurd (omega arith)

pub known_cons : (ns ch : List ℕ) (chs : List (List ℕ)) → unknown_place ns (ch ∷ chs) ≡ 0 → (first_unknown 1 ns ch ≡ 0) × (unknown_place ns chs ≡ 0)
unfolding unknown_place
known_cons ns ch chs h = none_found (first_unknown 1 ns ch) (unknown_place ns chs) h

-- every chain's numbers are known
pub known_at : (ns : List ℕ) (chs : List (List ℕ)) → unknown_place ns chs ≡ 0 → (i : ℕ) → i < length chs → first_unknown 1 ns (get_or chs i []) ≡ 0
known_at ns [] h i g = absurd (omega arith)
known_at ns (ch ∷ chs) h zero g = (known_cons ns ch chs h).0
known_at ns (ch ∷ chs) h (suc i) g = known_at ns chs (known_cons ns ch chs h).1 i (omega arith)

-- ---- the judge

no_fault : (k p : ℕ) (r : Refusal) → 1 ≤ k → (fault_at k p r).number ≡ 0 → (p ≡ 0) × (r.number ≡ 0)
no_fault k zero r pos h = (refl, h)
no_fault k (suc p) r pos h = absurd (omega arith)

no_gap_fault : (g : ℕ) (r : Refusal) → (after_gap g r).number ≡ 0 → (g ≤ gap_limit) × (r.number ≡ 0)
unfolding after_gap
no_gap_fault g r = go (leb g gap_limit) refl
  where
    go : (b : Bool) → leb g gap_limit ≡ b → (cond b r (refusal 5 0)).number ≡ 0 → (g ≤ gap_limit) × (r.number ≡ 0)
    go true e h = (leb-true g gap_limit e, h)
    go false e h = absurd (omega arith)

module _ (s : Schedule) where
  pub sound : (fault_of s).number ≡ 0 → SoundSchedule s
  unfolding fault_of
  sound = go (counts_right s) refl
    where
      go : (b : Bool) → counts_right s ≡ b
          → (cond b (fault_at 5 (first_fault 1 0 (tasks_in s)) (after_gap s.gap (fault_at 6 (unknown_place (map number_of (tasks_in s)) (chains_in s)) none))) (refusal 8 0)).number ≡ 0
          → SoundSchedule s
      go false e h = absurd (omega arith)
      go true e h =
          let k = counted s e in
          let t = no_fault 5 (first_fault 1 0 (tasks_in s)) _ (omega arith) h in
          let g = no_gap_fault s.gap _ t.1 in
          let u = no_fault 6 (unknown_place (map number_of (tasks_in s)) (chains_in s)) _ (omega arith) g.1 in
          record { some = k.some; few = k.few; chained = k.chained; few_chains = k.few_chains; placed = k.placed; tasks_right = t.0; permitted = g.0; places_known = u.0 }

  -- What is so is found sound: number 0 at place 0.
  pub no_refusal : SoundSchedule s → fault_of s ≡ none
  unfolding fault_of counts_right after_gap
  no_refusal k =
      rw (right_count s.count 32 k.some k.few, right_count s.chains 4 k.chained k.few_chains, k.placed, k.tasks_right, le-leb s.gap gap_limit k.permitted, k.places_known)
