-- Tasks, chains and a gap that writing accepts and reading ends with.
use Rattle.std.specs.Prelude.{ℕ, zero, suc, ◌+◌, ◌-◌, ◌≤◌, ◌<◌, ◌≡◌, refl, Bool, true, false, cond, List, [], ◌∷◌, ◌++◌, map, eqb, length, get_or}
use Rattle.std.proofs.Common.{arith, ap, ◌∙◌, length-take-le, eqb-true}
use Rattle.little_endian.specs.LittleEndian.{power}
use Rattle.task.specs.Jobs.{gap_limit}
use Rattle.schedule.specs.declared.NumberedTask.{NumberedTask}
use Rattle.schedule.specs.declared.Route.{Route}
use Rattle.schedule.specs.Schedules.{number_of, task_rule, known, places_of, no_route, route_of, empty_route}
use Rattle.schedule.specs.Padding.{take_padded, length_padded}
use Rattle.schedule.specs.Rule.{rule}
use Rattle.file_reader.specs.Reading.{last_of, all_known}
use Rattle.schedule_checks.specs.Checks.{places_right, first_fault, first_unknown, unknown_place}
use Rattle.schedule_checks.proofs.SoundSchedule.{right_count, placed_cons, known_cons, fault_cons}
use Rattle.round_trip.specs.RecordBytes.{FitsTask, Small, none, more}

-- Each chain has 1 to 12 places, with numbers of tasks.
pub data Placed (ns : List ℕ) : List (List ℕ) → Type 0 where
  no_chain_holds : Placed ns []
  one_more : {ch : List ℕ} {chs : List (List ℕ)} → 1 ≤ length ch → length ch ≤ 12 → first_unknown 1 ns ch ≡ 0 → Placed ns chs → Placed ns (ch ∷ chs)

pub record Right (ts : List NumberedTask) (chs : List (List ℕ)) (g : ℕ) : Type 0 where
  pub some : 1 ≤ length ts
  pub few : length ts ≤ 32
  pub tasks_right : first_fault 1 0 ts ≡ 0
  pub chained : 1 ≤ length chs
  pub few_chains : length chs ≤ 4
  pub placed : Placed (map number_of ts) chs
  pub permitted : g ≤ gap_limit

-- a chain more, after the last
pub placed_snoc : (ns : List ℕ) (chs : List (List ℕ)) (ch : List ℕ) → Placed ns chs → 1 ≤ length ch → length ch ≤ 12 → first_unknown 1 ns ch ≡ 0 → Placed ns (chs ++ (ch ∷ []))
placed_snoc ns [] ch no_chain_holds a b k = one_more a b k no_chain_holds
placed_snoc ns (x ∷ chs) ch (one_more c d e r) a b k = one_more c d e (placed_snoc ns chs ch r a b k)

-- of routes whose counts the judge finds right, and whose numbers it knows
pub placed_routes : (ns : List ℕ) (rs : List Route) → ((i : ℕ) → i < length rs → length (get_or rs i no_route).places ≡ 12) → places_right rs ≡ true → unknown_place ns (map places_of rs) ≡ 0 → Placed ns (map places_of rs)
placed_routes ns [] twelve h u = no_chain_holds
placed_routes ns (r ∷ rs) twelve h u =
    let k = placed_cons r rs h in
    let w = known_cons ns (places_of r) (map places_of rs) u in
    let n : length (places_of r) ≡ r.count = length-take-le r.count r.places (omega (arith, twelve 0 (omega arith), k.1)) in
    one_more {ch = places_of r} (omega (arith, k.0)) (omega (arith, k.1)) w.0 (placed_routes ns rs (λ i g. twelve (suc i) (omega arith)) k.2 w.1)

-- and back: routes of such chains
pub routes_placed : (ns : List ℕ) (chs : List (List ℕ)) → Placed ns chs → places_right (map route_of chs) ≡ true
unfolding places_right
routes_placed ns [] no_chain_holds = refl
routes_placed ns (ch ∷ chs) (one_more a b u r) = rw (right_count (length ch) 12 a b) (routes_placed ns chs r)

pub routes_known : (ns : List ℕ) (chs : List (List ℕ)) → Placed ns chs → unknown_place ns chs ≡ 0
unfolding unknown_place
routes_known ns [] no_chain_holds = refl
routes_known ns (ch ∷ chs) (one_more a b u r) = rw u (routes_known ns chs r)

-- such a route has the chain's places
pub routes_same : (ns : List ℕ) (chs : List (List ℕ)) → Placed ns chs → map places_of (map route_of chs) ≡ chs
routes_same ns [] no_chain_holds = refl
routes_same ns (ch ∷ chs) (one_more a b u r) = ap (λ (x : List ℕ). x ∷ map places_of (map route_of chs)) (take_padded 0 12 ch b) ∙ ap (λ (x : List (List ℕ)). ch ∷ x) (routes_same ns chs r)

pub routes_twelve : (ns : List ℕ) (chs : List (List ℕ)) → Placed ns chs → (i : ℕ) → length (get_or (map route_of chs) i empty_route).places ≡ 12
routes_twelve ns [] no_chain_holds i = refl
routes_twelve ns (ch ∷ chs) (one_more a b u r) zero = length_padded 0 12 ch b
routes_twelve ns (ch ∷ chs) (one_more a b u r) (suc i) = routes_twelve ns chs r i

pub routes_few : (ns : List ℕ) (chs : List (List ℕ)) → Placed ns chs → (i : ℕ) → (get_or (map route_of chs) i empty_route).count ≤ 12
routes_few ns [] no_chain_holds i = omega arith
routes_few ns (ch ∷ chs) (one_more a b u r) zero = b
routes_few ns (ch ∷ chs) (one_more a b u r) (suc i) = routes_few ns chs r i

-- ---- the rule of a task

-- the values of a task that keeps the rule fit their fields
pub rule_fits : (before : ℕ) (t : NumberedTask) → task_rule before t ≡ true → FitsTask t
unfolding power
rule_fits before t h =
    let r = rule before t h in
    record {
      number = omega (arith, r.number_max);
      period = omega (arith, r.within.period_max);
      duration = omega (arith, r.within.duration_max);
      phase = omega (arith, r.within.phase_max);
    }

-- a task more, after the last
last_of_holds : ℕ → List NumberedTask → ℕ
last_of_holds before [] = before
last_of_holds before (t ∷ ts) = last_of_holds t.number ts

fault_more : (p before : ℕ) (ts : List NumberedTask) (t : NumberedTask) → 1 ≤ p → first_fault p before ts ≡ 0 → task_rule (last_of_holds before ts) t ≡ true → first_fault p before (ts ++ (t ∷ [])) ≡ 0
unfolding first_fault last_of_holds
fault_more p before [] t pos h r = rw r
fault_more p before (x ∷ ts) t pos h r =
    let k = fault_cons p before x ts pos h in
    rw k.0 (fault_more (p + 1) x.number ts t (omega arith) k.1 r)

last_is : (x : NumberedTask) (ts : List NumberedTask) → last_of (map number_of (x ∷ ts)) ≡ last_of_holds x.number ts
unfolding last_of_holds
last_is x [] = refl
last_is x (y ∷ ts) =
    let e : suc (suc (length (map number_of ts))) - 1 ≡ suc (suc (length (map number_of ts)) - 1) = omega arith in
    ap (λ (i : ℕ). get_or (x.number ∷ y.number ∷ map number_of ts) i 0) e ∙ last_is y ts

last_from : (ts : List NumberedTask) → last_of (map number_of ts) ≡ last_of_holds 0 ts
unfolding last_of_holds
last_from [] = refl
last_from (x ∷ ts) = last_is x ts

pub fault_snoc : (ts : List NumberedTask) (t : NumberedTask) → first_fault 1 0 ts ≡ 0 → task_rule (last_of (map number_of ts)) t ≡ true → first_fault 1 0 (ts ++ (t ∷ [])) ≡ 0
fault_snoc ts t h r = fault_more 1 0 ts t (omega arith) h (rw (last_from ts) at r)

-- ---- the numbers of a chain

-- none is unknown exactly where all are known
pub unknown_all : (p : ℕ) (ns ch : List ℕ) → 1 ≤ p → first_unknown p ns ch ≡ 0 → all_known ns ch ≡ true
unfolding first_unknown all_known
unknown_all p ns [] pos h = refl
unknown_all p ns (n ∷ ch) pos h = go (known ns n) h (unknown_all (p + 1) ns ch (omega arith))
  where
    go : (b : Bool) → cond b (first_unknown (p + 1) ns ch) p ≡ 0 → (first_unknown (p + 1) ns ch ≡ 0 → all_known ns ch ≡ true) → cond b (all_known ns ch) false ≡ true
    go true k f = f k
    go false k f = absurd (omega arith)

pub all_unknown : (p : ℕ) (ns ch : List ℕ) → all_known ns ch ≡ true → first_unknown p ns ch ≡ 0
unfolding first_unknown all_known
all_unknown p ns [] h = refl
all_unknown p ns (n ∷ ch) h = go (known ns n) h (all_unknown (p + 1) ns ch)
  where
    go : (b : Bool) → cond b (all_known ns ch) false ≡ true → (all_known ns ch ≡ true → first_unknown (p + 1) ns ch ≡ 0) → cond b (first_unknown (p + 1) ns ch) p ≡ 0
    go true k f = f k
    go false k f = absurd (let z : ◌≡◌ {A = ℕ} 0 1 = cc in omega arith)

-- a number of a task that keeps the rule is small, so every number of such a chain is
known_small : (p before : ℕ) (ts : List NumberedTask) (n : ℕ) → 1 ≤ p → first_fault p before ts ≡ 0 → known (map number_of ts) n ≡ true → n < 65536
unfolding known
known_small p before [] n pos f h = absurd (let z : ◌≡◌ {A = ℕ} 0 1 = cc in omega arith)
known_small p before (t ∷ ts) n pos f h =
    let k = fault_cons p before t ts pos f in
    go (eqb t.number n) refl h (rule before t k.0).number_max (known_small (p + 1) t.number ts n (omega arith) k.1)
  where
    go : (b : Bool) → eqb t.number n ≡ b → cond b true (known (map number_of ts) n) ≡ true → t.number ≤ 65535 → (known (map number_of ts) n ≡ true → n < 65536) → n < 65536
    go true e k s r = omega (arith, eqb-true t.number n e)
    go false e k s r = r k

pub chain_small : (ts : List NumberedTask) (ch : List ℕ) → first_fault 1 0 ts ≡ 0 → all_known (map number_of ts) ch ≡ true → Small ch
unfolding all_known
chain_small ts [] f h = none
chain_small ts (n ∷ ch) f h = go (known (map number_of ts) n) refl h (chain_small ts ch f)
  where
    go : (b : Bool) → known (map number_of ts) n ≡ b → cond b (all_known (map number_of ts) ch) false ≡ true → (all_known (map number_of ts) ch ≡ true → Small ch) → Small (n ∷ ch)
    go true e k r = more (known_small 1 0 ts n (omega arith) f e) (r k)
    go false e k r = absurd (let z : ◌≡◌ {A = ℕ} 0 1 = cc in omega arith)
