-- What is looked at of a schedule: its counts, its tasks, its chains, its gap. Entries past a count are not looked at, by the judge (`fault_same`), by the choice of a chain (`chosen_same`)
-- and by the analyses (`after_same`).
use Rattle.std.specs.Prelude.{◌≡◌, refl, Bool, true, false, cond, List, [], ◌∷◌, map, ℕ, zero, suc, get_or}
use Rattle.std.proofs.Common.{sym, ap, ◌∙◌}
use Rattle.std.proofs.Math.ListN.{get_or-map}
use Rattle.refusal.specs.declared.Refusal.{Refusal}
use Rattle.refusal.specs.Refusals.{refusal, none}
use Rattle.chain.specs.declared.Chain.{Chain}
use Rattle.chain.specs.Chains.{zero_task}
use Rattle.schedule.specs.declared.NumberedTask.{NumberedTask}
use Rattle.schedule.specs.declared.Route.{Route}
use Rattle.schedule.specs.declared.Schedule.{Schedule}
use Rattle.schedule.specs.Schedules.{number_of, tasks_in, places_of, count_of, routes_in, chains_in, task_numbered, padded, no_route, route_numbered, chain_at}
use Rattle.schedule_checks.specs.Checks.{count_right, places_right, counts_right, first_fault, unknown_place, fault_at, after_gap, fault_of, choice_of, chosen_of, after_choice}

pub record SameSchedule (s t : Schedule) : Type 0 where
  pub count : s.count ≡ t.count
  pub chains : s.chains ≡ t.chains
  pub tasks : tasks_in s ≡ tasks_in t
  pub places : map count_of (routes_in s) ≡ map count_of (routes_in t)
  pub numbers : chains_in s ≡ chains_in t
  pub gap : s.gap ≡ t.gap

-- entry n of a list, counted from 1, or d
numbered : {A : Type 0} → List A → ℕ → A → A
numbered l zero d = d
numbered l (suc i) d = get_or l i d

-- the judge by what it looks at
all_right : List ℕ → Bool
all_right [] = true
all_right (n ∷ l) = cond (count_right n 12) (all_right l) false

places_by : (rs : List Route) → places_right rs ≡ all_right (map count_of rs)
unfolding places_right all_right
places_by [] = refl
places_by (r ∷ rs) = ap (λ (b : Bool). cond (count_right r.count 12) b false) (places_by rs)

fault_by : ℕ → ℕ → List NumberedTask → List ℕ → List (List ℕ) → ℕ → Refusal
fault_by n m ts ps chs g =
    cond (cond (count_right n 32) (cond (count_right m 4) (all_right ps) false) false)
    (fault_at 5 (first_fault 1 0 ts) (after_gap g (fault_at 6 (unknown_place (map number_of ts) chs) none)))
    (refusal 8 0)

fault_by_holds : (s : Schedule) → fault_of s ≡ fault_by s.count s.chains (tasks_in s) (map count_of (routes_in s)) (chains_in s) s.gap
unfolding fault_of counts_right fault_by
fault_by_holds s = rw (places_by (routes_in s))

pub fault_same : (s t : Schedule) → SameSchedule s t → fault_of s ≡ fault_of t
fault_same s t e =
    fault_by_holds s ∙ ap (λ (x : ℕ). fault_by x s.chains (tasks_in s) (map count_of (routes_in s)) (chains_in s) s.gap) e.count
    ∙ ap (λ (x : ℕ). fault_by t.count x (tasks_in s) (map count_of (routes_in s)) (chains_in s) s.gap) e.chains
    ∙ ap (λ (x : List NumberedTask). fault_by t.count t.chains x (map count_of (routes_in s)) (chains_in s) s.gap) e.tasks
    ∙ ap (λ (x : List ℕ). fault_by t.count t.chains (tasks_in t) x (chains_in s) s.gap) e.places
    ∙ ap (λ (x : List (List ℕ)). fault_by t.count t.chains (tasks_in t) (map count_of (routes_in t)) x s.gap) e.numbers
    ∙ ap (fault_by t.count t.chains (tasks_in t) (map count_of (routes_in t)) (chains_in t)) e.gap ∙ sym (fault_by_holds t)

-- So does the choice of a chain: the chain is that of the counted tasks, its count, its numbers and the gap.
numbered_map : {A : Type 0} (f : Route → A) (rs : List Route) (n : ℕ) → f (route_numbered rs n) ≡ numbered (map f rs) n (f no_route)
unfolding route_numbered numbered
numbered_map f rs zero = refl
numbered_map f rs (suc i) = sym (get_or-map f rs i no_route)

chain_by : List NumberedTask → ℕ → List ℕ → ℕ → Chain
chain_by ts n ch g = record { tasks = padded 12 zero_task (map (task_numbered ts) ch); places = n; gap = g }

chain_by_holds : (s : Schedule) (n : ℕ) → chain_at s n ≡ chain_by (tasks_in s) (numbered (map count_of (routes_in s)) n 0) (numbered (chains_in s) n []) s.gap
unfolding chain_by
chain_by_holds s n =
    ap (λ (ch : List ℕ). chain_by (tasks_in s) (route_numbered (routes_in s) n).count ch s.gap) (numbered_map places_of (routes_in s) n)
    ∙ ap (λ (k : ℕ). chain_by (tasks_in s) k (numbered (chains_in s) n []) s.gap) (numbered_map count_of (routes_in s) n)

module _ (s t : Schedule) (e : SameSchedule s t) (n : ℕ) where
  pub chain_same : chain_at s n ≡ chain_at t n
  chain_same =
      chain_by_holds s n ∙ ap (λ (x : List NumberedTask). chain_by x (numbered (map count_of (routes_in s)) n 0) (numbered (chains_in s) n []) s.gap) e.tasks
      ∙ ap (λ (x : List ℕ). chain_by (tasks_in t) (numbered x n 0) (numbered (chains_in s) n []) s.gap) e.places
      ∙ ap (λ (x : List (List ℕ)). chain_by (tasks_in t) (numbered (map count_of (routes_in t)) n 0) (numbered x n []) s.gap) e.numbers
      ∙ ap (chain_by (tasks_in t) (numbered (map count_of (routes_in t)) n 0) (numbered (chains_in t) n [])) e.gap ∙ sym (chain_by_holds t n)

  pub choice_same : choice_of s n ≡ choice_of t n
  unfolding choice_of
  choice_same = rw (fault_same s t e, e.chains)

  pub chosen_same : chosen_of s n ≡ chosen_of t n
  unfolding chosen_of
  chosen_same = rw (choice_same, chain_same)

  -- and every analysis from a schedule.
  pub after_same : {A : Type 0} (refused : Refusal → A) (answer : Chain → A) → after_choice s n refused answer ≡ after_choice t n refused answer
  unfolding after_choice
  after_same refused answer = rw (choice_same, chain_same)
