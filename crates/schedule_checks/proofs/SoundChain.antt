-- A chain of a sound schedule passes 8 and 5: of the checks of a chain only 7 can refuse it (`sound_chain`).
use Rattle.std.specs.Prelude.{ℕ, ◌+◌, ◌-◌, ◌≤◌, ◌<◌, ◌≡◌, refl, Bool, true, false, cond, List, [], ◌∷◌, map, eqb, length, get_or}
use Rattle.std.proofs.Common.{arith, sym, ap, ◌∙◌, get_or-take, length-take-le}
use Rattle.std.proofs.lemmas.List.{length-map}
use Rattle.std.proofs.Math.ListN.{get_or-map}
use Rattle.task.specs.Jobs.{within_limits}
use Rattle.task.proofs.LinkLaws.{limits_hold}
use Rattle.chain.specs.Chains.{given_of, tasks_of}
use Rattle.chain.specs.Checks as checks
use Rattle.chain.specs.Checks.{hyper_verdict, verdict_of}
use Rattle.chain.proofs.CheckLaws.{check_hyper}
use Rattle.schedule.specs.declared.NumberedTask.{NumberedTask}
use Rattle.schedule.specs.declared.Route.{Route}
use Rattle.schedule.specs.declared.Schedule.{Schedule}
use Rattle.schedule.specs.Schedules.{number_of, tasks_in, places_of, routes_in, chains_in, known, task_numbered, no_route, route_numbered, chain_at}
use Rattle.schedule.specs.Arrays.{Arrays}
use Rattle.schedule.specs.Rule.{rule}
use Rattle.schedule.specs.ChainTasks.{route_there, chain_tasks, chain_length, chain_twelve}
use Rattle.schedule_checks.specs.Checks.{first_fault, first_unknown}
use Rattle.schedule_checks.proofs.SoundSchedule.{SoundSchedule, fault_cons, placed_front, known_at}

-- the task with a known number is within its limits
known_within : (p before : ℕ) (ts : List NumberedTask) (n : ℕ) → 1 ≤ p → first_fault p before ts ≡ 0 → known (map number_of ts) n ≡ true → within_limits (task_numbered ts n) ≡ true
unfolding known task_numbered
known_within p before [] n pos f h = absurd (let z : ◌≡◌ {A = ℕ} 0 1 = cc in omega arith)
known_within p before (t ∷ ts) n pos f h =
    let k = fault_cons p before t ts pos f in
    go (eqb t.number n) h (limits_hold t.task (rule before t k.0).within) (known_within (p + 1) t.number ts n (omega arith) k.1)
  where
    go : (b : Bool) → cond b true (known (map number_of ts) n) ≡ true → within_limits t.task ≡ true → (known (map number_of ts) n ≡ true → within_limits (task_numbered ts n) ≡ true)
        → within_limits (cond b t.task (task_numbered ts n)) ≡ true
    go true h w r = w
    go false h w r = r h

-- so a chain of known numbers has no fault
chain_right : (ts : List NumberedTask) (ch : List ℕ) (p q : ℕ) → 1 ≤ p → first_fault 1 0 ts ≡ 0 → first_unknown p (map number_of ts) ch ≡ 0 → checks.first_fault q (map (task_numbered ts) ch) ≡ 0
unfolding first_unknown checks.first_fault
chain_right ts [] p q pos f h = refl
chain_right ts (n ∷ ch) p q pos f h = go (known (map number_of ts) n) refl h (chain_right ts ch (p + 1) (q + 1) (omega arith) f)
  where
    go : (b : Bool) → known (map number_of ts) n ≡ b → cond b (first_unknown (p + 1) (map number_of ts) ch) p ≡ 0
        → (first_unknown (p + 1) (map number_of ts) ch ≡ 0 → checks.first_fault (q + 1) (map (task_numbered ts) ch) ≡ 0)
        → cond (within_limits (task_numbered ts n)) (checks.first_fault (q + 1) (map (task_numbered ts) ch)) q ≡ 0
    go true e k r = rw (known_within 1 0 ts n (omega arith) f e) (r k)
    go false e k r = absurd (omega arith)

-- Chain n of a sound schedule.
module _ (s : Schedule) (a : Arrays s) (k : SoundSchedule s) (n : ℕ) (some : 1 ≤ n) (few : n ≤ s.chains) where
  abbrev route : Route
  route = route_numbered (routes_in s) n

  is_there : route ≡ get_or s.routes (n - 1) no_route
  is_there = route_there s n some few

  in_range : n - 1 < length (routes_in s)
  in_range = omega (arith, length-take-le s.chains s.routes (omega (arith, a.routes, k.few_chains)))

  in_front : get_or (routes_in s) (n - 1) no_route ≡ route
  in_front = get_or-take s.chains s.routes (n - 1) no_route (omega arith) ∙ sym is_there

  pub sound_route : length route.places ≡ 12
  sound_route = rw is_there (a.places (n - 1) (omega (arith, k.few_chains)))

  -- it has an array of twelve tasks,
  pub sound_twelve : length (chain_at s n).tasks ≡ 12
  sound_twelve = chain_twelve s.gap (tasks_in s) route sound_route

  -- 1 to 12 places,
  pub sound_placed : (1 ≤ route.count) × (route.count ≤ 12)
  sound_placed = rw is_there (placed_front s.routes s.chains (omega (arith, a.routes, k.few_chains)) k.placed (n - 1) (omega arith))

  pub sound_length : length (tasks_of (chain_at s n)) ≡ route.count
  sound_length = chain_length s.gap (tasks_in s) route sound_route sound_placed.1

  -- each with a known number,
  pub sound_known : first_unknown 1 (map number_of (tasks_in s)) (places_of route) ≡ 0
  sound_known =
      let e = known_at (map number_of (tasks_in s)) (chains_in s) k.places_known (n - 1) (rw (length-map (routes_in s) places_of) in_range) in
      ap (first_unknown 1 (map number_of (tasks_in s))) (sym (get_or-map places_of (routes_in s) (n - 1) no_route ∙ ap places_of in_front)) ∙ e

  -- so the verdict is that of its hyperperiod.
  pub sound_chain : verdict_of (chain_at s n) ≡ hyper_verdict (tasks_of (chain_at s n))
  sound_chain =
      let p = sound_placed in
      let e = ap (checks.first_fault 1) (chain_tasks s.gap (tasks_in s) route sound_route p.1) ∙ chain_right (tasks_in s) (places_of route) 1 1 (omega arith) k.tasks_right sound_known in
      sym (check_hyper route.count s.gap (given_of (chain_at s n)) p.0 p.1 (sym e) k.permitted)
