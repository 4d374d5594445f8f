-- The schedule with a moved task: its chains have that task's phase at all its places and are else as they were (`moved_chain`). It passes 8, 5 and 6 as before, and 7 says of each of its chains
-- what it said (`moved_sound`, `moved_verdict`), so no check is done again. And the answer of a schedule's chain is that of its tasks and numbers (`in_list`).
use Rattle.std.specs.Prelude.{ℕ, ◌+◌, ◌≤◌, ◌<◌, Bool, leb, eqb, length, get_or, Err, Ok, Option, Result}
use Rattle.std.proofs.Common.{arith, ◌∙◌}
use Rattle.std.proofs.Math.Decide.{ℕ_discrete}
use Rattle.std.proofs.Math.Path.{◌≡◌, refl, sym, ap}
use Rattle.std.proofs.Math.Bool.{true, false, cond}
use mathlib.Core.List.{List, [], ◌∷◌, map}
use Rattle.std.proofs.lemmas.List.{length-map}
use borrow.Author.Tests.{eq-eqb, ne_eqb, le-leb, lt-ltb}
use Rattle.refusal.specs.declared.Refusal.{Refusal}
use Rattle.refusal.specs.Refusals.{refusal, none}
use Rattle.ranges.proofs.LeastLaws.{least_same}
use Rattle.task.specs.declared.Task.{Task}
use Rattle.task.specs.Jobs.{Within}
use Rattle.task.proofs.LinkLaws.{limits_hold}
use Rattle.chain.specs.Chains.{given_of, placed, tasks_of, zero_task}
use Rattle.chain.specs.Checks.{hyper_verdict, verdict_for, verdict_of, verdict_in}
use Rattle.chain.specs.Hyperperiod.{hyper_of}
use Rattle.schedule.specs.declared.NumberedTask.{NumberedTask}
use Rattle.schedule.specs.declared.Route.{Route}
use Rattle.schedule.specs.declared.Schedule.{Schedule}
use Rattle.schedule.specs.Schedules.{number_of, tasks_in, routes_in, task_rule, position_of, known, task_numbered, route_numbered, chain_at}
use Rattle.schedule.specs.Arrays.{Arrays}
use Rattle.schedule.specs.Padding.{map_at}
use Rattle.schedule.specs.Rule.{rule}
use Rattle.schedule.specs.ChainTasks.{chain_tasks}
use Rattle.schedule.proofs.PlaceLaws.{map_take}
use Rattle.schedule_checks.specs.Checks.{first_fault, first_unknown, choice_of}
use Rattle.schedule_checks.proofs.SoundSchedule.{SoundSchedule, fault_cons, no_refusal}
use Rattle.schedule_checks.proofs.SoundChain.{sound_placed, sound_length, sound_known, sound_chain, sound_route}
use Rattle.schedule_checks.proofs.ChosenChain.{choice_sound, choice_there, choice_answers}
use Rattle.latency.specs.Latency.{greatest_latency}
use Rattle.phase.specs.Phases.{phased, with_phase, moved, keeps_bound, found_at, smallest_of, period_of, places_at, phase_after, phase_from}
use Rattle.phase.specs.MovedTasks.{moved_at, moved_hyper}
use Rattle.phase.specs.InList.{keeps_in, period_in, judged_in, after_verdict, phase_in, Filled}

-- ---- a list of tasks, one of which moves

module _ (n F : ℕ) where
  moved_number : (t : NumberedTask) → (with_phase n F t).number ≡ t.number
  moved_number t = go (eqb t.number n)
    where
      go : (b : Bool) → (cond b (record { number = t.number; task = phased F t.task }) t).number ≡ t.number
      go true = refl
      go false = refl

  numbers_same : (ts : List NumberedTask) → map number_of (map (with_phase n F) ts) ≡ map number_of ts
  numbers_same [] = refl
  numbers_same (t ∷ ts) = rw (moved_number t, numbers_same ts)

  -- the task with another number stays,
  stays : (ts : List NumberedTask) (m : ℕ) → (m ≡ n → ⊥) → task_numbered (map (with_phase n F) ts) m ≡ task_numbered ts m
  unfolding task_numbered
  stays [] m h = refl
  stays (t ∷ ts) m h = rw (moved_number t) (elim (ℕ_discrete t.number m) [
    | yes e ↦ rw (eq-eqb t.number m e, ne_eqb t.number n (λ q. h (sym e ∙ q)))
    | no e ↦ rw (ne_eqb t.number m e) (stays ts m h)
  ])

  -- and the task with this number has phase F.
  moves : (ts : List NumberedTask) → known (map number_of ts) n ≡ true → task_numbered (map (with_phase n F) ts) n ≡ phased F (task_numbered ts n)
  unfolding task_numbered known
  moves [] h = absurd (let z : ◌≡◌ {A = ℕ} 0 1 = cc in omega arith)
  moves (t ∷ ts) h = rw (moved_number t) (elim (ℕ_discrete t.number n) [
    | yes e ↦ rw (eq-eqb t.number n e)
    | no e ↦ rw (ne_eqb t.number n e) (moves ts (rw (ne_eqb t.number n e) at h))
  ])

  -- No task's period changes.
  pub period_stays : (ts : List NumberedTask) (m : ℕ) → (task_numbered (map (with_phase n F) ts) m).period ≡ (task_numbered ts m).period
  unfolding task_numbered
  period_stays [] m = refl
  period_stays (t ∷ ts) m = rw (moved_number t) (go (eqb t.number m) (eqb t.number n) (period_stays ts m))
    where
      go : (a b : Bool) → (task_numbered (map (with_phase n F) ts) m).period ≡ (task_numbered ts m).period
          → (cond a (cond b (record { number = t.number; task = phased F t.task }) t).task (task_numbered (map (with_phase n F) ts) m)).period ≡ (cond a t.task (task_numbered ts m)).period
      go true true e = refl
      go true false e = refl
      go false b e = e

  -- the tasks at the places of a chain
  moved_places : (ts : List NumberedTask) (places : List ℕ) → (known places n ≡ true → known (map number_of ts) n ≡ true)
      → map (task_numbered (map (with_phase n F) ts)) places ≡ moved_at n F places (map (task_numbered ts) places)
  unfolding moved_at known
  moved_places ts [] h = refl
  moved_places ts (m ∷ places) h = elim (ℕ_discrete m n) [
    | yes e ↦
        let k : known (map number_of ts) n ≡ true = h (rw (eq-eqb m n e)) in
        rw (eq-eqb m n e, moved_places ts places (λ q. k), e, moves ts k)
    | no e ↦ rw (ne_eqb m n e, moved_places ts places (λ q. h (rw (ne_eqb m n e) q)), stays ts m e)
  ]

  -- the rule of each task
  rule_stays : F ≤ 1000000 → (before : ℕ) (t : NumberedTask) → task_rule before t ≡ true → task_rule before (with_phase n F t) ≡ true
  unfolding task_rule
  rule_stays f before t h = go (eqb t.number n)
    where
      within : Within (phased F t.task)
      within = let w = (rule before t h).within in record { period_pos = w.period_pos; period_max = w.period_max; duration_pos = w.duration_pos; duration_max = w.duration_max; phase_max = f }

      go : (b : Bool) → task_rule before (cond b (record { number = t.number; task = phased F t.task }) t) ≡ true
      go true = let r = rule before t h in rw (lt-ltb before t.number r.above, le-leb t.number 65535 r.number_max, limits_hold (phased F t.task) within)
      go false = h

  rules_stay : F ≤ 1000000 → (p before : ℕ) (ts : List NumberedTask) → 1 ≤ p → first_fault p before ts ≡ 0 → first_fault p before (map (with_phase n F) ts) ≡ 0
  unfolding first_fault
  rules_stay f p before [] pos h = refl
  rules_stay f p before (t ∷ ts) pos h =
      let k = fault_cons p before t ts pos h in
      rw (rule_stays f before t k.0, moved_number t) (rules_stay f (p + 1) t.number ts (omega arith) k.1)

-- a task that is moved twice is where it was moved last
phase_again : (n E F : ℕ) (t : NumberedTask) → with_phase n F (with_phase n E t) ≡ with_phase n F t
phase_again n E F t = go (eqb t.number n) refl
  where
    go : (b : Bool) → eqb t.number n ≡ b → with_phase n F (cond b (record { number = t.number; task = phased E t.task }) t) ≡ cond b (record { number = t.number; task = phased F t.task }) t
    go true e = rw e
    go false e = rw e

tasks_again : (n E F : ℕ) (ts : List NumberedTask) → map (with_phase n F) (map (with_phase n E) ts) ≡ map (with_phase n F) ts
tasks_again n E F [] = refl
tasks_again n E F (t ∷ ts) = ap (λ (x : NumberedTask). x ∷ map (with_phase n F) (map (with_phase n E) ts)) (phase_again n E F t) ∙ ap (λ (l : List NumberedTask). with_phase n F t ∷ l) (tasks_again n E F ts)

-- so the phase of today does not matter to what it is moved to
pub moved_twice : (s : Schedule) (number E F : ℕ) → moved (moved s number E) number F ≡ moved s number F
moved_twice s number E F =
    ap (λ (ts : List NumberedTask). schedule ts) (tasks_again number E F s.tasks)
  where
    schedule : List NumberedTask → Schedule
    schedule ts = record { tasks = ts; routes = s.routes; count = s.count; chains = s.chains; gap = s.gap }

-- a number of a chain whose numbers are all known is known
place_known : (numbers : List ℕ) (places : List ℕ) (p n : ℕ) → 1 ≤ p → first_unknown p numbers places ≡ 0 → known places n ≡ true → known numbers n ≡ true
unfolding first_unknown known
place_known numbers [] p n pos h k = absurd (let z : ◌≡◌ {A = ℕ} 0 1 = cc in omega arith)
place_known numbers (m ∷ places) p n pos h k = go (known numbers m) refl h (place_known numbers places (p + 1) n (omega arith))
  where
    go : (b : Bool) → known numbers m ≡ b → cond b (first_unknown (p + 1) numbers places) p ≡ 0 → (first_unknown (p + 1) numbers places ≡ 0 → known places n ≡ true → known numbers n ≡ true)
        → known numbers n ≡ true
    go false e q on = absurd (omega arith)
    go true e q on = elim (ℕ_discrete m n) [
      | yes z ↦ ap (known numbers) (sym z) ∙ e
      | no z ↦ on q (rw (ne_eqb m n z) at k)
    ]

-- ---- the schedule

module _ (s : Schedule) (number F : ℕ) where
  pub tasks_moved : tasks_in (moved s number F) ≡ map (with_phase number F) (tasks_in s)
  tasks_moved = sym (map_take (with_phase number F) s.count s.tasks)

  pub moved_arrays : Arrays s → Arrays (moved s number F)
  moved_arrays a = record { tasks = length-map s.tasks (with_phase number F) ∙ a.tasks; routes = a.routes; places = a.places }

  -- It passes 8, 5 and 6.
  pub moved_sound : F ≤ 1000000 → SoundSchedule s → SoundSchedule (moved s number F)
  moved_sound f k = record {
    some = k.some;
    few = k.few;
    chained = k.chained;
    few_chains = k.few_chains;
    placed = k.placed;
    tasks_right = rw tasks_moved (rules_stay number F f 1 0 (tasks_in s) (omega arith) k.tasks_right);
    permitted = k.permitted;
    places_known = rw (tasks_moved, numbers_same number F (tasks_in s)) k.places_known;
  }

  -- So the choice of every chain number is the same,
  pub moved_choices : F ≤ 1000000 → SoundSchedule s → (m : ℕ) → choice_of (moved s number F) m ≡ choice_of s m
  unfolding choice_of
  moved_choices f k m = rw (no_refusal (moved s number F) (moved_sound f k), no_refusal s k)

  module _ (n : ℕ) (a : Arrays s) where
    -- and one that is chosen is chosen.
    pub moved_choice : F ≤ 1000000 → (choice_of s n).number ≡ 0 → choice_of (moved s number F) n ≡ none
    moved_choice f e = let k = choice_sound s n e in choice_there (moved s number F) n (moved_sound f k.0) k.1 k.2

    module _ (k : SoundSchedule s) (low : 1 ≤ n) (high : n ≤ s.chains) where
      abbrev route : Route
      route = route_numbered (routes_in s) n

      -- its tasks are those of the numbers at its places,
      given : given_of (chain_at s n) ≡ map (task_numbered (tasks_in s)) (places_at s n)
      given = chain_tasks s.gap (tasks_in s) route (sound_route s a k n low high) (sound_placed s a k n low high).1

      given_moved : given_of (chain_at (moved s number F) n) ≡ map (task_numbered (map (with_phase number F) (tasks_in s))) (places_at s n)
      given_moved =
          chain_tasks s.gap (tasks_in (moved s number F)) route (sound_route s a k n low high) (sound_placed s a k n low high).1
          ∙ ap (λ (ts : List NumberedTask). map (task_numbered ts) (places_at s n)) tasks_moved

      -- moved at the places of the task with this number,
      pub moved_chain : tasks_of (chain_at (moved s number F) n) ≡ placed s.gap (moved_at number F (places_at s n) (given_of (chain_at s n)))
      moved_chain =
          ap (placed s.gap)
          (given_moved
          ∙ moved_places number F (tasks_in s) (places_at s n) (place_known (map number_of (tasks_in s)) (places_at s n) 1 number (omega arith) (sound_known s a k n low high))
          ∙ ap (moved_at number F (places_at s n)) (sym given))

      -- and 7 says of it what it said.
      pub moved_verdict : F ≤ 1000000 → verdict_of (chain_at (moved s number F) n) ≡ verdict_of (chain_at s n)
      unfolding hyper_verdict
      moved_verdict f =
          let e : hyper_of (tasks_of (chain_at (moved s number F) n)) ≡ hyper_of (tasks_of (chain_at s n))
          = ap hyper_of moved_chain ∙ moved_hyper number s.gap F (places_at s n) (given_of (chain_at s n)) in
          sound_chain (moved s number F) (moved_arrays a) (moved_sound f k) n low high
          ∙ ap (λ (h : ℕ). cond (leb h 60000000) (Ok h) (Err (refusal 7 0))) e
          ∙ sym (sound_chain s a k n low high)

-- ---- the answer, by the tasks and numbers at the places

-- the task at the first place with a number is the task with that number
pub position_task : (f : ℕ → Task) (places : List ℕ) (n : ℕ) → known places n ≡ true → get_or (map f places) (position_of n places) zero_task ≡ f n
unfolding position_of known
position_task f [] n h = absurd (let z : ◌≡◌ {A = ℕ} 0 1 = cc in omega arith)
position_task f (m ∷ places) n h = elim (ℕ_discrete m n) [
  | yes e ↦ rw (eq-eqb m n e) (ap f e)
  | no e ↦ rw (ne_eqb m n e) (position_task f places n (rw (ne_eqb m n e) at h))
]

module _ (s : Schedule) (a : Arrays s) (n : ℕ) (chosen : (choice_of s n).number ≡ 0) where
  abbrev k : SoundSchedule s
  k = (choice_sound s n chosen).0

  abbrev low : 1 ≤ n
  low = (choice_sound s n chosen).1

  abbrev high : n ≤ s.chains
  high = (choice_sound s n chosen).2

  abbrev places : List ℕ
  places = places_at s n

  abbrev tasks : List Task
  tasks = given_of (chain_at s n)

  abbrev f : ℕ → Task
  f = task_numbered (tasks_in s)

  pub tasks_are : tasks ≡ map f places
  tasks_are = given s 0 0 n a k low high

  pub places_filled : Filled places tasks
  places_filled = rw tasks_are record {
    long = sym (length-map places f);
    same = λ i j g h e.
        let x : i < length places = omega (arith, length-map places f) in
        let y : j < length places = omega (arith, length-map places f) in
        map_at f places i 0 zero_task x ∙ ap f e ∙ sym (map_at f places j 0 zero_task y);
  }

  pub places_few : (1 ≤ (chain_at s n).places) × ((chain_at s n).places ≤ 12)
  places_few = sound_placed s a k n low high

  -- one chain has as many tasks as places
  verdict_in_holds : verdict_in s.gap tasks ≡ verdict_of (chain_at s n)
  verdict_in_holds = ap (λ (c : ℕ). verdict_for c s.gap tasks) (sym (length-map tasks _) ∙ sound_length s a k n low high)

  module _ (number bound : ℕ) where
    pub keeps_same : (F : ℕ) → keeps_in s.gap places tasks number bound F ≡ keeps_bound s n number bound F
    keeps_same F = ap (λ (l : List _). leb (greatest_latency l) bound) (sym (moved_chain s number F n a k low high))

    judged_same : judged_in s.gap places tasks number bound
        ≡ cond (known places number) (cond (leb (period_of s number) 10000) (smallest_of (keeps_bound s n number bound) (period_of s number)) (Err (refusal 20 0))) (Err (refusal 19 0))
    unfolding judged_in
    judged_same = go (known places number) refl
      where
        smallest : (T : ℕ) → smallest_of (keeps_in s.gap places tasks number bound) T ≡ smallest_of (keeps_bound s n number bound) T
        smallest T = ap (found_at T) (least_same (keeps_in s.gap places tasks number bound) (keeps_bound s n number bound) T 0 (λ F u v. keeps_same F))

        go : (b : Bool) → known places number ≡ b
            → cond b (cond (leb (period_in places tasks number) 10000) (smallest_of (keeps_in s.gap places tasks number bound) (period_in places tasks number)) (Err (refusal 20 0))) (Err (refusal 19 0))
            ≡ cond b (cond (leb (period_of s number) 10000) (smallest_of (keeps_bound s n number bound) (period_of s number)) (Err (refusal 20 0))) (Err (refusal 19 0))
        go false e = refl
        go true e =
            let p : period_in places tasks number ≡ period_of s number = ap (λ (l : List Task). (get_or l (position_of number places) zero_task).period) tasks_are ∙ ap (λ (t : Task). t.period) (position_task f places number e) in
            ap (λ (T : ℕ). cond (leb T 10000) (smallest_of (keeps_in s.gap places tasks number bound) T) (Err (refusal 20 0))) p
            ∙ ap (λ (x : Result (Option ℕ) Refusal). cond (leb (period_of s number) 10000) x (Err (refusal 20 0))) (smallest (period_of s number))

    pub in_list : phase_from s n number bound ≡ phase_in s.gap places tasks number bound
    unfolding phase_after after_verdict
    in_list = choice_answers s n Err _ chosen ∙ go (verdict_of (chain_at s n)) ∙ ap (after_verdict s.gap places tasks number bound) (sym verdict_in_holds)
      where
        go : (v : Result ℕ Refusal) → phase_after s n number bound v ≡ after_verdict s.gap places tasks number bound v
        go (Err r) = refl
        go (Ok h) = sym judged_same
