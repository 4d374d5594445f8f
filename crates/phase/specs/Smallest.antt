-- Order 9 in the customer's words, of what the call answers: a phase is answered exactly where it is the smallest from 0 to period − 1 that keeps the bound (`smallest_phase`), `none` exactly where there is
-- none (`none_exactly`). With the phase found no delay is above the bound, and with each smaller one there is such a delay (`kept`, `broken`); every completed table has the greatest latency that was compared (`table_keeps`). The phase of today does not matter (`phase_today`).
-- Phases from the period on add nothing: each is as good as its remainder (`phase_remainder`), so `none` is said of every permitted phase (`none_at_all`).
use Rattle.std.specs.Prelude.{ℕ, ◌+◌, ◌%◌, ◌≤◌, ◌<◌, ◌≡◌, ◌↔◌, Bool, List, length, get_or, Err, None, Ok, Option, Result, Some}
use Rattle.std.specs.Int.{◌∣◌}
use Rattle.std.proofs.Common.{arith, mod-lt, sym, ap, ◌∙◌, subst, true≢false}
use Rattle.std.proofs.Math.Decide.{dec_lt}
use Rattle.std.proofs.Math.Nat.{dvd_antisymm, dvd_refl}
use Rattle.std.proofs.Math.Path.{refl}
use Rattle.std.proofs.Math.Bool.{true, false, cond}
use Rattle.std.proofs.Math.Dec.{leb}
use Rattle.std.proofs.lemmas.List.{length-map}
use borrow.Author.Tests.{le-leb, leb-true, leb-false}
use Rattle.refusal.specs.declared.Refusal.{Refusal}
use Rattle.refusal.specs.Refusals.{refusal}
use Rattle.ranges.proofs.LeastLaws.{least_same}
use Rattle.euclid.specs.Divisor.{gcd_of}
use Rattle.euclid.proofs.LeastMultiple.{gcd_left, gcd_greatest}
use Rattle.task.specs.declared.Task.{Task}
use Rattle.task.specs.declared.Place.{Place}
use Rattle.task.specs.Jobs.{place_of}
use Rattle.chain.specs.declared.Chain.{Chain}
use Rattle.chain.specs.Chains.{given_of, placed, tasks_of, zero_task}
use Rattle.chain.specs.Placed.{at_placed}
use Rattle.chain.specs.Checks.{Sound, verdict_of}
use Rattle.chain.specs.Hyperperiod.{hyper_of}
use Rattle.chain.specs.Multiples.{hyper_multiple, hyper_pos}
use Rattle.chain.proofs.CheckLaws.{Facts, accepted}
use Rattle.schedule.specs.declared.NumberedTask.{NumberedTask}
use Rattle.schedule.specs.declared.Schedule.{Schedule}
use Rattle.schedule.specs.Schedules.{tasks_in, position_of, known, task_numbered, chain_at}
use Rattle.schedule.specs.Arrays.{Arrays}
use Rattle.schedule.specs.Padding.{map_at}
use Rattle.schedule.specs.Numbers.{unknown_position}
use Rattle.schedule_checks.specs.Checks.{choice_of}
use Rattle.schedule_checks.proofs.ChosenChain.{chosen_twelve, choice_sound, choice_answers, answer_chosen}
use Rattle.timing.specs.WarmUp.{warm_tick}
use Rattle.timing.specs.Delay.{delay_at}
use Rattle.figures.specs.Figures.{greatest_of}
use Rattle.maker.specs.declared.Figures.{Figures}
use Rattle.maker.specs.Making.{Makes}
use Rattle.latency.specs.Latency.{greatest_latency}
use Rattle.latency.specs.GreatestDelay.{greatest_latency_is, table_greatest}
use Rattle.phase.specs.Phases.{moved, keeps_bound, found_at, smallest_of, period_of, places_at, phase_after, phase_from}
use Rattle.phase.specs.Search.{SmallestPhase, NoPhase, smallest_found, none_there, found_smallest, none_smallest, test_remainder}
use Rattle.phase.specs.PhasesRepeat.{Periods, phases_repeat}
use Rattle.phase.specs.MovedTasks.{moved_at}
use Rattle.phase.specs.MovedSchedule.{tasks_moved, period_stays, moved_twice, moved_choice, moved_verdict, moved_arrays, keeps_same, places_filled, tasks_are, position_task}

-- A press from the warm-up tick on that waits longer than the bound.
pub record LatePress (l : List Place) (bound : ℕ) : Type 0 where
  pub press : ℕ
  pub warm : warm_tick l ≤ press
  pub late : bound < delay_at l press

-- What the checks leave: a chain of the schedule that 7 accepts, a task of that chain, with a period up to 10,000.
pub record Passed (s : Schedule) (n number : ℕ) : Type 0 where
  pub chosen : (choice_of s n).number ≡ 0
  pub hyper : ℕ
  pub accepted : verdict_of (chain_at s n) ≡ Ok hyper
  pub there : known (places_at s n) number ≡ true
  pub short : period_of s number ≤ 10000

module _ (s : Schedule) (n number bound : ℕ) where
  -- Where the checks pass, the answer is the search's,
  pub passed_answer : Passed s n number → phase_from s n number bound ≡ smallest_of (keeps_bound s n number bound) (period_of s number)
  unfolding phase_after
  passed_answer k =
      choice_answers s n Err _ k.chosen
      ∙ rw (k.accepted, k.there, le-leb (period_of s number) 10000 k.short)

  -- and where it is no refusal, they pass.
  answer_passed : (p : Result (Option ℕ) Refusal) → ((r : Refusal) → Err r ≡ p → ⊥) → phase_from s n number bound ≡ p → Passed s n number
  unfolding phase_after
  answer_passed p other e =
      let c = answer_chosen s n Err _ p other e in
      go c (verdict_of (chain_at s n)) refl (sym (choice_answers s n Err _ c) ∙ e)
    where
      go : (choice_of s n).number ≡ 0 → (v : Result ℕ Refusal) → verdict_of (chain_at s n) ≡ v → phase_after s n number bound v ≡ p → Passed s n number
      go c (Err r) f h = absurd (other r h)
      go c (Ok x) f h = judge (known (places_at s n) number) refl (leb (period_of s number) 10000) refl h
        where
          judge : (b : Bool) → known (places_at s n) number ≡ b → (d : Bool) → leb (period_of s number) 10000 ≡ d
              → cond b (cond d (smallest_of (keeps_bound s n number bound) (period_of s number)) (Err (refusal 20 0))) (Err (refusal 19 0)) ≡ p → Passed s n number
          judge true q true w h = record { chosen = c; hyper = x; accepted = f; there = q; short = leb-true (period_of s number) 10000 w }
          judge true q false w h = absurd (other (refusal 20 0) h)
          judge false q d w h = absurd (other (refusal 19 0) h)

  no_refusal_of : (F : ℕ) (r : Refusal) → Err r ≡ Ok (Some F) → ⊥
  no_refusal_of F r h = let z : ◌≡◌ {A = ℕ} 0 1 = cc in omega arith

  no_refusal_none : (r : Refusal) → ◌≡◌ {A = Result (Option ℕ) Refusal} (Err r) (Ok None) → ⊥
  no_refusal_none r h = let z : ◌≡◌ {A = ℕ} 0 1 = cc in omega arith

  -- "the smallest phase from 0 to period − 1 with which the chain's greatest latency is at most the bound",
  pub smallest_phase : (F : ℕ) → (phase_from s n number bound ≡ Ok (Some F)) ↔ (Passed s n number × SmallestPhase (keeps_bound s n number bound) (period_of s number) F)
  smallest_phase F = (
    λ e. let k = answer_passed (Ok (Some F)) (no_refusal_of F) e in (k, found_smallest (keeps_bound s n number bound) (period_of s number) F (sym (passed_answer k) ∙ e)),
    λ p. passed_answer p.0 ∙ smallest_found (keeps_bound s n number bound) (period_of s number) F p.1,
  )

  -- "or `none` exactly when there is no such phase."
  pub none_exactly : (phase_from s n number bound ≡ Ok None) ↔ (Passed s n number × NoPhase (keeps_bound s n number bound) (period_of s number))
  none_exactly = (
    λ e. let k = answer_passed (Ok None) no_refusal_none e in (k, none_smallest (keeps_bound s n number bound) (period_of s number) (sym (passed_answer k) ∙ e)),
    λ p. passed_answer p.0 ∙ none_there (keeps_bound s n number bound) (period_of s number) p.1,
  )

-- ---- what a phase that keeps the bound means

module _ (s : Schedule) (a : Arrays s) (n number : ℕ) (k : Passed s n number) (F : ℕ) (small : F ≤ 1000000) where
  abbrev c : Chain
  c = chain_at (moved s number F) n

  -- the moved schedule's chain is accepted too,
  pub moved_facts : Facts c k.hyper
  moved_facts =
      let w = choice_sound s n k.chosen in
      accepted c k.hyper (chosen_twelve (moved s number F) n (moved_arrays s number F a) (ap (λ (r : Refusal). r.number) (moved_choice s number F n a small k.chosen)))
      (moved_verdict s number F n a w.0 w.1 w.2 small ∙ k.accepted)

  -- so with a phase that keeps the bound no press from the warm-up tick on waits longer,
  pub kept : (bound : ℕ) → keeps_bound s n number bound F ≡ true → (t : ℕ) → warm_tick (tasks_of c) ≤ t → delay_at (tasks_of c) t ≤ bound
  kept bound e t h = omega (arith, (greatest_latency_is (tasks_of c) moved_facts.passes.sound).bound t h, leb-true (greatest_latency (tasks_of c)) bound e)

  -- with one that does not some press does,
  pub broken : (bound : ℕ) → keeps_bound s n number bound F ≡ false → LatePress (tasks_of c) bound
  broken bound e =
      let g = greatest_latency_is (tasks_of c) moved_facts.passes.sound in
      record { press = g.at; warm = g.late; late = omega (arith, g.meets, leb-false (greatest_latency (tasks_of c)) bound e) }

  -- and every completed table of the chain has that greatest latency.
  pub table_keeps : (p : ℕ) (starts latencies starts' latencies' : List ℕ) (f : Figures) → Makes c p starts latencies starts' latencies' (Ok f)
      → greatest_of starts' latencies' f.anchors f.hyperperiod ≡ Ok (greatest_latency (tasks_of c))
  table_keeps p starts latencies starts' latencies' f makes =
      table_greatest c (chosen_twelve (moved s number F) n (moved_arrays s number F a) (ap (λ (r : Refusal). r.number) (moved_choice s number F n a small k.chosen))) p starts latencies starts' latencies' f makes

-- ---- the phase of today

-- A task that has another permitted phase today has the same answer.
pub phase_today : (s : Schedule) → Arrays s → (n number bound : ℕ) → Passed s n number → (E : ℕ) → E ≤ 1000000 → phase_from (moved s number E) n number bound ≡ phase_from s n number bound
phase_today s a n number bound k E small =
    let w = choice_sound s n k.chosen in
    let period : period_of (moved s number E) number ≡ period_of s number
    = ap (λ (ts : List NumberedTask). (task_numbered ts number).period) (tasks_moved s number E) ∙ period_stays number E (tasks_in s) number in
    let passed : Passed (moved s number E) n number = record {
      chosen = ap (λ (r : Refusal). r.number) (moved_choice s number E n a small k.chosen);
      hyper = k.hyper;
      accepted = moved_verdict s number E n a w.0 w.1 w.2 small ∙ k.accepted;
      there = k.there;
      short = omega (arith, period, k.short);
    } in
    passed_answer (moved s number E) n number bound passed
    ∙ ap (smallest_of (keeps_bound (moved s number E) n number bound)) period
    ∙ ap (found_at (period_of s number)) (least_same (keeps_bound (moved s number E) n number bound) (keeps_bound s n number bound) (period_of s number) 0
    (λ F u v. ap (λ (x : Schedule). leb (greatest_latency (tasks_of (chain_at x n))) bound) (moved_twice s number E F)))
    ∙ sym (passed_answer s n number bound k)

-- ---- phases from the period on

module _ (s : Schedule) (a : Arrays s) (n number bound : ℕ) (k : Passed s n number) where
  abbrev l : List Task
  l = given_of (chain_at s n)

  abbrev places : List ℕ
  places = places_at s n

  abbrev T : ℕ
  T = period_of s number

  abbrev H : ℕ
  H = hyper_of (tasks_of (chain_at s n))

  facts : Facts (chain_at s n) k.hyper
  facts = accepted (chain_at s n) k.hyper (chosen_twelve s n a k.chosen) k.accepted

  sound : Sound (placed s.gap l)
  sound = facts.passes.sound

  long : length places ≡ length l
  long = (places_filled s a n k.chosen).long

  task_is : (i : ℕ) → i < length l → get_or l i zero_task ≡ task_numbered (tasks_in s) (get_or places i 0)
  task_is i h = ap (λ (x : List Task). get_or x i zero_task) (tasks_are s a n k.chosen) ∙ map_at (task_numbered (tasks_in s)) places i 0 zero_task (omega (arith, long))

  -- the period is one of the chain's
  own : (get_or l (position_of number places) zero_task).period ≡ T
  own = ap (λ (x : List Task). (get_or x (position_of number places) zero_task).period) (tasks_are s a n k.chosen) ∙ ap (λ (t : Task). t.period) (position_task (task_numbered (tasks_in s)) places number k.there)

  position : position_of number places < length l
  position = elim (dec_lt (position_of number places) (length places)) [
    | yes h ↦ omega (arith, long)
    | no h ↦ absurd (true≢false (sym k.there ∙ unknown_position places number (omega arith)))
  ]

  divides : (i : ℕ) → i < length l → (get_or l i zero_task).period ∣ H
  divides i h = subst (λ (x : Place). x.period ∣ H) (at_placed s.gap l i h) (hyper_multiple (placed s.gap l) i (omega (arith, length-map l (place_of s.gap))))

  some : 1 ≤ T
  some =
      let w = (sound.each (position_of number places) (omega (arith, position, length-map l (place_of s.gap)))).period_pos in
      omega (arith, own, ap (λ (x : Place). x.period) (at_placed s.gap l (position_of number places) position))

  periods : Periods number T H places l
  periods = record {
    own = λ i h e. ap (λ (t : Task). t.period) (task_is i h ∙ ap (task_numbered (tasks_in s)) e);
    others = λ i h e. divides i h;
    some = some;
    multiple = hyper_pos (placed s.gap l) sound;
  }

  -- one period later it is the same chain at another time
  divisor : gcd_of T H ≡ T
  divisor = dvd_antisymm (gcd_left T H) (gcd_greatest T T H (dvd_refl T) (subst (λ (x : ℕ). x ∣ H) own (divides (position_of number places) position)))

  later : (E : ℕ) → E + T ≤ 1000000 → keeps_bound s n number bound (E + T) ≡ keeps_bound s n number bound E
  later E h =
      sym (keeps_same s a n k.chosen number bound (E + T))
      ∙ ap (λ (d : ℕ). leb (greatest_latency (placed s.gap (moved_at number (E + d) places l))) bound) (sym divisor)
      ∙ ap (λ (x : ℕ). leb x bound) (phases_repeat number T H s.gap places l long periods E (omega (arith, divisor)) sound)
      ∙ keeps_same s a n k.chosen number bound E

  -- Every permitted phase is as good as its remainder by the period.
  pub phase_remainder : (F : ℕ) → F ≤ 1000000 → keeps_bound s n number bound F ≡ keeps_bound s n number bound (F % T)
  phase_remainder F h = test_remainder (keeps_bound s n number bound) 1000001 T (λ E g. later E (omega arith)) F (omega arith)

-- So where `none` is answered, no permitted phase keeps the bound.
pub none_at_all : (s : Schedule) → Arrays s → (n number bound : ℕ) → phase_from s n number bound ≡ Ok None → (F : ℕ) → F ≤ 1000000 → keeps_bound s n number bound F ≡ false
none_at_all s a n number bound e F h =
    let w = (none_exactly s n number bound).0 e in
    phase_remainder s a n number bound w.0 F h ∙ w.1 (F % period_of s number) (mod-lt F (some s a n number bound w.0))
