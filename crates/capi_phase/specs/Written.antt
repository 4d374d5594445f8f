-- A phase written into the task's own entry of the lists gives the moved schedule (`written_same`). So with any permitted phase written there the schedule passes every check that it passed (`same_choices`, `same_verdicts`); with the one
-- that mo_smallest_phase gives no press by the chain waits longer than the bound (`kept_for_c`), with every smaller one some press does (`broken_for_c`), and so with every one where there is none (`none_at_all_for_c`).
use Rattle.std.specs.Prelude.{ℕ, zero, suc, ◌+◌, ◌*◌, ◌≤◌, ◌<◌, ◌≡◌, false, List, [], ◌∷◌, map, length, get_or, set}
use Rattle.std.proofs.Common.{arith, sym, ap, ◌∙◌, subst, ext_get_or, get_or-take, length-take-le, get_or-set_other}
use Rattle.std.proofs.Math.Decide.{dec_lt, ℕ_discrete}
use Rattle.std.proofs.Math.Path.{refl}
use Rattle.std.proofs.Math.ListN.{length-set}
use Rattle.std.proofs.lemmas.List.{length-map}
use Rattle.std.proofs.Math.Seq.{get_or-set_same}
use borrow.Author.Tests.{eq-eqb, ne_eqb, le-leb, leb-true}
use Rattle.ranges.specs.Entries.{entries_at, entries_length}
use Rattle.chain.specs.declared.Chain.{Chain}
use Rattle.chain.specs.Chains.{tasks_of}
use Rattle.chain.specs.Checks.{verdict_of}
use Rattle.schedule.specs.declared.NumberedTask.{NumberedTask}
use Rattle.schedule.specs.declared.Schedule.{Schedule}
use Rattle.schedule.specs.Schedules.{tasks_in, zero_numbered, chain_at}
use Rattle.schedule.specs.Arrays.{Arrays}
use Rattle.schedule.specs.Padding.{map_at}
use Rattle.schedule.specs.Rule.{rule}
use Rattle.schedule_checks.specs.Checks.{first_fault, choice_of}
use Rattle.schedule_checks.proofs.SoundSchedule.{SoundSchedule, fault_cons}
use Rattle.schedule_checks.proofs.ChosenChain.{choice_sound}
use Rattle.schedule_checks.proofs.SameSchedule.{SameSchedule, chain_same, choice_same}
use Rattle.timing.specs.WarmUp.{warm_tick}
use Rattle.timing.specs.Delay.{delay_at}
use Rattle.latency.specs.Latency.{greatest_latency}
use Rattle.phase.specs.Phases.{with_phase, moved, keeps_bound}
use Rattle.phase.specs.Smallest.{LatePress, Passed, kept, broken, none_exactly, none_at_all}
use Rattle.phase.specs.MovedSchedule.{moved_choices, moved_verdict}
use Rattle.capi_schedule.specs.FlatSchedule.{numbered_at, tasks_from, count_from, schedule_from}
use Rattle.capi_schedule.specs.GivenBack.{from_arrays, count_fits, count_is}
use Rattle.capi_phase.specs.Calls.{GivesPhase}
use Rattle.capi_phase.specs.EveryBound.{found_for_c, none_for_c}

-- ---- the numbers of a sound schedule's tasks rise

above : (p before : ℕ) (ts : List NumberedTask) → 1 ≤ p → first_fault p before ts ≡ 0 → (i : ℕ) → i < length ts → before < (get_or ts i zero_numbered).number
above p before [] pos h i g = absurd (omega arith)
above p before (t ∷ ts) pos h zero g = (rule before t (fault_cons p before t ts pos h).0).above
above p before (t ∷ ts) pos h (suc i) g =
    let k = fault_cons p before t ts pos h in
    omega (arith, (rule before t k.0).above, above (p + 1) t.number ts (omega arith) k.1 i (omega arith))

rises : (p before : ℕ) (ts : List NumberedTask) → 1 ≤ p → first_fault p before ts ≡ 0 → (i j : ℕ) → i < j → j < length ts → (get_or ts i zero_numbered).number < (get_or ts j zero_numbered).number
rises p before [] pos h i j a b = absurd (omega arith)
rises p before (t ∷ ts) pos h i zero a b = absurd (omega arith)
rises p before (t ∷ ts) pos h zero (suc j) a b = above (p + 1) t.number ts (omega arith) (fault_cons p before t ts pos h).1 j (omega arith)
rises p before (t ∷ ts) pos h (suc i) (suc j) a b = rises (p + 1) t.number ts (omega arith) (fault_cons p before t ts pos h).1 i j (omega arith) (omega arith)

-- The chain's greatest latency is at most the bound, and no press from its warm-up tick on waits longer.
pub record KeptForC (w : Schedule) (n bound : ℕ) : Type 0 where
  pub latency : greatest_latency (tasks_of (chain_at w n)) ≤ bound
  pub delays : (t : ℕ) → warm_tick (tasks_of (chain_at w n)) ≤ t → delay_at (tasks_of (chain_at w n)) t ≤ bound

-- ---- the task at position i, counted from 0, gets phase F

module _ (tasks : List ℕ) (count : ℕ) (chains places : List ℕ) (total gap i F : ℕ) where
  abbrev s : Schedule
  s = schedule_from tasks count chains places total gap

  abbrev number : ℕ
  number = get_or tasks (4 * i) 0

  abbrev entries : List ℕ
  entries = set tasks (4 * i + 3) F

  abbrev written : Schedule
  written = schedule_from entries count chains places total gap

  module _ (few : s.count ≤ 32) (right : first_fault 1 0 (tasks_in s) ≡ 0) (here : i < s.count) where
    count_given : s.count ≡ count
    count_given = count_is (length tasks) count (omega arith)

    held : 4 * count ≤ length tasks
    held = count_fits (length tasks) count count_given

    -- task j of the lists
    numbered : (j : ℕ) → j < count
        → numbered_at tasks j ≡ record { number = get_or tasks (4 * j) 0; task = record { period = get_or tasks (4 * j + 1) 0; duration = get_or tasks (4 * j + 2) 0; phase = get_or tasks (4 * j + 3) 0 } }
    unfolding numbered_at
    numbered j h = rw (le-leb (4 * j + 4) (length tasks) (omega (arith, held)))

    in_front : (j : ℕ) → j < count → get_or (tasks_in s) j zero_numbered ≡ numbered_at tasks j
    in_front j h = get_or-take s.count (tasks_from tasks) j zero_numbered (omega (arith, count_given)) ∙ entries_at (numbered_at tasks) zero_numbered 32 j (omega (arith, count_given))

    long : length (tasks_in s) ≡ count
    long = length-take-le s.count (tasks_from tasks) (omega (arith, entries_length (numbered_at tasks) 0 32)) ∙ count_given

    number_at_holds : (j : ℕ) → j < count → (get_or (tasks_in s) j zero_numbered).number ≡ get_or tasks (4 * j) 0
    number_at_holds j h = ap (λ (t : NumberedTask). t.number) (in_front j h ∙ numbered j h)

    -- no other task has this number
    other : (j : ℕ) → j < count → (j ≡ i → ⊥) → get_or tasks (4 * j) 0 ≡ number → ⊥
    other j h e q = elim (dec_lt j i) [
      | yes a ↦ omega (arith, rises 1 0 (tasks_in s) (omega arith) right j i a (omega (arith, long, count_given)), number_at_holds j h, number_at_holds i (omega (arith, count_given)))
      | no a ↦ omega (arith, rises 1 0 (tasks_in s) (omega arith) right i j (omega arith) (omega (arith, long)), number_at_holds j h, number_at_holds i (omega (arith, count_given)))
    ]

    -- an entry that is not the one written
    stays : (k : ℕ) → (k ≡ 4 * i + 3 → ⊥) → get_or entries k 0 ≡ get_or tasks k 0
    stays k e = get_or-set_other tasks (4 * i + 3) k F 0 e

    each : (j : ℕ) → j < count → numbered_at entries j ≡ with_phase number F (numbered_at tasks j)
    unfolding numbered_at
    each j h =
        rw (numbered j h, le-leb (4 * j + 4) (length entries) (omega (arith, held, length-set tasks (4 * i + 3) F)))
        (elim (ℕ_discrete j i) [
          | yes e ↦
              rw (e, eq-eqb number number refl, stays (4 * i) (λ q. omega arith), stays (4 * i + 1) (λ q. omega arith), stays (4 * i + 2) (λ q. omega arith), get_or-set_same tasks (4 * i + 3) F 0 (omega (arith, held, count_given)))
          | no e ↦
              rw (ne_eqb (get_or tasks (4 * j) 0) number (other j h e), stays (4 * j) (λ q. omega arith), stays (4 * j + 1) (λ q. omega arith), stays (4 * j + 2) (λ q. omega arith), stays (4 * j + 3) (λ q. omega arith))
        ])

    count_same : written.count ≡ s.count
    count_same = ap (λ (n : ℕ). count_from n count) (length-set tasks (4 * i + 3) F)

    tasks_same : tasks_in written ≡ tasks_in (moved s number F)
    tasks_same =
        let a : length (tasks_in written) ≡ count = length-take-le written.count (tasks_from entries) (omega (arith, count_same, entries_length (numbered_at entries) 0 32)) ∙ count_same ∙ count_given in
        let b : length (map (with_phase number F) (tasks_from tasks)) ≡ 32 = length-map (tasks_from tasks) (with_phase number F) ∙ entries_length (numbered_at tasks) 0 32 in
        let c : length (tasks_in (moved s number F)) ≡ count = length-take-le s.count (map (with_phase number F) (tasks_from tasks)) (omega arith) ∙ count_given in
        ext_get_or zero_numbered (tasks_in written) (tasks_in (moved s number F)) (a ∙ sym c)
        (λ j g.
        let h : j < count = omega arith in
        get_or-take written.count (tasks_from entries) j zero_numbered (omega (arith, count_same, count_given)) ∙ entries_at (numbered_at entries) zero_numbered 32 j (omega (arith, count_given)) ∙ each j h
        ∙ sym (get_or-take s.count (map (with_phase number F) (tasks_from tasks)) j zero_numbered (omega (arith, count_given))
        ∙ map_at (with_phase number F) (tasks_from tasks) j zero_numbered zero_numbered (omega (arith, count_given, entries_length (numbered_at tasks) 0 32))
        ∙ ap (with_phase number F) (entries_at (numbered_at tasks) zero_numbered 32 j (omega (arith, count_given)))))

    pub written_same : SameSchedule written (moved s number F)
    written_same = record { count = count_same; chains = refl; tasks = tasks_same; places = refl; numbers = refl; gap = refl }

-- ---- what the numbers of mo_smallest_phase say of the lists with a phase written into them

module _ (tasks : List ℕ) (count : ℕ) (chains places : List ℕ) (total gap i : ℕ) (here : i < (schedule_from tasks count chains places total gap).count) where
  abbrev u : Schedule
  u = schedule_from tasks count chains places total gap

  abbrev m : ℕ
  m = get_or tasks (4 * i) 0

  -- the schedule of the lists with phase F written into the entry of task i
  abbrev with : ℕ → Schedule
  with F = schedule_from (set tasks (4 * i + 3) F) count chains places total gap

  a : Arrays u
  a = from_arrays tasks count chains places total gap

  same : (F : ℕ) → SoundSchedule u → SameSchedule (with F) (moved u m F)
  same F k = written_same tasks count chains places total gap i F k.few k.tasks_right here

  same_chain : (F n : ℕ) → SoundSchedule u → chain_at (with F) n ≡ chain_at (moved u m F) n
  same_chain F n k = chain_same (with F) (moved u m F) (same F k) n

  -- A sound schedule is so with every permitted phase: every chain number is chosen or refused as before,
  pub same_choices : (F : ℕ) → F ≤ 1000000 → SoundSchedule u → (n : ℕ) → choice_of (schedule_from (set tasks (4 * i + 3) F) count chains places total gap) n ≡ choice_of (schedule_from tasks count chains places total gap) n
  same_choices F small k n = choice_same (with F) (moved u m F) (same F k) n ∙ moved_choices u m F small k n

  -- and 7 says of every chain what it said.
  pub same_verdicts : (F : ℕ) → F ≤ 1000000 → SoundSchedule u → (n : ℕ) → 1 ≤ n → n ≤ u.chains
      → verdict_of (chain_at (schedule_from (set tasks (4 * i + 3) F) count chains places total gap) n) ≡ verdict_of (chain_at (schedule_from tasks count chains places total gap) n)
  same_verdicts F small k n low high = ap verdict_of (same_chain F n k) ∙ moved_verdict u m F n a k low high small

  late_press : (F n bound : ℕ) → F ≤ 1000000 → Passed u n m → keeps_bound u n m bound F ≡ false → LatePress (tasks_of (chain_at (with F) n)) bound
  late_press F n bound small k e = subst (λ (c : Chain). LatePress (tasks_of c) bound) (sym (same_chain F n (choice_sound u n k.chosen).0)) (broken u a n m k F small bound e)

  module _ (n bound code phase no : ℕ) (gives : GivesPhase (schedule_from tasks count chains places total gap) n (get_or tasks (4 * i) 0) bound code phase no) where
    -- With the phase found the greatest latency of the chain is at most the bound, and no press from its warm-up tick on waits longer;
    pub kept_for_c : code ≡ 0 → no ≡ 0 → KeptForC (schedule_from (set tasks (4 * i + 3) phase) count chains places total gap) n bound
    kept_for_c fine some =
        let found = found_for_c u n m bound code phase no gives fine some in
        let k = (choice_sound u n found.0.chosen).0 in
        let small : phase ≤ 1000000 = omega (arith, found.1.below, found.0.short) in
        record {
          latency = subst (λ (c : Chain). greatest_latency (tasks_of c) ≤ bound) (sym (same_chain phase n k)) (leb-true (greatest_latency (tasks_of (chain_at (moved u m phase) n))) bound found.1.passes);
          delays = subst (λ (c : Chain). (t : ℕ) → warm_tick (tasks_of c) ≤ t → delay_at (tasks_of c) t ≤ bound) (sym (same_chain phase n k)) (kept u a n m found.0 phase small bound found.1.passes);
        }

    -- with every smaller phase some press does;
    pub broken_for_c : code ≡ 0 → no ≡ 0 → (E : ℕ) → E < phase → LatePress (tasks_of (chain_at (schedule_from (set tasks (4 * i + 3) E) count chains places total gap) n)) bound
    broken_for_c fine some E h =
        let found = found_for_c u n m bound code phase no gives fine some in
        late_press E n bound (omega (arith, found.1.below, found.0.short)) found.0 (found.1.smallest E h)

    -- and where none is found some press does with every permitted phase, also from the period on.
    pub none_at_all_for_c : no ≡ 1 → (F : ℕ) → F ≤ 1000000 → LatePress (tasks_of (chain_at (schedule_from (set tasks (4 * i + 3) F) count chains places total gap) n)) bound
    none_at_all_for_c some F small =
        let none = none_for_c u n m bound code phase no gives some in
        late_press F n bound small none.1 (none_at_all u a n m bound ((none_exactly u n m bound).1 (none.1, none.2)) F small)
