-- The phases below a divisor of the period stand for all, and the exits of `search_period` and `judged`.
use Rattle.std.specs.Prelude.{Err, None, Ok, Option, Some, position}
use Prim.Native.Nat.{ℕ, suc, ◌+◌, ◌*◌, ◌/◌, ◌≤◌, ◌<◌}
use native.Mathlib.Omega.{arith}
use native.Mathlib.Nat.{le_of_dvd, div-mul-le_self, mul-le-mul_right, mul_comm}
use mathlib.Core.Path.{◌≡◌, refl, sym, ap, ◌∙◌}
use mathlib.Core.Bool.{Bool, true, false, cond}
use mathlib.Core.List.{List, [], ◌∷◌}
use lib.Dec.{leb, eqb}
use lib.ListN.{length, get_or, length-map}
use borrow.Author.Tests.{le-leb, lt-leb, lt-ltb, le-ltb, eqb-true}
use Rattle.refusal.specs.Refusals.{refusal}
use Rattle.ranges.specs.Least.{least_from}
use Rattle.euclid.specs.Divisor.{gcd_of}
use Rattle.euclid.proofs.LeastMultiple.{gcd_left, gcd_pos}
use Rattle.task.specs.declared.Task.{Task}
use Rattle.task.specs.declared.Place.{Place}
use Rattle.task.specs.Jobs.{place_of}
use Rattle.chain.specs.Chains as chains
use Rattle.chain.specs.Chains.{placed, zero_task}
use Rattle.chain.specs.Placed.{at_placed}
use Rattle.chain.specs.Hyperperiod.{hyper_of}
use Rattle.chain.specs.Checks.{verdict_in}
use Rattle.chain.proofs.CheckLaws.{accepted_in}
use Rattle.schedule.specs.Schedules.{position_of, known}
use Rattle.schedule.specs.Numbers.{known_position, unknown_position, position_some, position_lost}
use Rattle.latency.specs.LongestPlace.{longest_period, longest_place_holds, longest_is}
use Rattle.phase.specs.declared.Tried.{Tried}
use Rattle.phase.specs.Phases.{found_at}
use Rattle.phase.specs.PhasesRepeat.{Periods, phases_repeat}
use Rattle.phase.specs.Search.{found_early, none_early}
use Rattle.phase.specs.InList.{keeps_in, period_in, judged_in, Filled, AcceptedList, OthersDivide, Finds}

-- the first place with a number has it
position_at : (places : List ℕ) (n : ℕ) → position_of n places < length places → get_or places (position_of n places) 0 ≡ n
unfolding position_of
position_at [] n h = absurd (omega arith)
position_at (m ∷ places) n h = go (eqb m n) refl h (position_at places n)
  where
    go : (b : Bool) → eqb m n ≡ b → cond b 0 (suc (position_of n places)) < suc (length places) → (position_of n places < length places → get_or places (position_of n places) 0 ≡ n)
        → get_or (m ∷ places) (cond b 0 (suc (position_of n places))) 0 ≡ n
    go true e h on = eqb-true m n e
    go false e h on = on (omega arith)

-- ---- the task at place `at`

module _ (g : ℕ) (places : List ℕ) (l : List Task) (ok : AcceptedList g places l) (at : ℕ) (inside : at < length places) where
  count : length (placed g l) ≡ length l
  count = length-map l (place_of g)

  pub task_inside : (at < length (placed g l)) × (at < 12)
  task_inside = (omega (arith, ok.long, count), omega (arith, ok.long, count, ok.sound.few))

  abbrev T : ℕ
  T = (get_or l at zero_task).period

  pub period_at_holds : (a : Place) → a ≡ chains.at (placed g l) at → a.period ≡ T
  period_at_holds a e = ap (λ (x : Place). x.period) (e ∙ at_placed g l at (omega (arith, ok.long)))

  pub period_pos : 1 ≤ T
  period_pos = omega (arith, period_at_holds (chains.at (placed g l) at) refl, (ok.sound.each at task_inside.0).period_pos)

  -- it is no longer than the longest
  longest : T ≤ longest_period (placed g l)
  longest =
      let w = longest_place_holds (placed g l) ok.sound.some in
      omega (arith, period_at_holds (chains.at (placed g l) at) refl, w.longest at task_inside.0, longest_is (placed g l) ok.sound.some)

  module _ (filled : Filled places l) (small : T ≤ 10000) (L : ℕ) (divide : OthersDivide (get_or places at 0) places l L) (bound : ℕ) where
    abbrev number : ℕ
    number = get_or places at 0

    abbrev d : ℕ
    d = gcd_of T L

    pub phases_few : d ≤ T
    phases_few = le_of_dvd period_pos (gcd_left T L)

    some : 1 ≤ d
    some = gcd_pos T L period_pos

    periods : Periods number T L places l
    periods = record {
      own = λ i h e. ap (λ (t : Task). t.period) (filled.same i at h (omega (arith, ok.long)) e);
      others = divide.others;
      some = period_pos;
      multiple = divide.some;
    }

    repeats : (F : ℕ) → F + d < T → keeps_in g places l number bound (F + d) ≡ keeps_in g places l number bound F
    repeats F h = ap (λ (y : ℕ). leb y bound) (phases_repeat number T L g places l ok.long periods F (omega arith) ok.sound)

    module _ (h : ℕ) (hyper : h ≡ hyper_of (placed g l)) (r : Tried) (finds : Finds g places l number bound d (d * (h / longest_period (placed g l))) r) where
      -- the divisor times the walks of one phase is at most the hyperperiod
      walked : r.walked ≤ h
      walked =
          let a : d * (h / longest_period (placed g l)) ≤ longest_period (placed g l) * (h / longest_period (placed g l)) = mul-le-mul_right (h / longest_period (placed g l)) (omega (arith, phases_few, longest)) in
          omega (arith, a, finds.few, mul_comm (longest_period (placed g l)) (h / longest_period (placed g l)), div-mul-le_self h (longest_period (placed g l)))

      pub found_all : r.phase < d → Finds g places l number bound T h r
      found_all e = record {
        phase = finds.phase ∙ found_early (keeps_in g places l number bound) T d some phases_few repeats (omega (arith, finds.phase));
        few = walked;
      }

      pub none_all : d ≤ r.phase → (x : ℕ) → x ≡ T → Finds g places l number bound T h (record { phase = x; walked = r.walked })
      none_all e x is = record {
        phase = is ∙ none_early (keeps_in g places l number bound) T d some phases_few repeats (omega (arith, finds.phase));
        few = walked;
      }

-- ---- 19, 20, or what was found

module _ (g : ℕ) (places : List ℕ) (l : List Task) (number bound : ℕ) where
  pub not_there : ◌≡◌ {A = Option ℕ} None (position (λ m. eqb m number) places) → Err (refusal 19 0) ≡ judged_in g places l number bound
  unfolding judged_in
  not_there h = rw (unknown_position places number (position_lost number places h))

  module _ (at : ℕ) (is : Some at ≡ position (λ m. eqb m number) places) where
    at_is : at ≡ position_of number places
    at_is = (position_some number places at is).0

    inside : at < length places
    inside = (position_some number places at is).1

    there : known places number ≡ true
    there = known_position places number (omega (arith, at_is, inside))

    pub number_at_holds : get_or places at 0 ≡ number
    number_at_holds = ap (λ (i : ℕ). get_or places i 0) at_is ∙ position_at places number (omega (arith, at_is, inside))

    period_in_holds : period_in places l number ≡ (get_or l at zero_task).period
    period_in_holds = ap (λ (i : ℕ). (get_or l i zero_task).period) (sym at_is)

    pub too_long : 10000 < (get_or l at zero_task).period → Err (refusal 20 0) ≡ judged_in g places l number bound
    unfolding judged_in
    too_long h = rw (there, period_in_holds, lt-leb (get_or l at zero_task).period 10000 h)

    module _ (fits : (get_or l at zero_task).period ≤ 10000) (h : ℕ) (r : Tried) (finds : Finds g places l (get_or places at 0) bound (get_or l at zero_task).period h r) where
      judged_so : judged_in g places l number bound ≡ found_at (get_or l at zero_task).period r.phase
      unfolding judged_in
      judged_so =
          let e : r.phase ≡ least_from (keeps_in g places l number bound) 0 (get_or l at zero_task).period
          = finds.phase ∙ ap (λ (m : ℕ). least_from (keeps_in g places l m bound) 0 (get_or l at zero_task).period) number_at_holds in
          rw (there, period_in_holds, le-leb (get_or l at zero_task).period 10000 fits) (ap (found_at (get_or l at zero_task).period) (sym e))

      pub phase_found : r.phase < (get_or l at zero_task).period → Ok (Some r.phase) ≡ judged_in g places l number bound
      phase_found e = sym (judged_so ∙ rw (lt-ltb r.phase (get_or l at zero_task).period e))

      pub none_found : (get_or l at zero_task).period ≤ r.phase → Ok None ≡ judged_in g places l number bound
      none_found e = sym (judged_so ∙ rw (le-ltb r.phase (get_or l at zero_task).period e))

-- what the list's own checks leave
pub accepted_list : (g : ℕ) (places : List ℕ) (l : List Task) (h : ℕ) → Filled places l → verdict_in g l ≡ Ok h → (AcceptedList g places l) × (h ≡ hyper_of (placed g l))
accepted_list g places l h filled e = let k = accepted_in g l h e in (record { long = filled.long; sound = k.sound; small = omega (arith, k.hyper, k.small) }, k.hyper)
