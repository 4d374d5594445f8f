-- One try after another: what each walk begins with, what it says of its phase, and what a search ends with.
use Prim.Native.Nat.{ℕ, suc, ◌+◌, ◌-◌, ◌*◌, ◌/◌, ◌≤◌, ◌<◌}
use native.Mathlib.Omega.{arith}
use native.Mathlib.Decide.{dec_le}
use native.Mathlib.Numerals.{add-one}
use native.Mathlib.Nat.{add-mul, div-mul-le_self, div-le_self, lt-div-mul-add, mul-le-mul_right, mul-le-mul_left}
use mathlib.Core.Path.{◌≡◌, sym, ap, ◌∙◌}
use mathlib.Core.Bool.{Bool, true, false}
use mathlib.Core.List.{List}
use lib.ListN.{length, length-map}
use mir.Syntax.{w64}
use mir.Val.{Fits}
use borrow.Author.Tests.{le-leb, lt-leb}
use Rattle.ranges.specs.Least.{least_from}
use Rattle.ranges.proofs.LeastLaws.{least_here, least_on}
use Rattle.task.specs.declared.Task.{Task}
use Rattle.task.specs.declared.Place.{Place}
use Rattle.task.specs.Jobs.{place_of, write_of}
use Rattle.task.proofs.LinkLaws.{read_mono}
use Rattle.chain.specs.Chains.{placed, at}
use Rattle.chain.specs.Checks.{Sound}
use Rattle.chain.specs.Hyperperiod.{hyper_of}
use Rattle.chain.specs.Multiples.{some_jobs}
use Rattle.chain.specs.Flat.{given_in}
use Rattle.timing.specs.WarmUp.{warm_at}
use Rattle.timing.specs.WarmRanges.{warm_range}
use Rattle.stepping.specs.Standing.{Reciprocals}
use Rattle.latency.specs.declared.Greatest.{Greatest}
use Rattle.latency.specs.Latency.{greatest_latency}
use Rattle.latency.specs.LongestPlace.{longest_period, longest_place, longest_place_holds, longest_is}
use Rattle.latency.specs.Walk.{RangeFrom, MetFrom}
use Rattle.phase.specs.MovedTasks.{moved_at, moved_length, moved_again, moved_hyper, moved_count, period_same, moved_list_sound}
use Rattle.phase.specs.InList.{keeps_in, AcceptedList, Begun, Finds}

-- ---- the walk of one phase

module _ (g : ℕ) (places : List ℕ) (l : List Task) (p n from : ℕ) (r : List ℕ) (k : Begun g places l p n from r) where
  abbrev T : ℕ
  T = (at (placed g l) p).period

  long : length places ≡ length l
  long = k.accepted.long

  inside : p < length (placed g l)
  inside = omega (arith, k.inside, length-map l (place_of g))

  pub range_some : 1 ≤ n
  range_some = rw k.range (some_jobs (placed g l) k.accepted.sound p inside)

  period_max : T ≤ 1000000
  period_max = (k.accepted.sound.each p inside).period_max

  period_pos : 1 ≤ T
  period_pos = (k.accepted.sound.each p inside).period_pos

  pub range_few : n ≤ 60000000
  range_few = omega (arith, k.range, div-le_self (hyper_of (placed g l)) T, k.accepted.small)

  -- so many partitions are a hyperperiod at most
  range_ticks : n * T ≤ 60000000
  range_ticks = omega (arith, ap (λ (x : ℕ). x * T) k.range, div-mul-le_self (hyper_of (placed g l)) T, k.accepted.small)

  pub from_few : from ≤ 62000000
  from_few = omega (arith, mul-le-mul_left {m = 1} {n = T} from period_pos, k.soon)

  module _ (number F : ℕ) (small : F ≤ 1000000) where
    abbrev m : List Place
    m = placed g (moved_at number F places l)

    sound : Sound m
    sound = moved_list_sound number g F places l long small k.accepted.sound

    count : length m ≡ length l
    count = omega (arith, moved_count number g F places l long, length-map l (place_of g))

    period_is : (at m p).period ≡ T
    period_is = period_same number g F places l long p k.inside

    -- every phase is warm from there on
    warm : (x : ℕ) → from ≤ x → warm_at m p ≤ x
    warm x h = elim (dec_le (warm_at m p) x) [
      | yes e ↦ e
      | no e ↦
          let a = read_mono (at m p) (from + 1) (warm_at m p) (omega arith) in
          let b : (from + 1) * (at m p).period ≡ from * T + 1 * T = ap (λ (y : ℕ). (from + 1) * y) period_is ∙ add-mul from 1 T in
          absurd (omega (arith, a, b, warm_range m sound p (omega (arith, count, k.inside)), k.warm, period_pos))
    ]

    -- and no tick is large
    top : (x : ℕ) → x < n → write_of (at m p) (from + x + n + 1) ≤ 1000000000000
    top x h =
        let w = sound.each p (omega (arith, count, k.inside)) in
        let a : (from + x + n + 1) * (at m p).period ≡ from * T + x * T + n * T + 1 * T
        = ap (λ (y : ℕ). (from + x + n + 1) * y) period_is ∙ omega (arith, add-mul (from + x + n) 1 T, add-mul (from + x) n T, add-mul from x T) in
        let b : x * T ≤ n * T = mul-le-mul_right T (omega arith) in
        omega (arith, a, b, range_ticks, k.soon, period_max, w.phase_max, w.duration_max)

    pub walk_begins : (x : ℕ) → x < n → RangeFrom m (length places) p (from + x) n
    walk_begins x h = record {
      range = record {
        sound = sound;
        places_are = omega (arith, long, count);
        inside = omega (arith, long, k.inside);
        warm = warm (from + x) (omega arith);
        some = range_some;
        few = range_few;
        top = top x h;
      };
      whole = k.range ∙ ap (λ (y : ℕ). y / T) (sym (moved_hyper number g F places l)) ∙ ap (λ (y : ℕ). hyper_of m / y) (sym period_is);
    }

    -- the steps of every phase have the same constants
    pub walk_constants : Reciprocals m r
    walk_constants = record {
      long = omega (arith, k.constants.long, count, length-map l (place_of g));
      all = record {
        period = λ i h.
            k.constants.all.period i (omega (arith, count, length-map l (place_of g))) ∙ sym (period_same number g F places l long i (omega (arith, count)));
        each = λ i h. k.constants.all.each i (omega (arith, count, length-map l (place_of g)));
      };
    }

-- ---- the loop

-- The phases before `phase` were tried and do not keep the bound; the list is as it was but for the phases of the task.
pub record Trying (g : ℕ) (places : List ℕ) (l : List Task) (number bound phases n : ℕ) (tasks : List ℕ) (at stride walked phase : ℕ) : Type 0 where
  pub same : (F : ℕ) → moved_at number F places (given_in tasks) ≡ moved_at number F places l
  pub inside : at < n
  pub near : stride < n
  pub few : walked ≤ phase * n
  pub tried : phase ≤ phases
  pub left : least_from (keeps_in g places l number bound) 0 phases ≡ least_from (keeps_in g places l number bound) phase (phases - phase)

module _ (g : ℕ) (places : List ℕ) (l : List Task) (number bound phases n : ℕ) where
  abbrev test : ℕ → Bool
  test = keeps_in g places l number bound

  pub trying_start : (tasks : List ℕ) → l ≡ given_in tasks → 1 ≤ n → Trying g places l number bound phases n tasks 0 0 0 0
  trying_start tasks e some = record { same = λ F. ap (moved_at number F places) (sym e); inside = some; near = some; few = omega arith; tried = omega arith; left = ap (least_from test 0) (omega arith) }

  module _ (tasks : List ℕ) (at stride walked phase : ℕ) (k : Trying g places l number bound phases n tasks at stride walked phase) where
    -- as many tasks as before
    pub trying_count : length (given_in tasks) ≡ length l
    trying_count = sym (moved_length number 0 places (given_in tasks)) ∙ ap length (k.same 0) ∙ moved_length number 0 places l

    -- where no phase is left
    pub trying_end : phases ≤ phase → Finds g places l number bound phases (phases * n) (record { phase = phases; walked = walked })
    unfolding least_from
    trying_end all =
        let e : phase ≡ phases = omega (arith, k.tried) in
        let z : phases - phase ≡ 0 = omega arith in
        record { phase = sym (k.left ∙ ap (least_from test phase) z ∙ e); few = omega (arith, k.few, ap (λ (y : ℕ). y * n) e) }

    -- the next phase is put into the list
    module _ (more : phase < phases) (tasks' : List ℕ) (put : given_in tasks' ≡ moved_at number phase places (given_in tasks)) where
      pub put_is : given_in tasks' ≡ moved_at number phase places l
      put_is = put ∙ k.same phase

      module _ (found : Greatest) (p m : ℕ) (met : MetFrom (placed g (given_in tasks')) p m n bound found) where
        greatest_is_holds : greatest_latency (placed g (given_in tasks')) ≡ greatest_latency (placed g (moved_at number phase places l))
        greatest_is_holds = ap (λ (y : List Task). greatest_latency (placed g y)) put_is

        walked_few : walked + found.walked ≤ (phase + 1) * n
        walked_few = omega (arith, k.few, met.few, add-mul phase 1 n)

        rest : phases - phase ≡ suc (phases - (phase + 1))
        rest = omega arith

        -- the phase keeps the bound,
        pub trying_found : found.latency ≤ bound → Finds g places l number bound phases (phases * n) (record { phase = phase; walked = walked + found.walked })
        trying_found fits =
            let e : test phase ≡ true = le-leb (greatest_latency (placed g (moved_at number phase places l))) bound (omega (arith, (met.whole fits).0, greatest_is_holds)) in
            let u : (phase + 1) * n ≤ phases * n = mul-le-mul_right n (omega arith) in
            record { phase = sym (k.left ∙ ap (least_from test phase) rest ∙ least_here test (phases - (phase + 1)) phase e); few = omega (arith, walked_few, u) }

        -- or the next try follows.
        pub trying_on : bound < found.latency → (at' stride' : ℕ) → at' < n → stride' < n → Trying g places l number bound phases n tasks' at' stride' (walked + found.walked) (phase + 1)
        trying_on late at' stride' h g' =
            let e : test phase ≡ false = lt-leb (greatest_latency (placed g (moved_at number phase places l))) bound (omega (arith, met.late late, greatest_is_holds)) in
            record {
              same = λ F. ap (moved_at number F places) put ∙ moved_again number phase F places (given_in tasks) ∙ k.same F;
              inside = h;
              near = g';
              few = walked_few;
              tried = omega arith;
              left =
                  k.left ∙ ap (least_from test phase) rest ∙ least_on test (phases - (phase + 1)) phase e
                  ∙ ap (λ (y : ℕ). least_from test y (phases - (phase + 1))) (sym (add-one phase));
            }

-- ---- where the tries begin

pub quotient_fits : (x T : ℕ) → x ≤ 61000000 → Fits w64 (x / T + 1)
quotient_fits x T h = omega (arith, div-le_self x T)

module _ (g : ℕ) (places : List ℕ) (l : List Task) (ok : AcceptedList g places l) (p : ℕ) (is : p ≡ longest_place (placed g l)) where
  place : (1 ≤ p) × (p ≤ length (placed g l))
  place = let w = longest_place_holds (placed g l) ok.sound.some in (omega (arith, w.some), omega (arith, w.inside))

  pub longest_inside : (1 ≤ p) × (p - 1 < length (placed g l)) × (p - 1 < 12)
  longest_inside = (place.0, omega (arith, place.0, place.1), omega (arith, place.0, place.1, ok.sound.few))

  module _ (a : Place) (at_is : a ≡ at (placed g l) (p - 1)) where
    pub longest_pos : 1 ≤ a.period
    longest_pos = omega (arith, ap (λ (x : Place). x.period) at_is, (ok.sound.each (p - 1) longest_inside.1).period_pos)

    -- x is a tick up to which every warm-up job has read
    pub tries_begin : (h : ℕ) → h ≡ hyper_of (placed g l) → (x : ℕ) → 60011000 ≤ x → x ≤ 61000000 → (r : List ℕ) → Reciprocals (placed g l) r → Begun g places l (p - 1) (h / a.period) (x / a.period + 1) r
    tries_begin h e x low high r rs =
        let T : ℕ = a.period in
        let same : T ≡ (at (placed g l) (p - 1)).period = ap (λ (y : Place). y.period) at_is in
        let max : T ≤ 1000000 = omega (arith, (ok.sound.each (p - 1) longest_inside.1).period_max) in
        let m : (x / T + 1) * T ≡ x / T * T + 1 * T = add-mul (x / T) 1 T in
        let b : (x / T + 1) * (at (placed g l) (p - 1)).period ≡ (x / T + 1) * T = ap (λ (y : ℕ). (x / T + 1) * y) (sym same) in
        record {
          accepted = ok;
          inside = omega (arith, longest_inside.1, length-map l (place_of g));
          range = ap (λ (y : ℕ). y / T) e ∙ ap (λ (y : ℕ). hyper_of (placed g l) / y) same;
          warm = omega (arith, m, b, lt-div-mul-add {a = x} {b = T} longest_pos);
          soon = omega (arith, m, b, div-mul-le_self x T);
          constants = rs;
        }

    pub longest_walked : (h : ℕ) → h / a.period ≡ h / longest_period (placed g l)
    longest_walked h = ap (λ (y : ℕ). h / y) (ap (λ (x : Place). x.period) at_is ∙ ap (λ (y : ℕ). (at (placed g l) (y - 1)).period) is ∙ longest_is (placed g l) ok.sound.some)
