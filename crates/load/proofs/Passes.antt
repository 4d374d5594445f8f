-- Order 8 of document 02: "Every chain so made passes the chain checks, for all seeds": 8, 5 with its gap, and 7 (`passes`). Each period divides 80,000, so the hyperperiod does (`hyper_divides`);
-- of two periods one divides the other, so it is the longest of them (`hyper_longest`). What that makes of a table is in load_report.
use Rattle.std.specs.Prelude.{◌≡◌, ℕ, zero, suc, ◌+◌, ◌-◌, ◌*◌, ◌%◌, ◌^◌, ◌<◌, ◌≤◌, Bool, true, false, cond, ◌&&◌, List, ◌∷◌, length, take, ◌==◌, nat_le, refl, Ok, Err}
use Rattle.std.specs.Int.{◌∣◌}
use Rattle.std.proofs.Common.{arith, mod-lt, sym, ap, ◌∙◌, pow-add}
use Rattle.std.proofs.Math.Decide.{dec_lt}
use Rattle.std.proofs.Math.Nat.{dvd_of_mod-eq-zero, le_of_dvd, dvd-mul_right, dvd_antisymm}
use Rattle.std.proofs.lemmas.List.{length-map}
use borrow.Author.Tests.{le-leb, leb-true, leb-false}
use Rattle.refusal.specs.declared.Refusal.{Refusal}
use Rattle.refusal.specs.Refusals.{refusal}
use Rattle.task.specs.declared.Task.{Task}
use Rattle.task.specs.declared.Place.{Place}
use Rattle.task.specs.Jobs.{place_of, Within}
use Rattle.task.proofs.LinkLaws.{limits_hold}
use Rattle.chain.specs.declared.Chain.{Chain}
use Rattle.chain.specs.Chains.{given_of, placed, tasks_of, at, zero_task}
use Rattle.chain.specs.Checks.{first_fault, hyper_verdict, after_gap, verdict_for, verdict_of}
use Rattle.chain.specs.Hyperperiod.{hyper_of}
use Rattle.chain.specs.Multiples.{hyper_multiple, hyper_least}
use Rattle.schedule.specs.Padding.{take_padded, length_padded}
use Rattle.load.specs.Load.{draw_of, period_of, drawn_period, task_of, drawn_task, tasks_from, array_from, loaded, load_of}

-- ---- one period

-- A divisor of 80,000 that is 2,500 doubled some times.
pub record Fit (p : ℕ) : Type 0 where
  pub low : 1 ≤ p
  pub high : p ≤ 80000
  pub divides : 80000 % p ≡ 0
  pub times : ℕ
  pub doubled : p ≡ 2500 * 2 ^ times

-- one of two
either : {p q : ℕ} (b : Bool) → Fit p → Fit q → Fit (cond b p q)
either true f g = f
either false f g = g

pub fit : (x : ℕ) → Fit (period_of x)
unfolding period_of
fit x =
    either (x == 0) (record { low = omega arith; high = omega arith; divides = refl; times = 0; doubled = refl })
    (either (nat_le x 10) (record { low = omega arith; high = omega arith; divides = refl; times = 1; doubled = refl })
    (either (nat_le x 43) (record { low = omega arith; high = omega arith; divides = refl; times = 2; doubled = refl })
    (either (nat_le x 58) (record { low = omega arith; high = omega arith; divides = refl; times = 3; doubled = refl })
    (either (nat_le x 81) (record { low = omega arith; high = omega arith; divides = refl; times = 4; doubled = refl })
    (record { low = omega arith; high = omega arith; divides = refl; times = 5; doubled = refl })))))

-- one that is doubled no more often divides the other
fewer : (p q : ℕ) (f : Fit p) (g : Fit q) → f.times ≤ g.times → p ∣ q
fewer p q f g h =
    let e : g.times ≡ f.times + (g.times - f.times) = omega arith in
    let k : q ≡ p * 2 ^ (g.times - f.times) = omega (arith, f.doubled, g.doubled, ap (λ (n : ℕ). 2500 * 2 ^ n) e, pow-add 2 f.times (g.times - f.times), ap (λ (n : ℕ). n * 2 ^ (g.times - f.times)) f.doubled) in
    rw k (dvd-mul_right p (2 ^ (g.times - f.times)))

-- of two the shorter divides the longer
shorter : (p q : ℕ) → Fit p → Fit q → p ≤ q → p ∣ q
shorter p q f g h = elim (dec_lt g.times f.times) [
  | yes k ↦
      let e : p ≡ q = omega (arith, le_of_dvd f.low (fewer q p g f (omega arith))) in
      rw e (fewer q q g g (omega arith))
  | no k ↦ fewer p q f g (omega arith)
]

-- ---- the tasks of a seed

pub within : (s : ℕ) → Within (task_of s)
within s =
    let f = fit ((draw_of s).value % 97) in
    let m : (draw_of (draw_of s).state).value % drawn_period s < drawn_period s = mod-lt (draw_of (draw_of s).state).value f.low in
    record {
      period_pos = f.low;
      period_max = omega (arith, f.high);
      duration_pos = f.low;
      duration_max = omega (arith, f.high);
      phase_max = omega (arith, f.high);
    }

pub tasks_length : (n s : ℕ) → length (tasks_from s n) ≡ n
unfolding tasks_from
tasks_length zero s = refl
tasks_length (suc n) s = ap suc (tasks_length n (drawn_task s).state)

-- The tasks of fewer places are the front of those of more.
pub front : (k n s : ℕ) → k ≤ n → take k (tasks_from s n) ≡ tasks_from s k
unfolding tasks_from
front zero n s h = refl
front (suc k) zero s h = absurd (omega arith)
front (suc k) (suc n) s h = ap (λ (l : List Task). (drawn_task s).task ∷ l) (front k n (drawn_task s).state (omega arith))

no_fault : (n s p : ℕ) → first_fault p (tasks_from s n) ≡ 0
unfolding tasks_from first_fault drawn_task
no_fault zero s p = refl
no_fault (suc n) s p = rw (limits_hold (task_of s) (within s)) (no_fault n (drawn_task s).state (p + 1))

-- the period at each place is one of the six
each : (n s p : ℕ) → p < n → Fit (at (placed 0 (tasks_from s n)) p).period
unfolding tasks_from drawn_task
each zero s p h = absurd (omega arith)
each (suc n) s zero h = fit ((draw_of s).value % 97)
each (suc n) s (suc p) h = each n (drawn_task s).state p (omega arith)

module _ (n s : ℕ) where
  abbrev l : List Place
  l = placed 0 (tasks_from s n)

  counted : length l ≡ n
  counted = length-map (tasks_from s n) (place_of 0) ∙ tasks_length n s

  at_place : (p : ℕ) → p < length l → Fit (at l p).period
  at_place p h = each n s p (omega (arith, counted))

  divides : hyper_of l ∣ 80000
  divides = hyper_least l 80000 (λ p h. (at_place p h).low) (λ p h. dvd_of_mod-eq-zero (at l p).period (at_place p h).divides)

  longest : (q : ℕ) → q < length l → ((p : ℕ) → p < length l → (at l p).period ≤ (at l q).period) → hyper_of l ≡ (at l q).period
  longest q h all =
      dvd_antisymm (hyper_least l (at l q).period (λ p k. (at_place p k).low) (λ p k. shorter (at l p).period (at l q).period (at_place p k) (at_place q h) (all p k))) (hyper_multiple l q h)

  verdict : 1 ≤ n → n ≤ 12 → verdict_for n 0 (tasks_from s n) ≡ Ok (hyper_of l)
  unfolding verdict_for hyper_verdict after_gap
  verdict low high =
      rw (le-leb 1 n low, le-leb n 12 high, no_fault n s 1, le-leb (hyper_of l) 60000000 (omega (arith, le_of_dvd (omega arith) divides)))

-- ---- the chain

-- A load is refused with 8 at place 0 for places outside 1 to 12, and else not at all;
pub refused_with_holds : (seed places : ℕ) → load_of seed places ≡ cond (nat_le 1 places && nat_le places 12) (Ok (loaded seed places)) (Err (refusal 8 0))
unfolding load_of
refused_with_holds seed places = refl

module _ (seed places : ℕ) where
  -- so what a load is refused with is 8 at place 0, and for places outside 1 to 12 alone;
  pub refused_outside : (r : Refusal) → Err r ≡ load_of seed places → (r ≡ refusal 8 0) × ((1 ≤ places) × (places ≤ 12) → ⊥)
  refused_outside r h = go (nat_le 1 places) (nat_le places 12) refl refl (h ∙ refused_with_holds seed places)
    where
      go : (a b : Bool) → nat_le 1 places ≡ a → nat_le places 12 ≡ b → Err r ≡ cond (a && b) (Ok (loaded seed places)) (Err (refusal 8 0)) → (r ≡ refusal 8 0) × ((1 ≤ places) × (places ≤ 12) → ⊥)
      go true true e f h = absurd cc
      go true false e f h = let i : r ≡ refusal 8 0 = cc in (i, λ k. omega (arith, leb-false places 12 f))
      go false b e f h = let i : r ≡ refusal 8 0 = cc in (i, λ k. omega (arith, leb-false 1 places e))

  -- and of any load the refusal fits one number.
  pub small_refusal : (r : Refusal) → Err r ≡ load_of seed places → (r.number < 256) × (r.place ≤ 1000000000)
  small_refusal r h = rw ((refused_outside r h).0) (omega arith, omega arith)

  -- One that is not refused has 1 to 12 places, and is the chain of those draws.
  pub not_refused : (c : Chain) → Ok c ≡ load_of seed places → (1 ≤ places) × (places ≤ 12) × (c ≡ loaded seed places)
  unfolding load_of
  not_refused c h = go (nat_le 1 places) (nat_le places 12) refl refl h
    where
      go : (a b : Bool) → nat_le 1 places ≡ a → nat_le places 12 ≡ b → Ok c ≡ cond (a && b) (Ok (loaded seed places)) (Err (refusal 8 0)) → (1 ≤ places) × (places ≤ 12) × (c ≡ loaded seed places)
      go true true e f h = let i : c ≡ loaded seed places = cc in (leb-true 1 places e, leb-true places 12 f, i)
      go true false e f h = absurd cc
      go false b e f h = absurd cc

module _ (seed places : ℕ) (low : 1 ≤ places) (high : places ≤ 12) where
  abbrev c : Chain
  c = loaded seed places

  -- 8 does not come: a chain is made, and
  pub made : load_of seed places ≡ Ok c
  unfolding load_of
  made = rw (le-leb 1 places low, le-leb places 12 high)

  -- the tasks at the places are those of the draws.
  pub given : given_of c ≡ tasks_from seed places
  given = ap (λ (n : ℕ). take n (array_from seed places)) (sym (tasks_length places seed)) ∙ take_padded zero_task 12 (tasks_from seed places) (omega (arith, tasks_length places seed))

  -- Its array has twelve tasks.
  pub twelve_tasks : length c.tasks ≡ 12
  twelve_tasks = length_padded zero_task 12 (tasks_from seed places) (omega (arith, tasks_length places seed))

  at_places : tasks_of c ≡ placed 0 (tasks_from seed places)
  at_places = ap (placed 0) given

  -- Every chain so made passes the checks.
  pub passes : verdict_of c ≡ Ok (hyper_of (tasks_of c))
  passes = ap (verdict_for places 0) given ∙ verdict places seed low high ∙ ap (λ (l : List Place). Ok (hyper_of l)) (sym at_places)

  -- Its hyperperiod divides 80,000,
  pub hyper_divides : hyper_of (tasks_of c) ∣ 80000
  hyper_divides = rw at_places (divides places seed)

  -- and is the longest period, at whichever place q that stands.
  pub hyper_longest : (q : ℕ) → q < length (tasks_of c) → ((p : ℕ) → p < length (tasks_of c) → (at (tasks_of c) p).period ≤ (at (tasks_of c) q).period) → hyper_of (tasks_of c) ≡ (at (tasks_of c) q).period
  hyper_longest = rw at_places (longest places seed)
