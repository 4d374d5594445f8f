-- Which phases need not be tried. A phase counts only beside the other tasks of the chain: later by the greatest common divisor of the task's period and a multiple of all other periods, it is the
-- same chain at another time (`phases_repeat`).
use Rattle.std.specs.Prelude.{ℕ, ◌+◌, ◌*◌, ◌/◌, ◌≤◌, ◌<◌, ◌≡◌, Bool, true, false, cond, List, eqb, get_or}
use Rattle.std.specs.Int.{◌∣◌}
use Rattle.std.proofs.Common.{arith, ap, eqb-true}
use Rattle.std.proofs.Math.Nat.{div-mul_cancel, dvd-mul_left_of_dvd}
use Rattle.std.proofs.Math.Path.{refl}
use Rattle.std.proofs.Math.ListN.{length}
use Rattle.std.proofs.lemmas.List.{length-map}
use Rattle.std.proofs.lemmas.Bool.{eqb-false}
use Rattle.euclid.specs.Divisor.{gcd_of}
use Rattle.euclid.specs.Combination.{Less, divisor_right}
use Rattle.task.specs.declared.Task.{Task}
use Rattle.task.specs.Jobs.{place_of}
use Rattle.task.proofs.LinkLaws.{Later, periods_later}
use Rattle.chain.specs.Chains.{placed, last_place, zero_task}
use Rattle.chain.specs.Checks.{Sound}
use Rattle.timing.specs.Period.{ShiftedTo}
use Rattle.latency.specs.Latency.{greatest_latency}
use Rattle.phase.specs.Phases.{phased}
use Rattle.phase.specs.MovedTasks.{moved_at, moved_count, moved_place, moved_list_sound}
use Rattle.phase.specs.AnotherTime.{greatest_shifts}

-- T is the period at the places with this number, and L a multiple of the periods at all other places.
pub record Periods (number T L : ℕ) (places : List ℕ) (l : List Task) : Type 0 where
  pub own : (i : ℕ) → i < length l → get_or places i 0 ≡ number → (get_or l i zero_task).period ≡ T
  pub others : (i : ℕ) → i < length l → (get_or places i 0 ≡ number → ⊥) → (get_or l i zero_task).period ∣ L
  pub some : 1 ≤ T
  pub multiple : 1 ≤ L

module _ (number T L g : ℕ) (places : List ℕ) (l : List Task) (long : length places ≡ length l) (k : Periods number T L places l) where
  abbrev d : ℕ
  d = gcd_of T L

  -- a multiple of L that is d more than a multiple of T
  ticks : Less L T d
  ticks = divisor_right T L k.some k.multiple

  abbrev x : ℕ
  x = ticks.u * L

  jobs : ℕ → ℕ
  jobs i = cond (eqb (get_or places i 0) number) ticks.v (x / (get_or l i zero_task).period)

  -- a place with this number moves by d and some jobs, and any other by jobs alone
  place_later : (F m : ℕ) (a : Task) (b : Bool) → eqb m number ≡ b → (m ≡ number → a.period ≡ T) → ((m ≡ number → ⊥) → a.period ∣ L)
      → Later (place_of g (cond b (phased F a) a)) (place_of g (cond b (phased (F + d) a) a)) x (cond b ticks.v (x / a.period))
  place_later F m a true e own others =
      let q : ticks.v * a.period ≡ ticks.v * T = ap (λ (y : ℕ). ticks.v * y) (own (eqb-true m number e)) in
      record { period = refl; duration = refl; gap = refl; phase = omega (arith, ticks.is) }
  place_later F m a false e own others =
      periods_later (place_of g a) x (x / a.period) (div-mul_cancel a.period (dvd-mul_left_of_dvd a.period (others (eqb-false m number e)) ticks.u))

  module _ (F : ℕ) (top : F + d ≤ 1000000) (ok : Sound (placed g l)) where
    early : Sound (placed g (moved_at number F places l))
    early = moved_list_sound number g F places l long (omega arith) ok

    late : Sound (placed g (moved_at number (F + d) places l))
    late = moved_list_sound number g (F + d) places l long top ok

    counts : (E : ℕ) → length (placed g (moved_at number E places l)) ≡ length l
    counts E = omega (arith, moved_count number g E places l long, length-map l (place_of g))

    shifted : ShiftedTo (placed g (moved_at number F places l)) (placed g (moved_at number (F + d) places l)) x jobs (0 + last_place (placed g (moved_at number F places l)))
    unfolding jobs
    shifted i h =
        let inside : i < length l = omega (arith, counts F, early.some) in (
          (early.each i (omega (arith, counts F))).period_pos,
          rw (moved_place number g F places l long i inside, moved_place number g (F + d) places l long i inside)
              (place_later F (get_or places i 0) (get_or l i zero_task) (eqb (get_or places i 0) number) refl (k.own i inside) (k.others i inside)),
        )

    pub phases_repeat : greatest_latency (placed g (moved_at number (F + d) places l)) ≡ greatest_latency (placed g (moved_at number F places l))
    phases_repeat = greatest_shifts (placed g (moved_at number F places l)) (placed g (moved_at number (F + d) places l)) early late (omega (arith, counts F, counts (F + d))) x jobs shifted
