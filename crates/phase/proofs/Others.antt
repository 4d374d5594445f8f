-- The multiple of the other tasks' periods, place by place.
use Prim.Native.Nat.{ℕ, ◌+◌, ◌*◌, ◌≤◌, ◌<◌, ◌∣◌}
use native.Mathlib.Omega.{arith}
use native.Mathlib.Decide.{dec_lt}
use native.Mathlib.Nat.{one-dvd, dvd_trans, le_of_dvd, mul-le-mul_left}
use mathlib.Core.Path.{◌≡◌, sym, ap, ◌∙◌, subst}
use mathlib.Core.List.{List}
use lib.ListN.{length, get_or, length-map}
use Rattle.euclid.specs.Divisor.{lcm_of}
use Rattle.euclid.proofs.LeastMultiple.{lcm_left, lcm_right, lcm_least, lcm_pos}
use Rattle.task.specs.declared.Task.{Task}
use Rattle.task.specs.declared.Place.{Place}
use Rattle.task.specs.Jobs.{place_of}
use Rattle.chain.specs.Chains.{placed, at, zero_task}
use Rattle.chain.specs.Placed.{at_placed}
use Rattle.chain.specs.Hyperperiod.{hyper_of}
use Rattle.chain.specs.Multiples.{hyper_multiple, hyper_pos}
use Rattle.phase.specs.InList.{AcceptedList}

-- the product of two small numbers fits
pub product_fits : (x y : ℕ) → x ≤ 60000000 → y ≤ 1000000 → x * y ≤ 1000000000000000000
product_fits x y a b = omega (arith, mul-le-mul_left {m = y} {n = 1000000} x b)

pub record Multiplied (g number : ℕ) (places : List ℕ) (l : List Task) (multiple i : ℕ) : Type 0 where
  pub few : i ≤ length places
  pub some : 1 ≤ multiple
  pub divides : multiple ∣ hyper_of (placed g l)
  pub others : (j : ℕ) → j < i → (get_or places j 0 ≡ number → ⊥) → (get_or l j zero_task).period ∣ multiple

module _ (g number : ℕ) (places : List ℕ) (l : List Task) (ok : AcceptedList g places l) where
  pub multiplied_start : Multiplied g number places l 1 0
  multiplied_start = record { few = omega arith; some = omega arith; divides = one-dvd (hyper_of (placed g l)); others = λ j h e. absurd (omega arith) }

  module _ (multiple i : ℕ) (k : Multiplied g number places l multiple i) where
    module _ (more : i < length places) where
      pub place_inside : (i < length (placed g l)) × (i < 12)
      place_inside = (omega (arith, ok.long, length-map l (place_of g)), omega (arith, ok.long, length-map l (place_of g), ok.sound.few))

      -- a place of the task itself
      pub multiplied_skip : get_or places i 0 ≡ number → Multiplied g number places l multiple (i + 1)
      multiplied_skip e = record {
        few = omega arith;
        some = k.some;
        divides = k.divides;
        others = λ j h u. elim (dec_lt j i) [ yes v ↦ k.others j v u | no v ↦ absurd (let z : j ≡ i = omega arith in u (ap (λ (x : ℕ). get_or places x 0) z ∙ e)) ];
      }

      -- another place, a
      module _ (a : Place) (is : a ≡ at (placed g l) i) where
        period_is : a.period ≡ (get_or l i zero_task).period
        period_is = ap (λ (x : Place). x.period) (is ∙ at_placed g l i (omega (arith, ok.long)))

        -- both numbers are small
        pub multiplied_room : (1 ≤ multiple) × (multiple ≤ 60000000) × (1 ≤ a.period) × (a.period ≤ 1000000)
        multiplied_room =
            let limits = ok.sound.each i place_inside.0 in
            let same = ap (λ (x : Place). x.period) is in
            (k.some, omega (arith, le_of_dvd (hyper_pos (placed g l) ok.sound) k.divides, ok.small), omega (arith, same, limits.period_pos), omega (arith, same, limits.period_max))

        pub multiplied_turn : (next : ℕ) → next ≡ lcm_of multiple a.period → Multiplied g number places l next (i + 1)
        multiplied_turn next e =
            let limits = ok.sound.each i place_inside.0 in
            let pos : 1 ≤ a.period = omega (arith, ap (λ (x : Place). x.period) is, limits.period_pos) in
            let own : a.period ∣ hyper_of (placed g l) = subst (λ (x : Place). x.period ∣ hyper_of (placed g l)) (sym is) (hyper_multiple (placed g l) i place_inside.0) in
            rw e record {
              few = omega arith;
              some = lcm_pos multiple a.period k.some pos;
              divides = lcm_least multiple a.period (hyper_of (placed g l)) k.some k.divides own;
              others = λ j h u. elim (dec_lt j i) [
                | yes v ↦ dvd_trans (get_or l j zero_task).period (k.others j v u) (lcm_left multiple a.period)
                | no v ↦
                    let z : j ≡ i = omega arith in
                    subst (λ (x : ℕ). x ∣ lcm_of multiple a.period) (period_is ∙ ap (λ (y : ℕ). (get_or l y zero_task).period) (sym z)) (lcm_right multiple a.period)
              ];
            }
