-- The hyperperiod is a common multiple of the periods at the chain's places (`hyper_multiple`), and divides every other (`hyper_least`).
use Rattle.std.specs.Prelude.{ℕ, zero, suc, ◌*◌, ◌/◌, ◌≤◌, ◌<◌, ◌≡◌, List, [], ◌∷◌, length}
use Rattle.std.specs.Int.{◌∣◌}
use Rattle.std.proofs.Common.{arith, ap}
use Rattle.std.proofs.Math.Decide.{dec_lt}
use Rattle.std.proofs.Math.Nat.{dvd_refl, dvd_trans, div-mul_cancel, one-dvd}
use Rattle.task.specs.declared.Place.{Place}
use Rattle.euclid.specs.Divisor.{lcm_of}
use Rattle.euclid.proofs.LeastMultiple.{lcm_left, lcm_right, lcm_least, lcm_pos, lcm_ge}
use Rattle.chain.specs.Chains.{at}
use Rattle.chain.specs.Hyperperiod.{hyper_from, hyper_of}
use Rattle.chain.specs.Checks.{Sound}

-- it is a multiple of what it starts from,
from_divides : (l : List Place) (h : ℕ) → h ∣ hyper_from h l
unfolding hyper_from
from_divides [] h = dvd_refl h
from_divides (a ∷ l) h = dvd_trans h (lcm_left h a.period) (from_divides l (lcm_of h a.period))

-- and of every period,
from_multiple : (l : List Place) (h p : ℕ) → p < length l → (at l p).period ∣ hyper_from h l
unfolding hyper_from
from_multiple [] h p g = absurd (omega arith)
from_multiple (a ∷ l) h zero g = dvd_trans a.period (lcm_right h a.period) (from_divides l (lcm_of h a.period))
from_multiple (a ∷ l) h (suc p) g = from_multiple l (lcm_of h a.period) p (omega arith)

-- and the least such number.
from_least : (l : List Place) (h m : ℕ) → 1 ≤ h → ((p : ℕ) → p < length l → 1 ≤ (at l p).period) → h ∣ m → ((p : ℕ) → p < length l → (at l p).period ∣ m) → hyper_from h l ∣ m
unfolding hyper_from
from_least [] h m pos w d all = d
from_least (a ∷ l) h m pos w d all =
    from_least l (lcm_of h a.period) m (lcm_pos h a.period pos (w 0 (omega arith))) (λ p g. w (suc p) (omega arith))
    (lcm_least h a.period m pos d (all 0 (omega arith))) (λ p g. all (suc p) (omega arith))

from_pos : (l : List Place) (h : ℕ) → 1 ≤ h → ((p : ℕ) → p < length l → 1 ≤ (at l p).period) → 1 ≤ hyper_from h l
unfolding hyper_from
from_pos [] h pos w = pos
from_pos (a ∷ l) h pos w = from_pos l (lcm_of h a.period) (lcm_pos h a.period pos (w 0 (omega arith))) (λ p g. w (suc p) (omega arith))

-- of a chain that passes 8 and 5 it is at least 1
pub hyper_pos : (l : List Place) → Sound l → 1 ≤ hyper_of l
hyper_pos l ok = from_pos l 1 (omega arith) (λ p h. (ok.each p h).period_pos)

-- the fold only grows
pub from_ge : (l : List Place) (h : ℕ) → ((p : ℕ) → p < length l → 1 ≤ (at l p).period) → h ≤ hyper_from h l
unfolding hyper_from
from_ge [] h w = omega arith
from_ge (a ∷ l) h w = omega (arith, lcm_ge h a.period (w 0 (omega arith)), from_ge l (lcm_of h a.period) (λ p g. w (suc p) (omega arith)))

-- H is a common multiple of the periods at the places,
pub hyper_multiple : (l : List Place) (p : ℕ) → p < length l → (at l p).period ∣ hyper_of l
hyper_multiple l p h = from_multiple l 1 p h

pub hyper_times : (l : List Place) (p : ℕ) → p < length l → hyper_of l / (at l p).period * (at l p).period ≡ hyper_of l
hyper_times l p h = div-mul_cancel (at l p).period (hyper_multiple l p h)

-- so of a chain that passes 8 and 5 every place has a job in it,
pub some_jobs : (l : List Place) → Sound l → (p : ℕ) → p < length l → 1 ≤ hyper_of l / (at l p).period
some_jobs l ok p h = elim (dec_lt 0 (hyper_of l / (at l p).period)) [
  | yes k ↦ k
  | no k ↦ let z : hyper_of l / (at l p).period ≡ 0 = omega arith in absurd (omega (arith, ap (λ (x : ℕ). x * (at l p).period) z, hyper_times l p h, hyper_pos l ok))
]

-- and the least: every common multiple is a multiple of H.
pub hyper_least : (l : List Place) (m : ℕ) → ((p : ℕ) → p < length l → 1 ≤ (at l p).period) → ((p : ℕ) → p < length l → (at l p).period ∣ m) → hyper_of l ∣ m
hyper_least l m w all = from_least l 1 m (omega arith) w (one-dvd m) all
