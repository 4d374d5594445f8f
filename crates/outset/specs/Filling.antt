-- A place more: of what stands for a division, and of the first state.
use Rattle.std.specs.Prelude.{ℕ, ◌+◌, ◌*◌, ◌/◌, ◌%◌, ◌^◌, ◌≤◌, ◌<◌, ◌≡◌, ◌≢◌, List, length, get_or, set}
use Rattle.std.proofs.Common.{arith, div-add-mod', div-mul-le_self, div-le_self, mul-le-mul_left, add-mul, mod-lt, sym, ◌∙◌, length-set, get_or-set_same, get_or-set_other}
use Rattle.std.proofs.Math.Decide.{dec_lt, ℕ_discrete}
use Rattle.task.specs.declared.Place.{Place}
use Rattle.chain.specs.Chains.{at}
use Rattle.stepping.specs.Reciprocal.{Reciprocal}
use Rattle.stepping.specs.OnePlace.{factor_at, shift_at, job_at, rest_at, stored_other, stored_job, stored_rest}
use Rattle.stepping.specs.Standing.{back_job, on_job, back_ticks, on_ticks, StandsFrom, GivenTo}
use Rattle.outset.specs.Outset.{Given, Put}

-- ---- what stands for a division

-- the factor that the code makes for a power of two P serves
module _ (t P s : ℕ) (pos : 1 ≤ t) (power : 2 ^ s ≡ P) where
  abbrev factor : ℕ
  factor = P / t + 1

  product : factor * t ≡ P / t * t + t
  product = omega (arith, add-mul (P / t) 1 t)

  pub scale_serves : 16777216 * t ≤ P → s < 64 → factor ≤ 20000000000 → Reciprocal t factor s
  scale_serves near narrow fits = record {
    some = pos;
    low = rw power (omega (arith, product, div-add-mod' P t, mod-lt P {m = t} pos));
    high = rw power (omega (arith, product, div-mul-le_self P t));
    near = rw power near;
    narrow = narrow;
    fits = fits;
  }

pub scale_fits : (t : ℕ) → 17179869184 / t + 1 ≤ 20000000000
scale_fits t = omega (arith, div-le_self 17179869184 t)

pub long_scale_fits : (t : ℕ) → 1024 < t → 17592186044416 / t + 1 ≤ 20000000000
long_scale_fits t h =
    let n : 1025 ≤ t = omega arith in
    omega (arith, div-mul-le_self 17592186044416 t, mul-le-mul_left (17592186044416 / t) n)

-- the entries of place i, stored in a row
module _ (s : List ℕ) (i t f h : ℕ) (room : 3 * i + 3 ≤ length s) where
  abbrev one : List ℕ
  one = set s (3 * i) t

  abbrev two : List ℕ
  two = set one (3 * i + 1) f

  abbrev three : List ℕ
  three = set two (3 * i + 2) h

  two_long : length two ≡ length s
  two_long = length-set one (3 * i + 1) f ∙ length-set s (3 * i) t

  other : (x : ℕ) → x ≢ 3 * i → x ≢ 3 * i + 1 → x ≢ 3 * i + 2 → get_or three x 0 ≡ get_or s x 0
  other x a b c = get_or-set_other two (3 * i + 2) x h 0 c ∙ get_or-set_other one (3 * i + 1) x f 0 b ∙ get_or-set_other s (3 * i) x t 0 a

  pub given : Reciprocal t f h → Given i t s three
  given is =
      let a : factor_at three i ≡ f = get_or-set_other two (3 * i + 2) (3 * i + 1) h 0 (λ z. omega arith) ∙ get_or-set_same one (3 * i + 1) f 0 (omega (arith, length-set s (3 * i) t)) in
      let b : shift_at three i ≡ h = get_or-set_same two (3 * i + 2) h 0 (omega (arith, two_long)) in
      record {
        long = length-set two (3 * i + 2) h ∙ two_long;
        low = λ x u. other x (λ z. omega arith) (λ z. omega arith) (λ z. omega arith);
        high = λ x u. other x (λ z. omega arith) (λ z. omega arith) (λ z. omega arith);
        period = get_or-set_other two (3 * i + 2) (3 * i) h 0 (λ z. omega arith) ∙ get_or-set_other one (3 * i + 1) (3 * i) f 0 (λ z. omega arith) ∙ get_or-set_same s (3 * i) t 0 (omega arith);
        reciprocal = rw (a, b) is;
      }

-- a place more
pub given_more : (l : List Place) (i : ℕ) (old new : List ℕ) → GivenTo l i old → Given i (at l i).period old new → GivenTo l (i + 1) new
given_more l i old new to gv = record {
  period = λ x u. elim (dec_lt x i) [ yes k ↦ gv.low (3 * x) (omega arith) ∙ to.period x k | no k ↦ let e : x ≡ i = omega arith in rw e gv.period ];
  each = λ x u. elim (dec_lt x i) [
    | yes k ↦ rw (gv.low (3 * x) (omega arith), gv.low (3 * x + 1) (omega arith), gv.low (3 * x + 2) (omega arith)) (to.each x k)
    | no k ↦ let e : x ≡ i = omega arith in rw (e, gv.period) gv.reciprocal
  ];
}

-- ---- state

module _ (l : List Place) (p m : ℕ) (old new : List ℕ) where
  module _ (i z t r : ℕ) (pt : Put i z t old new r) where
    stay : (x : ℕ) → x ≢ 2 * i → x ≢ 2 * i + 1 → get_or new x 0 ≡ get_or old x 0
    stay = stored_other old new i (z / t) (z % t) pt.stored

    job_stays : (x : ℕ) → x ≢ i → job_at new x ≡ job_at old x
    job_stays x h = stay (2 * x) (λ q. h (omega arith)) (λ q. omega arith)

    rest_stays : (x : ℕ) → x ≢ i → rest_at new x ≡ rest_at old x
    rest_stays x h = stay (2 * x + 1) (λ q. omega arith) (λ q. h (omega arith))

  pub stands_back : (i b r : ℕ) → i < p → p < b → 2 * i + 2 ≤ length old → StandsFrom l p m (i + 1) b old → Put i (back_ticks l p m i) (at l i).period old new r → back_job l p m i ≡ back_ticks l p m i / (at l i).period → StandsFrom l p m i b new
  stands_back i b r u v room f pt e =
      let j = job_stays i (back_ticks l p m i) (at l i).period r pt in
      let k = rest_stays i (back_ticks l p m i) (at l i).period r pt in
      record {
        back_jobs = λ x g h. elim (ℕ_discrete x i) [ yes q ↦ rw q (stored_job old new i (back_ticks l p m i / (at l i).period) (back_ticks l p m i % (at l i).period) pt.stored room ∙ sym e) | no q ↦ j x q ∙ f.back_jobs x (more x g q) h ];
        back_rests = λ x g h. elim (ℕ_discrete x i) [ yes q ↦ rw q (stored_rest old new i (back_ticks l p m i / (at l i).period) (back_ticks l p m i % (at l i).period) pt.stored room) | no q ↦ k x q ∙ f.back_rests x (more x g q) h ];
        on_jobs = λ c g h. j (c + 1) (λ z. omega arith) ∙ f.on_jobs c g h;
        on_rests = λ c g h. k (c + 1) (λ z. omega arith) ∙ f.on_rests c g h;
      }
    where
      more : (x : ℕ) → i ≤ x → x ≢ i → i + 1 ≤ x
      more x g q = omega arith

  pub stands_on : (c r : ℕ) → p ≤ c → 2 * (c + 1) + 2 ≤ length old → StandsFrom l p m 0 (c + 1) old → Put (c + 1) (on_ticks l p m c) (at l (c + 1)).period old new r → on_job l p m (c + 1) ≡ on_ticks l p m c / (at l (c + 1)).period → StandsFrom l p m 0 (c + 1 + 1) new
  stands_on c r u room f pt e =
      let j = job_stays (c + 1) (on_ticks l p m c) (at l (c + 1)).period r pt in
      let k = rest_stays (c + 1) (on_ticks l p m c) (at l (c + 1)).period r pt in
      record {
        back_jobs = λ x g h. j x (λ z. omega arith) ∙ f.back_jobs x g h;
        back_rests = λ x g h. k x (λ z. omega arith) ∙ f.back_rests x g h;
        on_jobs = λ x g h. elim (ℕ_discrete x c) [
          | yes q ↦ rw q (stored_job old new (c + 1) (on_ticks l p m c / (at l (c + 1)).period) (on_ticks l p m c % (at l (c + 1)).period) pt.stored room ∙ sym e)
          | no q ↦ j (x + 1) (λ z. q (omega arith)) ∙ f.on_jobs x g (fewer x h q)
        ];
        on_rests = λ x g h. elim (ℕ_discrete x c) [
          | yes q ↦ rw q (stored_rest old new (c + 1) (on_ticks l p m c / (at l (c + 1)).period) (on_ticks l p m c % (at l (c + 1)).period) pt.stored room)
          | no q ↦ k (x + 1) (λ z. q (omega arith)) ∙ f.on_rests x g (fewer x h q)
        ];
      }
    where
      fewer : (x : ℕ) → x + 1 < c + 1 + 1 → x ≢ c → x + 1 < c + 1
      fewer x h q = omega arith
