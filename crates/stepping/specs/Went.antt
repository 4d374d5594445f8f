-- Several places in a row have moved on, each after its neighbour.
use Rattle.std.specs.Prelude.{ℕ, ◌+◌, ◌-◌, ◌*◌, ◌/◌, ◌%◌, ◌≤◌, ◌<◌, ◌≡◌, refl, ◌≢◌, cond, List, eqb, length, get_or}
use Rattle.std.proofs.Common.{arith, div-mul-le_self, sym, ap, ◌∙◌, eq-eqb, ne_eqb}
use Rattle.std.proofs.Math.Decide.{ℕ_discrete}
use Rattle.stepping.specs.Reciprocal.{Reciprocal}
use Rattle.stepping.specs.OnePlace.{period_at, factor_at, shift_at, job_at, rest_at, Advanced, Roomy, stored_other, stored_long, stored_job, stored_rest}

-- The ticks that the cut p goes on by, which is one period; the loops over the other places find it moved.
unfoldable pub cut_ticks : List ℕ → ℕ → ℕ → ℕ
cut_ticks r p i = cond (eqb i p) (period_at r p) 0

pub cut_ticks_holds : (r : List ℕ) (p : ℕ) → cut_ticks r p p ≡ period_at r p
unfolding cut_ticks
cut_ticks_holds r p = rw (eq-eqb p p refl)

pub other_ticks : (r : List ℕ) (p i : ℕ) → i ≢ p → cut_ticks r p i ≡ 0
unfolding cut_ticks
other_ticks r p i h = rw (ne_eqb i p h)

-- The ticks that place i went on by.
abbrev pub gone : List ℕ → ℕ → List ℕ → List ℕ → ℕ → ℕ
gone r p old new i = (job_at new i - job_at old i) * period_at r i + cut_ticks r p i

-- Place i moved on after its neighbour c.
pub record Goes (r : List ℕ) (p : ℕ) (old new : List ℕ) (c i : ℕ) : Type 0 where
  pub job : job_at new i ≡ job_at old i + (rest_at old i + gone r p old new c) / period_at r i
  pub rest : rest_at new i ≡ (rest_at old i + gone r p old new c) % period_at r i

-- The places from a to b − 1 moved on, the neighbour of i being c i; the others stand as they stood.
pub record Went (r : List ℕ) (p : ℕ) (c : ℕ → ℕ) (a b : ℕ) (old new : List ℕ) : Type 0 where
  pub long : length new ≡ length old
  pub each : (i : ℕ) → a ≤ i → i < b → Goes r p old new (c i) i
  pub low : (x : ℕ) → x < 2 * a → get_or new x 0 ≡ get_or old x 0
  pub high : (x : ℕ) → 2 * b ≤ x → get_or new x 0 ≡ get_or old x 0

-- What the constants and the state of a place are for its move to stay in range.
pub record PlaceReady (r state : List ℕ) (i : ℕ) : Type 0 where
  pub reciprocal : Reciprocal (period_at r i) (factor_at r i) (shift_at r i)
  pub rest : rest_at state i < 1000000
  pub job : job_at state i ≤ 2000000000000

-- The places from a to b − 1 can move on after the cut p.
pub record Ready (r : List ℕ) (p : ℕ) (state : List ℕ) (a b : ℕ) : Type 0 where
  pub few : b ≤ 12
  pub inside : p < 12
  pub cut_long : 3 * p + 3 ≤ length r
  pub cut_small : period_at r p ≤ 1000000
  pub constants_long : 3 * b ≤ length r
  pub state_long : 2 * b ≤ length state
  pub each : (i : ℕ) → a ≤ i → i < b → PlaceReady r state i

-- nothing moved yet
pub went_none : (r : List ℕ) (p : ℕ) (c : ℕ → ℕ) (a b : ℕ) (s : List ℕ) → b ≤ a → Went r p c a b s s
went_none r p c a b s h = record { long = refl; each = λ i l u. absurd (omega arith); low = λ x l. refl; high = λ x l. refl }

pub gone_cut : (r : List ℕ) (p : ℕ) (old new : List ℕ) → job_at new p ≡ job_at old p → period_at r p ≡ gone r p old new p
gone_cut r p old new e =
    let d : job_at new p - job_at old p ≡ 0 = omega arith in
    rw (d, cut_ticks_holds r p) (omega arith)

goes_same : (r : List ℕ) (p : ℕ) (old mid new : List ℕ) (c i : ℕ) → job_at new c ≡ job_at mid c → job_at new i ≡ job_at mid i → rest_at new i ≡ rest_at mid i → Goes r p old mid c i → Goes r p old new c i
goes_same r p old mid new c i j k q g = record { job = rw (j, k) g.job; rest = rw (j, q) g.rest }

-- place i moves on after its neighbour c i, which went on by so many ticks
module _ (r : List ℕ) (p : ℕ) (c : ℕ → ℕ) (old mid new : List ℕ) (i ticks moved : ℕ) (ad : Advanced r i ticks mid new moved) (room : 2 * i + 2 ≤ length mid) where
  abbrev jobs : ℕ
  jobs = (rest_at mid i + ticks) / period_at r i

  abbrev left : ℕ
  left = (rest_at mid i + ticks) % period_at r i

  kept : (x : ℕ) → x ≢ 2 * i → x ≢ 2 * i + 1 → get_or new x 0 ≡ get_or mid x 0
  kept = stored_other mid new i (job_at mid i + jobs) left ad.stored

  new_job : job_at new i ≡ job_at mid i + jobs
  new_job = stored_job mid new i (job_at mid i + jobs) left ad.stored room

  module _ (stood : job_at mid i ≡ job_at old i) (apart : i ≢ p) where
    -- the call's answer is how far the place went on
    pub went_gone : moved ≡ gone r p old new i
    went_gone =
        let d : job_at new i - job_at old i ≡ jobs = omega (arith, new_job) in
        rw (d, other_ticks r p i apart) (omega (arith, ad.is))

    went_goes : rest_at mid i ≡ rest_at old i → c i ≢ i → ticks ≡ gone r p old mid (c i) → Goes r p old new (c i) i
    went_goes rest other k =
        let j : gone r p old new (c i) ≡ ticks
        = ap (λ (y : ℕ). (y - job_at old (c i)) * period_at r (c i) + cut_ticks r p (c i)) (kept (2 * c i) (λ q. other (omega arith)) (λ q. omega arith)) ∙ sym k in
        record {
          job = rw (j, sym rest) (omega (arith, new_job, stood));
          rest = rw (j, sym rest) (stored_rest mid new i (job_at mid i + jobs) left ad.stored room);
        }

    -- the places from a to b − 1 become those from a' to b' − 1
    pub went_more : (a b a' b' : ℕ) → Went r p c a b old mid → rest_at mid i ≡ rest_at old i → ticks ≡ gone r p old mid (c i) → a' ≤ i → i < b' → a' ≤ a → b ≤ b'
        → ((x : ℕ) → a' ≤ x → x < b' → x ≢ i → (a ≤ x) × (x < b)) → ((x : ℕ) → a' ≤ x → x < b' → c x ≢ i) → Went r p c a' b' old new
    went_more a b a' b' w rest k la lb wa wb in_row aside = record {
      long = stored_long mid new i (job_at mid i + jobs) left ad.stored ∙ w.long;
      each = λ x l u. elim (ℕ_discrete x i) [
        | yes q ↦ rw q (went_goes rest (aside i la lb) k)
        | no q ↦
            let y = in_row x l u q in
            goes_same r p old mid new (c x) x (kept (2 * c x) (λ z. aside x l u (omega arith)) (λ z. omega arith)) (kept (2 * x) (λ z. q (omega arith)) (λ z. omega arith)) (kept (2 * x + 1) (λ z. omega arith) (λ z. q (omega arith))) (w.each x y.0 y.1)
      ];
      low = λ x l. kept x (λ z. omega arith) (λ z. omega arith) ∙ w.low x (omega arith);
      high = λ x l. kept x (λ z. omega arith) (λ z. omega arith) ∙ w.high x (omega arith);
    }

-- ---- ranges

-- there is room for the move: a rest is below 1,000,000, and no more than twelve periods come together; s has the place's entries as they were
pub roomy : (r s state : List ℕ) (i ticks : ℕ) → PlaceReady r state i → ticks ≤ 12000000 → i < 12 → 3 * i + 3 ≤ length r → 2 * i + 2 ≤ length s → job_at s i ≡ job_at state i → rest_at s i ≡ rest_at state i → Roomy r s i ticks
roomy r s state i ticks pl bound few cl sl j q = record {
  few = few;
  constants_long = cl;
  state_long = sl;
  reciprocal = pl.reciprocal;
  job_small = omega (arith, pl.job);
  ticks_small = omega (arith, pl.rest);
}

-- a place goes on by at most its rest and what its neighbour went on by
pub next_bound : (r s state : List ℕ) (i ticks top : ℕ) → PlaceReady r state i → ticks ≤ top → (new : List ℕ) (moved : ℕ) → Advanced r i ticks s new moved → rest_at s i ≡ rest_at state i → moved ≤ top + 1000000
next_bound r s state i ticks top pl bound new moved ad q = omega (arith, pl.rest, ad.is, div-mul-le_self (rest_at s i + ticks) (period_at r i))
