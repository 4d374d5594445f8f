-- One place's job moves on: from where it was to the job that the definition gives.
use Rattle.std.specs.Prelude.{ℕ, ◌+◌, ◌*◌, ◌/◌, ◌%◌, ◌≤◌, ◌<◌, ◌≡◌, List, ◌≢◌, length, get_or, set}
use Rattle.std.proofs.Common.{arith, add-mul, div-add-mod', mod-lt, mod-eq_of_lt, ap, ◌∙◌, length-set, get_or-set_same, get_or-set_other}
use Rattle.std.proofs.Math.Nat.{mul-add-div_right, mul-add-mod_self_right, div-eq_of_lt}
use Rattle.stepping.specs.Reciprocal.{Reciprocal}

-- The constants of a place, three each: its period, the factor and the shift that stand for a division by it.
abbrev pub period_at : List ℕ → ℕ → ℕ
period_at r i = get_or r (3 * i) 0

abbrev pub factor_at : List ℕ → ℕ → ℕ
factor_at r i = get_or r (3 * i + 1) 0

abbrev pub shift_at : List ℕ → ℕ → ℕ
shift_at r i = get_or r (3 * i + 2) 0

-- The state of a place, two each: its job and its rest.
abbrev pub job_at : List ℕ → ℕ → ℕ
job_at state i = get_or state (2 * i) 0

abbrev pub rest_at : List ℕ → ℕ → ℕ
rest_at state i = get_or state (2 * i + 1) 0

-- The state after a job and a rest were stored at place i.
abbrev pub stored_at : List ℕ → ℕ → ℕ → ℕ → List ℕ
stored_at s i job rest = set (set s (2 * i) job) (2 * i + 1) rest

-- Place i moves on where its neighbour went on by so many ticks: what they and the rest have of whole periods are its jobs, and what is left is its rest. The answer is the ticks of these jobs.
pub record Advanced (r : List ℕ) (i ticks : ℕ) (old new : List ℕ) (moved : ℕ) : Type 0 where
  pub stored : new ≡ stored_at old i (job_at old i + (rest_at old i + ticks) / period_at r i) ((rest_at old i + ticks) % period_at r i)
  pub is : moved ≡ (rest_at old i + ticks) / period_at r i * period_at r i

-- What it needs: the place's constants, and no large number.
pub record Roomy (r state : List ℕ) (i ticks : ℕ) : Type 0 where
  pub few : i < 12
  pub constants_long : 3 * i + 3 ≤ length r
  pub state_long : 2 * i + 2 ≤ length state
  pub reciprocal : Reciprocal (period_at r i) (factor_at r i) (shift_at r i)
  pub job_small : job_at state i ≤ 2000000000000
  pub ticks_small : rest_at state i + ticks < 16777216

-- what a list holds after it
module _ (s new : List ℕ) (i job rest : ℕ) (is : new ≡ stored_at s i job rest) where
  pub stored_other : (x : ℕ) → x ≢ 2 * i → x ≢ 2 * i + 1 → get_or new x 0 ≡ get_or s x 0
  stored_other x h g = ap (λ (l : List ℕ). get_or l x 0) is ∙ get_or-set_other (set s (2 * i) job) (2 * i + 1) x rest 0 g ∙ get_or-set_other s (2 * i) x job 0 h

  pub stored_long : length new ≡ length s
  stored_long = ap length is ∙ length-set (set s (2 * i) job) (2 * i + 1) rest ∙ length-set s (2 * i) job

  module _ (room : 2 * i + 2 ≤ length s) where
    pub stored_job : job_at new i ≡ job
    stored_job = ap (λ (l : List ℕ). get_or l (2 * i) 0) is ∙ get_or-set_other (set s (2 * i) job) (2 * i + 1) (2 * i) rest 0 (λ q. omega arith) ∙ get_or-set_same s (2 * i) job 0 (omega arith)

    pub stored_rest : rest_at new i ≡ rest
    stored_rest = ap (λ (l : List ℕ). get_or l (2 * i + 1) 0) is ∙ get_or-set_same (set s (2 * i) job) (2 * i + 1) rest 0 (omega (arith, length-set s (2 * i) job))

-- A job and a rest are the quotient and the remainder of ticks N. Where N rises, those of the new ticks are had from the rest and the rise alone.
pub moves_on : (N N' T j s rise : ℕ) → 1 ≤ T → j ≡ N / T → s ≡ N % T → N' ≡ N + rise → (N' / T ≡ j + (s + rise) / T) × (N' % T ≡ (s + rise) % T)
moves_on N N' T j s rise pos job rest up =
    let q : ℕ = (s + rise) / T in
    let z : ℕ = (s + rise) % T in
    let n : j * T + s ≡ N = ap (λ (a : ℕ). a * T + s) job ∙ ap (λ (a : ℕ). N / T * T + a) rest ∙ div-add-mod' N T in
    let w : N' ≡ (j + q) * T + z = omega (arith, n, up, add-mul j q T, div-add-mod' (s + rise) T) in
    let small : z < T = mod-lt (s + rise) {m = T} pos in (
      ap (λ (b : ℕ). b / T) w ∙ mul-add-div_right pos (j + q) z ∙ rw (div-eq_of_lt small) (omega arith),
      ap (λ (b : ℕ). b % T) w ∙ mul-add-mod_self_right (j + q) T z ∙ mod-eq_of_lt small,
    )
