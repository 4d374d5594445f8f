-- Laws of any two functions on job numbers, f forward and b counting back, of which f j < n exactly when j < b n; and a way along a chain as such a pair.
-- The count back from n is how many jobs of the earlier place go forward to a job below n: 0 where there is none, else one more than the latest.
use Rattle.std.specs.Prelude.{ℕ, zero, suc, ◌+◌, ◌≤◌, ◌<◌, ◌≡◌, ◌↔◌, List, None, Option, Some}
use Rattle.std.proofs.Common.{arith}
use Rattle.std.proofs.Math.Decide.{dec_lt, dec_le}
use Rattle.task.specs.declared.Job.{Job}
use Rattle.task.specs.declared.Place.{Place}
use Rattle.task.proofs.LinkLaws.{AtLeast}
use Rattle.chain.specs.Chains.{forward_by, backward_by}
use Rattle.chain.specs.Galois.{Periods, galois}

module _ (f b : ℕ → ℕ) (gal : (j n : ℕ) → (f j < n) ↔ (j < b n)) where
  pub f_mono : (i j : ℕ) → i ≤ j → f i ≤ f j
  f_mono i j l =
      let u : j < b (suc (f j)) = (gal j (suc (f j))).0 (omega arith) in
      let v : f i < suc (f j) = (gal i (suc (f j))).1 (omega arith) in
      omega arith

  pub b_mono : (m n : ℕ) → m ≤ n → b m ≤ b n
  b_mono m n l = elim (dec_le (b m) (b n)) [
    | yes h ↦ h
    | no h ↦
        let u : f (b n) < m = (gal (b n) m).1 (omega arith) in
        let v : b n < b n = (gal (b n) n).0 (omega arith) in
        omega arith
  ]

  -- n is reached by a job exactly when job 0 has come below it
  pub reaches_iff : (k : ℕ) → (0 < b (suc k)) ↔ (f 0 ≤ k)
  reaches_iff k = (λ h. let u = (gal 0 (suc k)).1 h in omega arith, λ h. (gal 0 (suc k)).0 (omega arith))

  -- w is the last job that comes as early as job 0 does
  module _ (w : ℕ) (is : b (suc (f 0)) ≡ suc w) where
    pub warm_same : f w ≡ f 0
    warm_same =
        let u : f w < suc (f 0) = (gal w (suc (f 0))).1 (omega (arith, is)) in
        let v : f 0 ≤ f w = f_mono 0 w (omega arith) in
        omega arith

    pub warm_next : f 0 < f (suc w)
    warm_next = elim (dec_lt (f 0) (f (suc w))) [
      | yes h ↦ h
      | no h ↦ let u = (gal (suc w) (suc (f 0))).0 (omega arith) in omega (arith, is)
    ]

    -- where another pair, f' and b', counts back p more from a step of q on, its way forward is q later from p on, after w
    pub f_later : (f' b' : ℕ → ℕ) → ((j n : ℕ) → (f' j < n) ↔ (j < b' n)) → (p q : ℕ) → ((n : ℕ) → 0 < b n → b' (n + q) ≡ b n + p) → (j : ℕ) → w < j → f' (j + p) ≡ f j + q
    f_later f' b' gal' p q per j l =
        let a : f (suc w) ≤ f j = f_mono (suc w) j l in
        let up : j < b (suc (f j)) = (gal j (suc (f j))).0 (omega arith) in
        let u : f' (j + p) < suc (f j) + q = (gal' (j + p) (suc (f j) + q)).1 (omega (arith, per (suc (f j)) (omega arith))) in
        let pos : 0 < b (f j) = (gal 0 (f j)).0 (omega (arith, warm_next)) in
        elim (dec_lt (f' (j + p)) (f j + q)) [
          | yes h ↦
              let x : j + p < b' (f j + q) = (gal' (j + p) (f j + q)).0 h in
              let y : f j < f j = (gal j (f j)).1 (omega (arith, per (f j) pos)) in
              omega arith
          | no h ↦ omega arith
        ]

-- ---- a way along a chain

abbrev pub count_of : Option Job → ℕ
count_of (Some j) = suc j.0
count_of None = 0

-- how many jobs of place p go forward, n places on, to a job below m
unfoldable pub count_back : List Place → ℕ → ℕ → ℕ → ℕ
count_back l p n zero = 0
count_back l p n (suc m) = count_of (backward_by l p n m)

pub at_least_count : (q : Option Job) (j : ℕ) → AtLeast q j ↔ (j < count_of q)
at_least_count (Some i) j = (λ h. omega arith, λ h. omega arith)
at_least_count None j = (λ h. absurd h, λ h. omega arith)

pub pair : (l : List Place) (p n : ℕ) → Periods l (p + n) → (j m : ℕ) → (forward_by l p n j < m) ↔ (j < count_back l p n m)
unfolding count_back
pair l p n pos j zero = (λ h. omega arith, λ h. omega arith)
pair l p n pos j (suc m) =
    let g = galois l p n pos j m in
    let a = at_least_count (backward_by l p n m) j in
    (λ h. a.0 (g.0 (omega arith)), λ h. let u = g.1 (a.1 h) in omega arith)

-- a way along a chain is monotone
pub forward_mono : (l : List Place) (p n : ℕ) → Periods l (p + n) → (i j : ℕ) → i ≤ j → forward_by l p n i ≤ forward_by l p n j
forward_mono l p n pos = f_mono (forward_by l p n) (count_back l p n) (pair l p n pos)

-- both ways, and once there is a job backward there is one from every later job
pub backward_mono : (l : List Place) (p n : ℕ) → Periods l (p + n) → (m k j : ℕ) → m ≤ k → AtLeast (backward_by l p n m) j → AtLeast (backward_by l p n k) j
backward_mono l p n pos m k j h a =
    let u = (galois l p n pos j m).1 a in
    (galois l p n pos j k).0 (omega arith)
