-- Order 4 of document 02: "each place's job moves on from where it was to the job that the definition gives, in one making at most H divided by its period times."
-- Over a whole range of the cut's jobs, the look past it included, each place's job gains H / T (`gains`) and never goes back (`never_back`), so it moves at most H / T times (`moves_few`).
-- The same of the states that the steps of a making leave, by the contract of a step alone (`making_moves`). All for every cut and every duration.
-- And the start of the partition after the range is a hyperperiod after the warm-up tick (`starts_again`).
use Rattle.std.specs.Prelude.{ℕ, zero, suc, ◌+◌, ◌-◌, ◌/◌, ◌≤◌, ◌<◌, ◌≡◌, refl, ◌↔◌, cond, List, leb, eqb, length, Some}
use native.Mathlib.Omega.{arith}
use Rattle.std.proofs.Math.Decide.{dec_le, ℕ_discrete}
use Rattle.std.proofs.Math.Nat.{add-mul}
use Rattle.std.proofs.Common.{sym, ◌∙◌, le-leb, eq-eqb, ne_eqb}
use Rattle.std.proofs.Math.Path.{ap}
use Rattle.std.proofs.lemmas.Bool.{lt-leb}
use Rattle.task.specs.declared.Place.{Place}
use Rattle.task.specs.Jobs.{read_of}
use Rattle.task.proofs.LinkLaws.{AtLeast}
use Rattle.chain.specs.Chains.{at, forward_by, backward_by, job_of}
use Rattle.chain.specs.Checks.{Sound}
use Rattle.chain.specs.Hyperperiod.{hyper_of}
use Rattle.chain.specs.Multiples.{hyper_times}
use Rattle.chain.specs.Galois.{galois}
use Rattle.chain.specs.GaloisPair.{forward_mono, backward_mono}
use Rattle.timing.specs.WarmUp.{warm_at, warm_tick}
use Rattle.timing.specs.WarmLaws.{found, at_least_job}
use Rattle.timing.specs.Period.{backward_repeats, Repeats, hyper_repeats}
use Rattle.partition.specs.declared.Partition.{Partition}
use Rattle.partition.specs.Partitions.{start_of}
use Rattle.stepping.specs.OnePlace.{job_at}
use Rattle.stepping.specs.Standing.{back_job, on_job, Standing, Stepped}
use Rattle.stepping.specs.Onward.{back_self}
use Rattle.stepping.specs.Ways.{found_is, between, warm_between, back_is, on_late}

-- The job of place i that stands in the state at job m of the cut: on the way back up to the cut, on the way on after it.
unfoldable pub place_job : List Place → ℕ → ℕ → ℕ → ℕ
place_job l p m i = cond (leb i p) (back_job l p m i) (on_job l p m i)

-- How often f changes over the n steps from m on.
unfoldable pub moves_in : (ℕ → ℕ) → ℕ → ℕ → ℕ
moves_in f m zero = 0
moves_in f m (suc n) = moves_in f m n + cond (eqb (f (m + suc n)) (f (m + n))) 0 1

-- a figure that never falls changes at most as often as it gains
pub moves_gain : (f : ℕ → ℕ) (m n : ℕ) → ((k : ℕ) → m ≤ k → f k ≤ f (k + 1)) → f m + moves_in f m n ≤ f (m + n)
unfolding moves_in
moves_gain f m zero up = let e : m + 0 ≡ m = omega arith in rw e (omega arith)
moves_gain f m (suc n) up =
    let e : m + suc n ≡ m + n + 1 = omega arith in
    let u : f (m + suc n) ≡ f (m + n + 1) = ap f e in
    go (f (m + suc n)) (f (m + n)) (moves_in f m n) (moves_gain f m n up) (omega (arith, u, up (m + n) (omega arith)))
  where
    go : (y x k : ℕ) → f m + k ≤ x → x ≤ y → f m + (k + cond (eqb y x) 0 1) ≤ y
    go y x k a b = elim (ℕ_discrete y x) [ yes q ↦ rw (eq-eqb y x q) (omega arith) | no q ↦ rw (ne_eqb y x q) (omega arith) ]

moves_same : (f g : ℕ → ℕ) (a b n : ℕ) → ((k : ℕ) → k ≤ n → f (a + k) ≡ g (b + k)) → moves_in f a n ≡ moves_in g b n
unfolding moves_in
moves_same f g a b zero e = refl
moves_same f g a b (suc n) e = rw (moves_same f g a b n (λ k u. e k (omega arith)), e (suc n) (omega arith), e n (omega arith))

module _ (l : List Place) (ok : Sound l) (p : ℕ) (h : p < length l) where
  repeats : (i q : ℕ) → i ≤ q → q < length l → Repeats (hyper_of l) l (i + (q - i))
  repeats i q u v x g = hyper_repeats l ok q v x (omega arith)

  -- H / T_q jobs later the way back from place q comes to a job H / T_i later
  later : (i q : ℕ) → i ≤ q → q < length l → (m j : ℕ) → backward_by l i (q - i) m ≡ Some (record { 0 = j })
      → backward_by l i (q - i) (m + hyper_of l / (at l q).period) ≡ Some (record { 0 = j + hyper_of l / (at l i).period })
  later i q u v m j e =
      let z : i + (q - i) ≡ q = omega arith in
      let f = backward_repeats l (hyper_of l) i (q - i) (repeats i q u v) m (record { 0 = j }) e in
      rw z at f

  module _ (m : ℕ) (g : warm_at l p ≤ m) where
    pub back_gains : (i : ℕ) → i ≤ p → back_job l p (m + hyper_of l / (at l p).period) i ≡ back_job l p m i + hyper_of l / (at l i).period
    back_gains i u = ap job_of (later i p u h m (back_job l p m i) (back_is l ok p h m g i u))

    -- forward: the ways back from the job f at which the way on ends, and from the one before it, say where the later way on ends
    pub on_gains : (i : ℕ) → p ≤ i → i < length l → on_job l p (m + hyper_of l / (at l p).period) i ≡ on_job l p m i + hyper_of l / (at l i).period
    on_gains i u v =
        let P : ℕ = hyper_of l / (at l p).period in
        let Q : ℕ = hyper_of l / (at l i).period in
        let s : m + P + 1 ≡ m + 1 + P = omega arith in
        let k = on_late l ok p h m g i u v in
        ap (forward_by l p (i - p)) s ∙ go P Q (on_job l p m i) (on_job l p m i - 1) refl (omega arith) (galois l p (i - p) (between l ok p i u v)) (there (on_job l p m i) (omega arith)) (there (on_job l p m i - 1) (omega arith)) (λ n j e. later p i u v n j e)
      where
        there : (k : ℕ) → warm_at l i ≤ k → backward_by l p (i - p) k ≡ Some (record { 0 = job_of (backward_by l p (i - p) k) })
        there k w =
            found_is (backward_by l p (i - p) k)
            (found (backward_by l p (i - p) k) (warm_at l p) (backward_mono l p (i - p) (between l ok p i u v) (warm_at l i) k (warm_at l p) w (rw (warm_between l ok p i u v) (omega arith))))

        go : (P Q f e : ℕ) → forward_by l p (i - p) (m + 1) ≡ f → f ≡ e + 1 → ((j n : ℕ) → (forward_by l p (i - p) j ≤ n) ↔ AtLeast (backward_by l p (i - p) n) j)
            → backward_by l p (i - p) f ≡ Some (record { 0 = job_of (backward_by l p (i - p) f) }) → backward_by l p (i - p) e ≡ Some (record { 0 = job_of (backward_by l p (i - p) e) })
            → ((n j : ℕ) → backward_by l p (i - p) n ≡ Some (record { 0 = j }) → backward_by l p (i - p) (n + Q) ≡ Some (record { 0 = j + P }))
            → forward_by l p (i - p) (m + 1 + P) ≡ f + Q
        go P Q f e is next gal a b per =
            let x = (gal (m + 1) f).0 (omega arith) in
            let x' : m + 1 ≤ job_of (backward_by l p (i - p) f) = at_least_job (backward_by l p (i - p) f) (m + 1) x in
            let up : forward_by l p (i - p) (m + 1 + P) ≤ f + Q = (gal (m + 1 + P) (f + Q)).1 (rw (per f _ a) (omega arith)) in
            elim (dec_le (forward_by l p (i - p) (m + 1 + P)) (e + Q)) [
              | yes k ↦
                  let y = (gal (m + 1 + P) (e + Q)).0 k in
                  let y' : m + 1 + P ≤ job_of (backward_by l p (i - p) e) + P = rw (per e _ b) at y in
                  let z : forward_by l p (i - p) (m + 1) ≤ e = (gal (m + 1) e).1 (rw b (omega arith)) in
                  absurd (omega arith)
              | no k ↦ omega arith
            ]

    -- A hyperperiod of the cut's jobs later the job of every place is H / T of its own jobs later.
    pub gains : (i : ℕ) → i < length l → place_job l p (m + hyper_of l / (at l p).period) i ≡ place_job l p m i + hyper_of l / (at l i).period
    unfolding place_job
    gains i u = elim (dec_le i p) [
      | yes k ↦ rw (le-leb i p k) (back_gains i k)
      | no k ↦ rw (lt-leb i p (omega arith)) (on_gains i (omega arith) u)
    ]

    -- From one job of the cut to the next no place's job goes back.
    pub never_back : (i : ℕ) → i < length l → place_job l p m i ≤ place_job l p (m + 1) i
    unfolding place_job
    never_back i u = elim (dec_le i p) [
      | yes k ↦
          rw (le-leb i p k)
          (at_least_job (backward_by l i (p - i) (m + 1)) (back_job l p m i) (backward_mono l i (p - i) (between l ok i p k h) m (m + 1) (back_job l p m i) (omega arith) (rw (back_is l ok p h m g i k) (omega arith))))
      | no k ↦ rw (lt-leb i p (omega arith)) (forward_mono l p (i - p) (between l ok p i (omega arith) u) (m + 1) (m + 1 + 1) (omega arith))
    ]

  -- The state has these jobs.
  pub stands_job : (m : ℕ) (s : List ℕ) → Standing l p m s → (i : ℕ) → i < length l → job_at s i ≡ place_job l p m i
  unfolding place_job
  stands_job m s st i u = elim (dec_le i p) [
    | yes k ↦ rw (le-leb i p k) (st.all.back_jobs i (omega arith) k)
    | no k ↦ rw (lt-leb i p (omega arith)) (let e : i - 1 + 1 ≡ i = omega arith in rw e at (st.all.on_jobs (i - 1) (omega arith) (omega arith)))
  ]

  -- At most H / T_p steps from job m of the cut on, as a making takes them from its warm-up job on.
  module _ (m : ℕ) (g : warm_at l p ≤ m) (n : ℕ) (top : n ≤ hyper_of l / (at l p).period) where
    -- A place's job gains at most H / T,
    pub gain_few : (i : ℕ) → i < length l → place_job l p (m + n) i ≤ place_job l p m i + hyper_of l / (at l i).period
    gain_few i u = omega (arith, climb (hyper_of l / (at l p).period - n) (m + n) (omega arith) (omega arith), gains m g i u)
      where
        climb : (d k : ℕ) → warm_at l p ≤ k → k + d ≡ m + hyper_of l / (at l p).period → place_job l p k i ≤ place_job l p (m + hyper_of l / (at l p).period) i
        climb zero k v e = let q : k ≡ m + hyper_of l / (at l p).period = omega arith in omega (arith, ap (λ (x : ℕ). place_job l p x i) q)
        climb (suc d) k v e = omega (arith, never_back k v i u, climb d (k + 1) (omega arith) (omega arith))

    -- and so it moves at most H / T times.
    pub moves_few : (i : ℕ) → i < length l → moves_in (λ k. place_job l p k i) m n ≤ hyper_of l / (at l i).period
    moves_few i u = omega (arith, moves_gain (λ k. place_job l p k i) m n (λ k v. never_back k (omega arith) i u), gain_few i u)

    -- The first of the states that the code has, and the last.
    pub states_gain : (s s' : List ℕ) → Standing l p m s → Standing l p (m + n) s' → (i : ℕ) → i < length l → job_at s' i ≤ job_at s i + hyper_of l / (at l i).period
    states_gain s s' a b i u = omega (arith, stands_job m s a i u, stands_job (m + n) s' b i u, gain_few i u)

    -- All of them: each is what a step leaves of the one before.
    module _ (s : ℕ → List ℕ) (x : ℕ → Partition) (begins : Standing l p m (s 0)) (steps : (k : ℕ) → k < n → Stepped l p (s k) (s (k + 1)) (x k)) where
      stands_at : (k : ℕ) → k ≤ n → Standing l p (m + k) (s k)
      stands_at zero u = let e : m + 0 ≡ m = omega arith in rw e begins
      stands_at (suc k) u =
          let st = (steps k (omega arith)).stands in
          let j : job_at (s k) p ≡ m + k = (stands_at k (omega arith)).all.back_jobs p (omega arith) (omega arith) ∙ back_self l p (m + k) in
          let a : m + suc k ≡ m + k + 1 = omega arith in
          let b : suc k ≡ k + 1 = omega arith in
          rw (a, b) (rw j at st)

      -- In these steps a place's job moves at most H / T times.
      pub making_moves : (i : ℕ) → i < length l → moves_in (λ k. job_at (s k) i) 0 n ≤ hyper_of l / (at l i).period
      making_moves i v =
          let e = moves_same (λ k. job_at (s k) i) (λ k. place_job l p k i) 0 m n (λ k u. let z : 0 + k ≡ k = omega arith in rw z (stands_job (m + k) (s k) (stands_at k u) i v)) in
          rw e (moves_few i v)

  -- The start of the partition after the range.
  pub starts_again : start_of l p (warm_at l p + hyper_of l / (at l p).period) ≡ warm_tick l + hyper_of l
  unfolding start_of warm_tick
  starts_again =
      let z : p - 0 ≡ p = omega arith in
      let a = back_gains (warm_at l p) (omega arith) 0 (omega arith) in
      let b : back_job l p (warm_at l p) 0 ≡ warm_at l 0 = ap job_of (warm_between l ok 0 p (omega arith) h) in
      let c : job_of (backward_by l 0 p (warm_at l p + hyper_of l / (at l p).period)) ≡ warm_at l 0 + hyper_of l / (at l 0).period = ap (λ (n : ℕ). job_of (backward_by l 0 n (warm_at l p + hyper_of l / (at l p).period))) (sym z) ∙ a ∙ ap (λ (x : ℕ). x + hyper_of l / (at l 0).period) b in
      ap (read_of (at l 0)) c ∙ (omega (arith, add-mul (warm_at l 0) (hyper_of l / (at l 0).period) (at l 0).period, hyper_times l 0 ok.some))
