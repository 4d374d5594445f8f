-- One turn of the walk over the partitions, and what the walk ends with.
use Prim.Native.Nat.{ℕ, ◌+◌, ◌-◌, ◌≤◌, ◌<◌, max}
use native.Mathlib.Omega.{arith}
use mathlib.Core.Path.{◌≡◌, sym, ap, ◌∙◌}
use mathlib.Core.List.{List}
use Rattle.task.specs.declared.Place.{Place}
use Rattle.ranges.specs.Largest.{largest}
use Rattle.ranges.proofs.LargestLaws.{largest_none, largest_one, largest_next, largest_some}
use Rattle.partition.specs.declared.Partition.{Partition}
use Rattle.partition.specs.Partitions.{IsPartition}
use Rattle.partition.proofs.Bounds.{start_end, own}
use Rattle.stepping.specs.OnePlace.{job_at}
use Rattle.stepping.specs.Standing.{Standing, Steps, Stepped, Reciprocals}
use Rattle.outset.specs.Outset.{First}
use Rattle.outset.specs.Range.{Range, stands_at, range_in, range_steps}
use Rattle.latency.specs.Latency.{latency_of}
use Rattle.latency.specs.Walk.{Begins, Met}

-- walked partitions from m on have this largest latency, those before the last one are not above the bound, and the state stands at the last of them
pub record Walking (t : List Place) (p n m bound : ℕ) (state : List ℕ) (walked latency : ℕ) : Type 0 where
  pub low : 1 ≤ walked
  pub high : walked ≤ n
  pub is : latency ≡ largest (latency_of t p) m walked
  pub before : largest (latency_of t p) m (walked - 1) ≤ bound
  pub stands : Standing t p (m + (walked - 1)) state

-- a partition's latency
pub span : (t : List Place) (p m : ℕ) (x : Partition) → IsPartition t p m x → (r : ℕ) → r ≡ x.end.0 - x.start.0 → r ≡ latency_of t p m
span t p m x i r e = omega (arith, i.starts, i.ends)

module _ (t : List Place) (places p m n : ℕ) (w : Range t places p m n) where
  -- from the range's first job on a partition starts before it ends
  pub ordered : (k : ℕ) (x : Partition) → IsPartition t p (m + k) x → x.start.0 ≤ x.end.0
  ordered k x i = omega (arith, i.starts, i.ends, start_end t w.sound p (range_in t places p m n w) (m + k) (omega (arith, w.warm)))

  module _ (bound : ℕ) where
    -- where every partition was walked, or a latency is above the bound
    pub met_all : (state : List ℕ) (walked latency : ℕ) → Walking t p n m bound state walked latency → n ≤ walked → Met t p m n bound (record { latency = latency; walked = walked })
    met_all state walked latency k all =
        let e : walked ≡ n = omega (arith, k.high) in
        let f : latency ≡ largest (latency_of t p) m n = k.is ∙ ap (largest (latency_of t p) m) e in
        record { whole = λ h. (f, e); late = λ h. omega arith; some = k.low; few = k.high; counted = k.is; before = k.before }

    pub met_late : (state : List ℕ) (walked latency : ℕ) → Walking t p n m bound state walked latency → bound < latency → Met t p m n bound (record { latency = latency; walked = walked })
    met_late state walked latency k over =
        record { whole = λ h. absurd (omega arith); late = λ h. omega (arith, k.is, largest_some (latency_of t p) walked n m k.high); some = k.low; few = k.high; counted = k.is; before = k.before }

  -- the first partition
  pub walking_start : (bound : ℕ) (state : List ℕ) (x : Partition) → IsPartition t p m x → Standing t p m state → (latency : ℕ) → latency ≡ x.end.0 - x.start.0 → Walking t p n m bound state 1 latency
  walking_start bound state x i st latency e =
      let z : m + (1 - 1) ≡ m = omega arith in
      record { low = omega arith; high = w.some; is = span t p m x i latency e ∙ sym (largest_one (latency_of t p) m); before = rw (largest_none (latency_of t p) m) (omega arith); stands = rw z st }

  module _ (bound : ℕ) (state : List ℕ) (walked latency : ℕ) (k : Walking t p n m bound state walked latency) (more : walked < n) where
    pub walking_steps : (r : List ℕ) → Reciprocals t r → Steps t places p r state
    walking_steps r rs = range_steps t places p m n w (walked - 1) (omega (arith, k.low)) r state rs k.stands

    module _ (state' : List ℕ) (x : Partition) (st : Stepped t p state state' x) where
      next_job : Standing t p (m + walked) state'
      next_job =
          let e = stands_at t p (m + (walked - 1)) state k.stands in
          let z : m + (walked - 1) + 1 ≡ m + walked = omega (arith, k.low) in
          rw z at (rw e at st.stands)

      pub next_is : IsPartition t p (m + walked) x
      next_is =
          let e = stands_at t p (m + (walked - 1)) state k.stands in
          let z : m + (walked - 1) + 1 ≡ m + walked = omega (arith, k.low) in
          rw z at (rw e at st.partition)

      pub next_ordered : x.start.0 ≤ x.end.0
      next_ordered = ordered walked x next_is

      pub walking_turn : latency ≤ bound → (span' latency' : ℕ) → span' ≡ x.end.0 - x.start.0 → latency' ≡ max latency span' → Walking t p n m bound state' (walked + 1) latency'
      walking_turn fits span' latency' e f =
          let z : m + (walked + 1 - 1) ≡ m + walked = omega arith in
          let y : walked + 1 - 1 ≡ walked = omega arith in
          let g : span' ≡ latency_of t p (m + walked) = span t p (m + walked) x next_is span' e in
          record {
            low = omega arith;
            high = omega arith;
            is = f ∙ ap (λ (y : ℕ). max y span') k.is ∙ ap (max (largest (latency_of t p) m walked)) g ∙ sym (largest_next (latency_of t p) walked m);
            before = rw y (omega (arith, k.is));
            stands = rw z next_job;
          }

-- ---- the same from the first partition on, whose job is the one at which the state stands then

module _ (t : List Place) (places p n : ℕ) (first : Partition) (state₀ : List ℕ) (b : Begins t places p n first state₀) where
  abbrev m : ℕ
  m = job_at state₀ p

  job_is : m ≡ first.job.0
  job_is = stands_at t p first.job.0 state₀ b.stands

  range : Range t places p m n
  range = rw job_is b.range

  pub begins_ordered : first.start.0 ≤ first.end.0
  begins_ordered = let z : first.job.0 + 0 ≡ first.job.0 = omega arith in ordered t places p first.job.0 n b.range 0 first (rw z b.is)

  pub begins_start : (bound latency : ℕ) → latency ≡ first.end.0 - first.start.0 → Walking t p n m bound state₀ 1 latency
  begins_start bound latency e = walking_start t places p m n range bound state₀ first (rw job_is b.is) (rw job_is b.stands) latency e

  module _ (bound : ℕ) (state : List ℕ) (walked latency : ℕ) (k : Walking t p n m bound state walked latency) where
    pub begins_all : n ≤ walked → Met t p first.job.0 n bound (record { latency = latency; walked = walked })
    begins_all all = rw job_is at (met_all t places p m n range bound state walked latency k all)

    pub begins_late : bound < latency → Met t p first.job.0 n bound (record { latency = latency; walked = walked })
    begins_late over = rw job_is at (met_late t places p m n range bound state walked latency k over)

    module _ (more : walked < n) where
      pub begins_steps : (r : List ℕ) → Reciprocals t r → Steps t places p r state
      begins_steps = walking_steps t places p m n range bound state walked latency k more

      module _ (state' : List ℕ) (x : Partition) (st : Stepped t p state state' x) where
        pub begins_next : x.start.0 ≤ x.end.0
        begins_next = next_ordered t places p m n range bound state walked latency k more state' x st

        pub begins_turn : latency ≤ bound → (span' latency' : ℕ) → span' ≡ x.end.0 - x.start.0 → latency' ≡ max latency span' → Walking t p n m bound state' (walked + 1) latency'
        begins_turn = walking_turn t places p m n range bound state walked latency k more state' x st

-- ---- from a job on

module _ (t : List Place) (places p m n : ℕ) (w : Range t places p m n) (state : List ℕ) (x : Partition) (fi : First t p m state x) where
  pub first_begins : Begins t places p n x state
  first_begins = record { range = rw fi.partition.of w; is = own t p m x fi.partition; stands = rw fi.partition.of fi.stands }

  -- where there is one partition alone
  pub first_alone : n < 2 → (bound latency : ℕ) → latency ≡ x.end.0 - x.start.0 → Met t p m n bound (record { latency = latency; walked = 1 })
  first_alone few bound latency e = met_all t places p m n w bound state 1 latency (walking_start t places p m n w bound state x fi.partition fi.stands latency e) (omega arith)
