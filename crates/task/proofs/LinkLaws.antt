-- Laws of one link: the closed forms are the earliest and the latest job, and forward, `Linked` and backward are one rule (`link`).
-- What stands above a link uses the laws under "one link" alone.
use Prim.Native.Nat.{ℕ, zero, suc, ◌+◌, ◌-◌, ◌*◌, ◌/◌, ◌≤◌, ◌<◌}
use native.Mathlib.Omega.{arith}
use Rattle.std.proofs.Common.{le-div_iff_mul-le, div-lt_iff_lt-mul, mul-le-mul_right, mul-le-mul_left, mul-one, ◌∙◌}
use Rattle.std.proofs.Math.Nat.{lt-div-mul-add, div-mul-le_self, add-mul-div_right, suc-mul, add-mul}
use Rattle.std.proofs.Math.Decide.{dec_le}
use Rattle.std.proofs.Math.Path.{◌≡◌, refl, ap}
use Rattle.std.specs.Prelude.{◌↔◌, Bool, ◌&&◌, None, Option, Some}
use Rattle.std.proofs.Math.Bool.{true, false, cond}
use Rattle.std.proofs.Math.Dec.{leb}
use borrow.Author.Tests.{leb-true, leb-false, le-leb}
use Rattle.task.specs.declared.Task.{Task}
use Rattle.task.specs.declared.Place.{Place}
use Rattle.task.specs.declared.Job.{Job}
use Rattle.task.specs.Jobs.{place_of, read_of, write_of, readable_of, within_limits, Within, gap_limit, Limited}
use Rattle.task.specs.Links.{Linked, earliest_from, earliest_after, latest_over, latest_by, forward_link, backward_link}

-- ---- limits, as a test and as facts

first_test : (a b : Bool) → (a && b) ≡ true → a ≡ true
first_test true b h = refl
first_test false b h = h

other_tests : (a b : Bool) → (a && b) ≡ true → b ≡ true
other_tests true b h = h
other_tests false true h = refl
other_tests false false h = h

pub limits : (a : Task) → within_limits a ≡ true → Within a
unfolding within_limits
limits a h =
    let h₁ = other_tests (leb 1 a.period) _ h in
    let h₂ = other_tests (leb a.period 1000000) _ h₁ in
    let h₃ = other_tests (leb 1 a.duration) _ h₂ in
    record {
      period_pos = leb-true _ _ (first_test (leb 1 a.period) _ h);
      period_max = leb-true _ _ (first_test (leb a.period 1000000) _ h₁);
      duration_pos = leb-true _ _ (first_test (leb 1 a.duration) _ h₂);
      duration_max = leb-true _ _ (first_test (leb a.duration 4000000) _ h₃);
      phase_max = leb-true _ _ (other_tests (leb a.duration 4000000) _ h₃);
    }

pub limits_hold : (a : Task) → Within a → within_limits a ≡ true
unfolding within_limits
limits_hold a w =
    rw (le-leb 1 a.period w.period_pos, le-leb a.period 1000000 w.period_max, le-leb 1 a.duration w.duration_pos, le-leb a.duration 4000000 w.duration_max)
    (le-leb a.phase 1000000 w.phase_max)

-- and of a place with a permitted gap
pub limits_placed : (g : ℕ) (a : Task) → Within a → g ≤ gap_limit → Limited (place_of g a)
limits_placed g a w h =
    record { period_pos = w.period_pos; period_max = w.period_max; duration_pos = w.duration_pos; duration_max = w.duration_max; phase_max = w.phase_max; gap_max = h }

-- ---- reads

pub read_mono : (a : Place) (i j : ℕ) → i ≤ j → read_of a i ≤ read_of a j
read_mono a i j h = omega (arith, mul-le-mul_right a.period h)

-- a job's number is at most its read
pub job_small : (a : Place) → 1 ≤ a.period → (j : ℕ) → j ≤ read_of a j
job_small a h j = omega (arith, mul-le-mul_left j h, mul-one j)

-- ---- the earliest job

module _ (b : Place) (pos : 1 ≤ b.period) where
  -- it reads at or after w,
  pub earliest_reads : (w : ℕ) → w ≤ read_of b (earliest_from b w)
  unfolding earliest_from
  earliest_reads w = omega (arith, lt-div-mul-add {a = w - b.phase + (b.period - 1)} {b = b.period} pos)

  -- and no earlier job does.
  pub earliest_least : (w k : ℕ) → w ≤ read_of b k → earliest_from b w ≤ k
  unfolding earliest_from
  earliest_least w k h =
      let q : (w - b.phase + (b.period - 1)) / b.period < suc k = (div-lt_iff_lt-mul pos).1 (rw suc-mul (omega arith)) in
      omega arith

  pub earliest_le : (w k : ℕ) → (earliest_from b w ≤ k) ↔ (w ≤ read_of b k)
  earliest_le w k = (λ l. omega (arith, earliest_reads w, read_mono b (earliest_from b w) k l), λ l. earliest_least w k l)

  -- a job is before the earliest strictly after t exactly when it reads at or before t
  pub after_less : (t j : ℕ) → (j < earliest_after b t) ↔ (read_of b j ≤ t)
  after_less t j = (
    λ l. elim (dec_le (read_of b j) t) [ yes h ↦ h | no h ↦ let u : earliest_from b (t + 1) ≤ j = earliest_least (t + 1) j (omega arith) in omega arith ],
    λ l. elim (dec_le (earliest_from b (t + 1)) j) [ yes h ↦ let u : t + 1 ≤ read_of b j = (earliest_le (t + 1) j).0 h in omega arith | no h ↦ omega arith ],
  )

  -- it reads within one period of w, or is job 0
  pub earliest_soon : (w : ℕ) → read_of b (earliest_from b w) ≤ w + b.phase + (b.period - 1)
  unfolding earliest_from
  earliest_soon w = omega (arith, div-mul-le_self (w - b.phase + (b.period - 1)) b.period)

  -- where it is not job 0 it reads less than a period after w
  pub earliest_wait : (w : ℕ) → 1 ≤ earliest_from b w → read_of b (earliest_from b w) < w + b.period
  unfolding earliest_from
  earliest_wait w h =
      let u = (le-div_iff_mul-le {x = 1} pos).0 h in
      omega (arith, u, div-mul-le_self (w - b.phase + (b.period - 1)) b.period)

-- ---- the latest job

-- There is a latest job, and it is not before j.
abbrev pub AtLeast : Option Job → ℕ → Type 0
AtLeast (Some i) j = j ≤ i.0
AtLeast None j = ⊥

module _ (a : Place) (pos : 1 ≤ a.period) where
  -- The latest job whose read is d ticks or more before z is not before j exactly when job j is such a job.
  pub latest_over_holds : (d z j : ℕ) → (read_of a j + d ≤ z) ↔ AtLeast (latest_over a d z) j
  unfolding latest_over
  latest_over_holds d z j = go (leb (a.phase + d) z) refl
    where
      go : (t : Bool) → leb (a.phase + d) z ≡ t → (read_of a j + d ≤ z) ↔ AtLeast (cond t (Some (record { 0 = (z - (a.phase + d)) / a.period })) None) j
      go true e =
          let s : a.phase + d ≤ z = leb-true _ _ e in (
            λ l. (le-div_iff_mul-le pos).1 (omega arith),
            λ (l : j ≤ (z - (a.phase + d)) / a.period). let u : j * a.period ≤ z - (a.phase + d) = (le-div_iff_mul-le pos).0 l in omega arith,
          )
      go false e = let s : z < a.phase + d = leb-false _ _ e in (λ l. omega arith, λ l. absurd l)

  -- So the latest job that writes at or before z is not before j exactly when job j writes at or before z.
  pub latest_is : (z j : ℕ) → (write_of a j ≤ z) ↔ AtLeast (latest_by a z) j
  latest_is z j = latest_over_holds a.duration z j

-- ---- one link, from place a to the next place, b

module _ (a b : Place) where
  -- Forward from j is the earliest job that j is linked to,
  pub link_forward : 1 ≤ b.period → (j k : ℕ) → (forward_link a b j ≤ k) ↔ Linked a j b k
  unfolding forward_link
  link_forward pos j k = earliest_le b pos (readable_of a j) k

  -- and backward from k the latest job that is linked to k.
  pub link_backward : 1 ≤ a.period → (j k : ℕ) → Linked a j b k ↔ AtLeast (backward_link a b k) j
  unfolding backward_link
  link_backward pos j k = let l = latest_over_holds a pos (a.duration + a.gap) (read_of b k) j in (λ h. l.0 (omega arith), λ h. let u = l.1 h in omega arith)

  -- The link law: forward from j comes to k or earlier exactly when backward from k there is a job, j or later.
  pub link : 1 ≤ a.period → 1 ≤ b.period → (j k : ℕ) → (forward_link a b j ≤ k) ↔ AtLeast (backward_link a b k) j
  link p q j k = (λ h. (link_backward p j k).0 ((link_forward q j k).0 h), λ h. (link_forward q j k).1 ((link_backward p j k).1 h))

  -- A later job goes forward to the same job or a later one.
  pub forward_link_mono : 1 ≤ b.period → (i j : ℕ) → i ≤ j → forward_link a b i ≤ forward_link a b j
  forward_link_mono pos i j h =
      let u : Linked a j b (forward_link a b j) = (link_forward pos j (forward_link a b j)).0 (omega arith) in
      (link_forward pos i (forward_link a b j)).1 (omega (arith, mul-le-mul_right a.period h))

  -- A link goes forward in time,
  pub forward_later : 1 ≤ b.period → (j : ℕ) → readable_of a j ≤ read_of b (forward_link a b j)
  forward_later pos j = (link_forward pos j (forward_link a b j)).0 (omega arith)

  -- by less than a period, or to job 0,
  pub forward_wait : 1 ≤ b.period → (j : ℕ) → 1 ≤ forward_link a b j → read_of b (forward_link a b j) < readable_of a j + b.period
  unfolding forward_link
  forward_wait pos j = earliest_wait b pos (readable_of a j)

  -- so by no more than 1,000,000 ticks.
  pub forward_soon : Limited b → (j : ℕ) → read_of b (forward_link a b j) ≤ readable_of a j + 1000000
  forward_soon w j = go (forward_link a b j) refl
    where
      go : (k : ℕ) → forward_link a b j ≡ k → read_of b k ≤ readable_of a j + 1000000
      go zero e = omega (arith, w.phase_max)
      go (suc k) e = let f = forward_wait w.period_pos j (omega arith) in let g = rw e at f in omega (arith, w.period_max)

  -- A link goes backward in time.
  pub backward_earlier : 1 ≤ a.period → (k : ℕ) (j : Job) → backward_link a b k ≡ Some j → readable_of a j.0 ≤ read_of b k
  backward_earlier pos k j e = (link_backward pos j.0 k).1 (rw e (omega arith))

-- ---- the same place at another time

-- Place b reads and writes x ticks later than place a does q jobs before.
pub record Later (a b : Place) (x q : ℕ) : Type 0 where
  pub period : b.period ≡ a.period
  pub duration : b.duration ≡ a.duration
  pub gap : b.gap ≡ a.gap
  pub phase : b.phase + q * a.period ≡ a.phase + x

-- every place does so with itself, q periods later
pub periods_later : (a : Place) (x q : ℕ) → q * a.period ≡ x → Later a a x q
periods_later a x q e = record { period = refl; duration = refl; gap = refl; phase = omega arith }

module _ (a b : Place) (x q : ℕ) (s : Later a b x q) where
  pub read_later : (j : ℕ) → read_of b (j + q) ≡ read_of a j + x
  read_later j = omega (arith, s.phase, ap (λ (T : ℕ). (j + q) * T) s.period, add-mul j q a.period)

  module _ (pos : 1 ≤ a.period) where
    -- x ticks later the earliest job is q later, from the phase on,
    pub earliest_later : (w : ℕ) → a.phase ≤ w → earliest_from b (w + x) ≡ earliest_from a w + q
    unfolding earliest_from
    earliest_later w h =
        let f : w + x - b.phase + (a.period - 1) ≡ w - a.phase + (a.period - 1) + q * a.period = omega (arith, s.phase) in
        rw (s.period, f) (add-mul-div_right (w - a.phase + (a.period - 1)) q pos)

    -- and so is the latest.
    latest_later : (d z : ℕ) (j : Job) → latest_over a d z ≡ Some j → latest_over b d (z + x) ≡ Some (record { 0 = j.0 + q })
    unfolding latest_over
    latest_later d z j e = go (leb (a.phase + d) z) refl e
      where
        go : (t : Bool) → leb (a.phase + d) z ≡ t → cond {A = Option Job} t (Some (record { 0 = (z - (a.phase + d)) / a.period })) None ≡ Some j
            → cond {A = Option Job} (leb (b.phase + d) (z + x)) (Some (record { 0 = (z + x - (b.phase + d)) / b.period })) None ≡ Some (record { 0 = j.0 + q })
        go true t h =
            let u : a.phase + d ≤ z = leb-true _ _ t in
            let i : ◌≡◌ {A = Job} (record { 0 = (z - (a.phase + d)) / a.period }) j = cc in
            let f : z + x - (b.phase + d) ≡ z - (a.phase + d) + q * a.period = omega (arith, s.phase) in
            rw (le-leb (b.phase + d) (z + x) (omega (arith, s.phase)), s.period, f, add-mul-div_right (z - (a.phase + d)) q pos, ap (λ (y : Job). y.0) i)
        go false t h = absurd (let y : ◌≡◌ {A = ℕ} 0 1 = cc in omega arith)

    -- So is the link backward from a next place that is x ticks later too.
    pub backward_later : (c d : Place) (r : ℕ) → Later c d x r → (k : ℕ) (j : Job) → backward_link a c k ≡ Some j → backward_link b d (k + r) ≡ Some (record { 0 = j.0 + q })
    unfolding backward_link
    backward_later c d r t k j e =
        let f : read_of d (k + r) ≡ read_of c k + x = omega (arith, t.phase, ap (λ (T : ℕ). (k + r) * T) t.period, add-mul k r c.period) in
        let g : b.duration + b.gap ≡ a.duration + a.gap = omega (arith, s.duration, s.gap) in
        ap (λ (y : ℕ). latest_over b y (read_of d (k + r))) g ∙ ap (latest_over b (a.duration + a.gap)) f ∙ latest_later (a.duration + a.gap) (read_of c k) j e
