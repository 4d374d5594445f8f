-- One turn of each loop over the places: what the code needs in it, and what it leaves.
use Prim.Native.Nat.{ℕ, ◌+◌, ◌-◌, ◌*◌, ◌/◌, ◌≤◌, ◌<◌}
use native.Mathlib.Omega.{arith}
use mathlib.Core.Path.{◌≡◌, sym, ap, ◌∙◌}
use mathlib.Core.List.{List}
use lib.ListN.{length, set, length-set}
use lib.Seq.{get_or-set_same}
use Rattle.task.specs.declared.Place.{Place}
use Rattle.task.specs.Jobs.{read_of, readable_of}
use Rattle.task.proofs.LinkLaws.{read_mono}
use Rattle.chain.specs.Chains.{at}
use Rattle.chain.specs.Ranges.{forward_fits, backward_fits}
use Rattle.partition.specs.declared.Partition.{Partition}
use Rattle.partition.specs.Partitions.{IsPartition}
use Rattle.partition.proofs.Bounds as bounds
use Rattle.stepping.specs.OnePlace.{job_at, stored_long}
use Rattle.stepping.specs.Standing.{back_job, on_job, back_ticks, on_ticks, StandsFrom, Standing, Stands}
use Rattle.stepping.specs.Ways.{back_is, back_quotient, on_quotient}
use Rattle.stepping.specs.Onward.{back_self}
use Rattle.outset.specs.Outset.{Put, States, Cut, First}
use Rattle.outset.specs.Filling.{stands_back, stands_on}

period_same : (a b : Place) → a ≡ b → a.period ≡ b.period
period_same a b e = ap (λ (x : Place). x.period) e

module _ (l : List Place) (p m : ℕ) (cut : Cut l p m) where
  pub job_fits : m + 1 ≤ 1000000000000
  job_fits = omega (arith, bounds.job_fits l cut.sound p cut.inside (m + 1), cut.top)

  -- ---- the way back

  -- A turn at place i, where j is the job of place i + 1, b its task, and s the state; a is then the task of place i, and t what b's job reads.
  pub record BackTurn (old s : List ℕ) (i j : ℕ) (b : Place) : Type 0 where
    pub reads : read_of b j ≤ 2000000000000
    pub phase : (a : Place) → a ≡ at l i → (t : ℕ) → t ≡ read_of b j → a.phase ≤ t
    pub duration : (a : Place) → a ≡ at l i → (t : ℕ) → t ≡ read_of b j → a.duration ≤ t - a.phase
    pub gap : (a : Place) → a ≡ at l i → (t : ℕ) → t ≡ read_of b j → a.gap ≤ t - a.phase - a.duration
    pub fits : (a : Place) → a ≡ at l i → (1 ≤ a.period) × (i < 12) × (2 * i + 2 ≤ length s)
    pub leaves : (a : Place) → a ≡ at l i → (t : ℕ) → t ≡ read_of b j → (new : List ℕ) (r : ℕ) → Put i (t - a.phase - a.duration - a.gap) a.period s new r → (r ≡ back_job l p m i) × States l p m i (p + 1) old new

  module _ (old s : List ℕ) (room : 2 * (p + 1) ≤ length old) (i : ℕ) (u : i < p) (k : States l p m (i + 1) (p + 1) old s) (j : ℕ) (job : j ≡ back_job l p m (i + 1)) (b : Place) (here : b ≡ at l (i + 1)) where
    read_is : read_of b j ≡ read_of (at l (i + 1)) (back_job l p m (i + 1))
    read_is = ap (λ (x : Place). read_of x j) here ∙ ap (read_of (at l (i + 1))) job

    quotient : (readable_of (at l i) 0 ≤ read_of (at l (i + 1)) (back_job l p m (i + 1))) × (back_job l p m i ≡ back_ticks l p m i / (at l i).period)
    quotient = back_quotient l cut.sound p cut.inside m cut.warm i u

    readable_0 : (a : Place) → a ≡ at l i → a.phase + a.duration + a.gap ≡ readable_of (at l i) 0
    readable_0 a is = ap (λ (x : Place). x.phase + x.duration + x.gap) is ∙ (omega arith)

    i_room : 2 * i + 2 ≤ length s
    i_room = omega (arith, k.long)

    ticks : (a : Place) → a ≡ at l i → (t : ℕ) → t ≡ read_of b j → t - a.phase - a.duration - a.gap ≡ back_ticks l p m i
    unfolding back_ticks
    ticks a is t read = omega (arith, readable_0 a is, read, read_is)

    pub back_turn : BackTurn old s i j b
    back_turn = record {
      reads = omega (arith, read_is, backward_fits l cut.sound (i + 1) p (omega arith) cut.inside m _ (back_is l cut.sound p cut.inside m cut.warm (i + 1) (omega arith)), read_mono (at l p) m (m + 1) (omega arith), cut.top);
      phase = λ a is t read. omega (arith, readable_0 a is, read, read_is, quotient.0);
      duration = λ a is t read. omega (arith, readable_0 a is, read, read_is, quotient.0);
      gap = λ a is t read. omega (arith, readable_0 a is, read, read_is, quotient.0);
      fits = λ a is. (omega (arith, period_same a (at l i) is, (cut.sound.each i (omega (arith, cut.inside))).period_pos), omega (arith, cut.inside, cut.sound.few), i_room);
      leaves = λ a is t read new r pt.
          let q : Put i (back_ticks l p m i) (at l i).period s new r = rw (ticks a is t read, period_same a (at l i) is) at pt in
          (q.is ∙ sym quotient.1, record { long = stored_long s new i _ _ q.stored ∙ k.long; from = stands_back l p m s new i (p + 1) r u (omega arith) i_room k.from q quotient.1 });
    }

  -- ---- the way on

  -- A turn at place i, where j is the job of the place before, a its task, and s the state; b is then the task of place i, and w the tick from which what a's job writes can be read.
  pub record OnTurn (old s : List ℕ) (i j : ℕ) (a : Place) : Type 0 where
    pub readable : readable_of a j ≤ 2000000000000
    pub phase : (b : Place) → b ≡ at l i → (w : ℕ) → w ≡ readable_of a j → b.phase ≤ w
    pub period : (b : Place) → b ≡ at l i → 1 ≤ b.period
    pub ticks : (b : Place) → b ≡ at l i → (w : ℕ) → w ≡ readable_of a j → w - b.phase + (b.period - 1) ≤ 3000000000000
    pub fits : (b : Place) → b ≡ at l i → (1 ≤ b.period) × (i < 12) × (2 * i + 2 ≤ length s)
    pub leaves : (b : Place) → b ≡ at l i → (w : ℕ) → w ≡ readable_of a j → (new : List ℕ) (r : ℕ) → Put i (w - b.phase + (b.period - 1)) b.period s new r → (r ≡ on_job l p m i) × States l p m 0 (i + 1) old new

  module _ (old s : List ℕ) (room : 2 * length l ≤ length old) (c : ℕ) (u : p ≤ c) (v : c + 1 < length l) (k : States l p m 0 (c + 1) old s) (j : ℕ) (job : j ≡ on_job l p m c) (a : Place) (here : a ≡ at l c) where
    readable_is : readable_of a j ≡ readable_of (at l c) (on_job l p m c)
    readable_is = ap (λ (x : Place). readable_of x j) here ∙ ap (readable_of (at l c)) job

    readable_fits : readable_of a j ≤ 2000000000000
    readable_fits = omega (arith, readable_is, forward_fits l cut.sound p c u (omega arith) (m + 1), (cut.sound.each c (omega arith)).gap_max, cut.top)

    on_q : ((at l (c + 1)).phase ≤ readable_of (at l c) (on_job l p m c)) × (on_job l p m (c + 1) ≡ on_ticks l p m c / (at l (c + 1)).period)
    on_q = on_quotient l cut.sound p cut.inside m cut.warm c u v

    phase_same : (b : Place) → b ≡ at l (c + 1) → b.phase ≡ (at l (c + 1)).phase
    phase_same b is = ap (λ (x : Place). x.phase) is

    period_some : (b : Place) → b ≡ at l (c + 1) → 1 ≤ b.period
    period_some b is = omega (arith, period_same b (at l (c + 1)) is, (cut.sound.each (c + 1) v).period_pos)

    c_room : 2 * (c + 1) + 2 ≤ length s
    c_room = omega (arith, k.long)

    ticks_on : (b : Place) → b ≡ at l (c + 1) → (w : ℕ) → w ≡ readable_of a j → w - b.phase + (b.period - 1) ≡ on_ticks l p m c
    unfolding on_ticks
    ticks_on b is w write = omega (arith, write, readable_is, phase_same b is, period_same b (at l (c + 1)) is)

    pub on_turn : OnTurn old s (c + 1) j a
    on_turn = record {
      readable = readable_fits;
      phase = λ b is w write. omega (arith, write, readable_is, on_q.0, phase_same b is);
      period = period_some;
      ticks = λ b is w write. omega (arith, write, readable_fits, period_same b (at l (c + 1)) is, (cut.sound.each (c + 1) v).period_max);
      fits = λ b is. (period_some b is, omega (arith, cut.sound.few), c_room);
      leaves = λ b is w write new r pt.
          let q : Put (c + 1) (on_ticks l p m c) (at l (c + 1)).period s new r = rw (ticks_on b is w write, period_same b (at l (c + 1)) is) at pt in
          (q.is ∙ sym on_q.1, record { long = stored_long s new (c + 1) _ _ q.stored ∙ k.long; from = stands_on l p m s new c r u c_room k.from q on_q.1 });
    }

  -- ---- the whole

  -- the state of the cut alone
  stands_start : (s : List ℕ) → 2 * (p + 1) ≤ length s → StandsFrom l p m p (p + 1) (set s (2 * p) m)
  stands_start s room = record {
    back_jobs = λ i g u. let e : i ≡ p = omega arith in rw e (get_or-set_same s (2 * p) m 0 (omega arith) ∙ sym (back_self l p m));
    back_rests = λ i g u. absurd (omega arith);
    on_jobs = λ c g u. absurd (omega arith);
    on_rests = λ c g u. absurd (omega arith);
  }

  module _ (n : ℕ) (places : n ≡ length l) (s : List ℕ) (room : 2 * n ≤ length s) where
    start_long : length (set s (2 * p) m) ≡ length s
    start_long = length-set s (2 * p) m

    pub first_back_fits : (Cut l p m) × (2 * (p + 1) ≤ length (set s (2 * p) m)) × StandsFrom l p m p (p + 1) (set s (2 * p) m)
    first_back_fits = (cut, omega (arith, start_long, cut.inside), stands_start s (omega (arith, cut.inside)))

    module _ (s₂ : List ℕ) (back : States l p m 0 (p + 1) (set s (2 * p) m) s₂) where
      pub first_on_fits : (Cut l p m) × (n ≡ length l) × (2 * n ≤ length s₂) × StandsFrom l p m 0 (p + 1) s₂
      first_on_fits = (cut, places, omega (arith, start_long, back.long), back.from)

      module _ (s₃ : List ℕ) (on : States l p m 0 n s₂ s₃) where
        pub first_long : length s₃ ≡ length s
        first_long = on.long ∙ back.long ∙ start_long

        whole : Standing l p m s₃
        whole = record { long = omega (arith, first_long); all = rw places at on.from }

        job_is : job_at s₃ p ≡ m
        job_is = whole.all.back_jobs p (omega arith) (omega arith) ∙ back_self l p m

        pub here_fits : Stands l n p s₃
        here_fits = record { sound = cut.sound; places = places; inside = omega (arith, cut.inside); warm = rw job_is cut.warm; stands = rw job_is whole; top = rw job_is cut.top }

        pub first_is : (x : Partition) → IsPartition l p (job_at s₃ p) x → First l p m s₃ x
        first_is x i = record { stands = whole; partition = rw job_is at i }
