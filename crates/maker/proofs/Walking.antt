-- One step of the walk over the partitions.
use Prim.Native.Nat.{ℕ, ◌+◌, ◌-◌, ◌≤◌, ◌<◌}
use native.Mathlib.Omega.{arith}
use mathlib.Core.Path.{◌≡◌, refl, ap, ◌∙◌}
use mathlib.Core.List.{List, []}
use lib.ListN.{length}
use Rattle.task.specs.declared.Place.{Place}
use Rattle.timing.specs.WarmUp.{warm_at}
use Rattle.partition.specs.declared.Partition.{Partition}
use Rattle.partition.specs.Partitions.{start_of, IsPartition}
use Rattle.partition.proofs.Bounds.{start_end, end_pos, own}
use Rattle.stepping.specs.OnePlace.{job_at}
use Rattle.stepping.specs.Standing.{Standing, Steps, Stepped, Reciprocals}
use Rattle.stepping.specs.Moves.{states_gain}
use Rattle.outset.specs.Outset.{First}
use Rattle.outset.specs.Range.{stands_at, range_in, range_steps}
use Rattle.maker.specs.declared.Count.{Count}
use Rattle.maker.specs.Turn.{last_end, Added, Filled, Fills, Begins, Walked}
use Rattle.maker.proofs.Turn.{Going, going_start, going_turn, going_end, added_few}

-- x is the partition that comes walked − 1 after the first; g anchors were found before it, and last is the end of the kept one before it
pub record Walking (t : List Place) (p n m : ℕ) (s₀ l₀ state s l : List ℕ) (walked g last : ℕ) (x : Partition) : Type 0 where
  pub job : x.job.0 + 1 ≡ m + walked
  pub low : 1 ≤ walked
  pub high : walked ≤ n
  pub few : g + 1 ≤ walked
  pub is : IsPartition t p x.job.0 x
  pub stands : Standing t p x.job.0 state
  pub going : Going t p m n s₀ l₀ x.job.0 (n + 1 - walked) last g s l

module _ (t : List Place) (places p n : ℕ) (first : Partition) (after : ℕ) (state₀ : List ℕ) (b : Begins t places p n first after state₀) (s₀ l₀ : List ℕ) where
  pub walking_start : Walking t p n first.job.0 s₀ l₀ state₀ s₀ l₀ 1 0 0 first
  walking_start = record {
    job = refl;
    low = omega arith;
    high = b.fills.range.some;
    few = omega arith;
    is = b.is;
    stands = b.stands;
    going = going_start t p first.job.0 n s₀ l₀ (n + 1 - 1) (omega arith);
  }

  cut_in : p < length t
  cut_in = range_in t places p first.job.0 n b.fills.range

  module _ (state s l : List ℕ) (walked g last : ℕ) (x : Partition) (w : Walking t p n first.job.0 s₀ l₀ state s l walked g last x) where
    past : warm_at t p ≤ x.job.0
    past = omega (arith, b.fills.range.warm, w.job, w.low)

    stands : job_at state p ≡ x.job.0
    stands = stands_at t p x.job.0 state w.stands

    -- what a turn needs
    pub walking_adds : (x.start.0 ≤ x.end.0) × (g ≤ 60000000)
    walking_adds = (omega (arith, w.is.starts, w.is.ends, start_end t b.fills.range.sound p cut_in x.job.0 past), omega (arith, w.few, w.high, b.fills.range.few))

    pub walking_steps : (r : List ℕ) → Reciprocals t r → walked < n → Steps t places p r state
    walking_steps r rs more =
        let e : first.job.0 + (walked - 1) ≡ x.job.0 = omega (arith, w.job, w.low) in
        range_steps t places p first.job.0 n b.fills.range (walked - 1) (omega (arith, w.low)) r state rs (rw e w.stands)

    pub walking_turn : walked < n → (state' : List ℕ) (y : Partition) → Stepped t p state state' y → (last' : ℕ) → last' ≡ last_end x y.start.0 last → (g' : ℕ) (s' l' : List ℕ) → Added x y.start.0 last g s l s' l' g'
        → Walking t p n first.job.0 s₀ l₀ state' s' l' (walked + 1) g' last' y
    walking_turn more state' y st last' le g' s' l' ad =
        let i : IsPartition t p (x.job.0 + 1) y = rw stands at st.partition in
        record {
          job = omega (arith, w.job, i.of);
          low = omega arith;
          high = omega arith;
          few = omega (arith, w.few, ad.count, added_few x y.start.0 last);
          is = own t p (x.job.0 + 1) y i;
          stands = rw i.of (rw stands at st.stands);
          going = rw i.of
              (going_turn t p first.job.0 n s₀ l₀ x.job.0 (n + 1 - walked) last g s l w.going x y.start.0 w.is.starts w.is.ends i.starts (n + 1 - (walked + 1)) (omega arith) last' le g' s' l' ad);
        }

    -- after n - 1 steps the state stands at the last one
    pub walking_leaves : n ≤ walked → Walked t p first.job.0 n state₀ state
    walking_leaves all =
        let e : first.job.0 + (n - 1) ≡ x.job.0 = omega (arith, w.job, w.high, w.low) in
        let st : Standing t p (first.job.0 + (n - 1)) state = rw e w.stands in
        record { stands = st; gains = states_gain t b.fills.range.sound p cut_in first.job.0 b.fills.range.warm (n - 1) (omega (arith, b.fills.round)) state₀ state b.stands st }

    -- the last partition: the start of the one after it is known
    pub walking_end : n ≤ walked → (g' : ℕ) (s' l' : List ℕ) → Added x after last g s l s' l' g' → (c : Count) → c.anchors ≡ g' → c.walked ≡ walked → Filled t p first.job.0 n s₀ l₀ s' l' c
    walking_end all g' s' l' ad c anchors counted =
        let e : first.job.0 + n ≡ x.job.0 + 1 = omega (arith, w.job, w.high) in
        let turned = going_turn t p first.job.0 n s₀ l₀ x.job.0 (n + 1 - walked) last g s l w.going x after w.is.starts w.is.ends (b.fills.later ∙ ap (start_of t p) e) 0 (omega (arith, w.high)) (last_end x after last) refl g' s' l' ad in
        going_end t p first.job.0 n s₀ l₀ (x.job.0 + 1) 0 (last_end x after last) g' s' l' turned c (end_pos t b.fills.range.sound p cut_in) refl anchors (omega (arith, w.high))

-- ---- what `fill` needs and hands on

module _ (t : List Place) (places p m n after : ℕ) (f : Fills t places p m n after) where
  pub fill_begins : (state : List ℕ) (x : Partition) → First t p m state x → Begins t places p n x after state
  fill_begins state x fi = record {
    fills = rw fi.partition.of f;
    is = own t p m x fi.partition;
    stands = rw fi.partition.of fi.stands;
  }

  -- where there is one partition alone its anchor is all
  pub fill_one : n < 2 → (state : List ℕ) (x : Partition) → First t p m state x → (s l s' l' : List ℕ) (g : ℕ) → Added x after 0 0 s l s' l' g → (c : Count) → c.anchors ≡ g → c.walked ≡ 1 → Filled t p m n s l s' l' c
  fill_one few state x fi s l s' l' g ad c anchors counted =
      let b = fill_begins state x fi in
      rw fi.partition.of at (walking_end t places p n x after state b s l state s l 1 0 0 x (walking_start t places p n x after state b s l) (omega arith) g s' l' ad c anchors counted)

  pub fill_adds : (state : List ℕ) (x : Partition) → First t p m state x → (x.start.0 ≤ x.end.0) × (0 ≤ 60000000)
  fill_adds state x fi = let b = fill_begins state x fi in walking_adds t places p n x after state b [] [] state [] [] 1 0 0 x (walking_start t places p n x after state b [] [])
