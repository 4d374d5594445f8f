-- A fold over the ticks of a hyperperiod is a fold over the anchors, whatever is folded: by the segment law each anchor's ticks have
-- delays that fall by one from its latency.
use Rattle.std.specs.Prelude.{◌≡◌, length, get_or, drop}
use Rattle.std.proofs.Common.{◌∙◌}
use mathlib.Core.List.{List, [], ◌∷◌}
use Prim.Native.Nat.{ℕ, ◌+◌, ◌-◌, ◌≤◌, ◌<◌}
use native.Mathlib.Omega.{arith}
use Rattle.table.specs.Anchors.{Anchor, anchors, first_start, distance}
use Rattle.table.specs.WellFormed.{next_start}
use Rattle.table.specs.Reading.{delay_at}
use Rattle.table.specs.Segments.{Spaced, Formed, below, later, delay_in, segment, delay_first}
use Rattle.table.specs.Places.{anchors_end, anchors_at, next_at}
use Rattle.figures.specs.Ticks.{ticks}
use Rattle.figures.specs.Folding.{ticks_add, ticks_same}

-- the state after the anchors of l: seg takes the distance to the next start and the latency
unfoldable pub segments : {S : Type 0} → (S → ℕ → ℕ → S) → ℕ → List Anchor → S → S
segments seg limit [] z = z
segments seg limit (x ∷ l) z = segments seg limit l (seg z (distance limit x l) x.latency)

-- `seg` does for a whole segment what `step` does tick by tick, where I holds of the state
module _ {S : Type 0} (step : S → ℕ → S) (seg : S → ℕ → ℕ → S) (I : S → Type 0)
    (keeps : (z : S) (d v : ℕ) → I z → I (seg z d v))
    (exact : (z : S) (d v : ℕ) → I z → d < v → ticks step (λ i. v - i) 0 d z ≡ seg z d v)
  where
    segment_ticks : (limit : ℕ) (x : Anchor) (l : List Anchor) → Spaced limit (x ∷ l) → (z : S) → I z
        → ticks step (delay_in x l) x.start (distance limit x l) z ≡ seg z (distance limit x l) x.latency
    segment_ticks limit x l sp z i =
        ticks_same step (delay_in x l) (λ v. x.latency - v) (distance limit x l) x.start 0 z
        (λ j h. segment limit x l sp j h ∙ omega arith)
        ∙ exact z (distance limit x l) x.latency i sp.2

    segments_ticks : (limit : ℕ) (x : Anchor) (l : List Anchor) → Spaced limit (x ∷ l) → (z : S) → I z
        → ticks step (delay_in x l) x.start (limit - x.start) z ≡ segments seg limit (x ∷ l) z
    unfolding segments
    segments_ticks limit x [] sp z i = segment_ticks limit x [] sp z i
    segments_ticks limit x (y ∷ l) sp z i =
        let d : ℕ = y.start - x.start in
        let n : ℕ = limit - y.start in
        let e : limit - x.start ≡ d + n = omega (arith, below limit y l sp.3) in
        let a : ticks step (delay_in x (y ∷ l)) x.start d z ≡ seg z d x.latency = segment_ticks limit x (y ∷ l) sp z i in
        let b : ticks step (delay_in x (y ∷ l)) (x.start + d) n (seg z d x.latency) ≡ ticks step (delay_in y l) y.start n (seg z d x.latency)
        = ticks_same step (delay_in x (y ∷ l)) (delay_in y l) n (x.start + d) y.start (seg z d x.latency) (λ j h. same j) in
        rw (e, ticks_add step (delay_in x (y ∷ l)) d n x.start z, a, b)
        (segments_ticks limit y l sp.3 (seg z d x.latency) (keeps z d x.latency i))
      where
        same : (j : ℕ) → delay_in x (y ∷ l) (x.start + (y.start - x.start) + j) ≡ delay_in y l (y.start + j)
        same j =
            let e : x.start + (y.start - x.start) + j ≡ y.start + j = omega arith in
            rw (e, later (y.start + j) x y l (omega arith))

    -- the H ticks from the first start on
    pub table_ticks : (H : ℕ) (l : List Anchor) → Formed H l → (z : S) → I z → ticks step (delay_at H l) (first_start l) H z ≡ segments seg (first_start l + H) l z
    table_ticks H l f z i = rw f.whole (go f.head f.tail f.spacing)
      where
        go : (x : Anchor) (l : List Anchor) → Spaced (x.start + H) (x ∷ l) → ticks step (delay_at H (x ∷ l)) x.start H z ≡ segments seg (x.start + H) (x ∷ l) z
        go x l sp =
            let e : x.start + H - x.start ≡ H = omega arith in
            ticks_same step (delay_at H (x ∷ l)) (delay_in x l) H x.start x.start z (λ j h. delay_first H x l j h)
            ∙ rw e at (segments_ticks (x.start + H) x l sp z i)

-- the fold by places: one step, in two lists that hold at least g entries, and the end
pub segments_at : (s v : List ℕ) (g : ℕ) → g ≤ length s → g ≤ length v → {S : Type 0} (seg : S → ℕ → ℕ → S) (limit i : ℕ) (z : S) → i < g
    → segments seg limit (drop i (anchors s v g)) z ≡ segments seg limit (drop (i + 1) (anchors s v g)) (seg z (next_start s g limit i - get_or s i 0) (get_or v i 0))
unfolding segments
segments_at s v g p q seg limit i z h = rw (anchors_at s v g p q i h, ← (next_at s v g p q limit i h))

pub segments_end : {S : Type 0} (seg : S → ℕ → ℕ → S) (s v : List ℕ) (g limit i : ℕ) (z : S) → i ≡ g → segments seg limit (drop i (anchors s v g)) z ≡ z
unfolding segments
segments_end seg s v g limit i z e = rw (e, anchors_end s v g)
