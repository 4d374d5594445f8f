-- The longest exceedance of a well-formed table: endless exactly when every delay of all time is above B, else the longest run of all
-- time; and how two rounds over the anchors compute it.
use Rattle.std.proofs.Math.Path.{◌≡◌, refl, ap}
use Rattle.std.proofs.Common.{ap₂, ◌∙◌, zero-add, arith, lt-ltb, le-ltb, le-leb, leb-false}
use Rattle.std.specs.Prelude.{◌↔◌, Bool, List, [], ◌∷◌, leb}
use Rattle.std.proofs.Math.Bool.{true, false, cond}
use Prim.Native.Nat.{ℕ, zero, suc, ◌+◌, ◌-◌, ◌*◌, ◌≤◌, ◌<◌, max}
use Rattle.std.proofs.Math.Decide.{dec_le}
use Rattle.std.proofs.lemmas.Bool.{lt-leb}
use Rattle.figures.specs.declared.Exceedance.TheVariants.{Run, Endless}
use Rattle.table.specs.Anchors.{Anchor, first_start, distance}
use Rattle.table.specs.Reading.{delay_at}
use Rattle.figures.specs.declared.Scan.{Scan}
use Rattle.figures.specs.Ticks.{ticks, every_above, scan, tick, longest_run, Longest}
use Rattle.figures.specs.Figures.{exceedance}
use Rattle.figures.specs.Folding.{ticks_add, ticks_same}
use Rattle.table.specs.Segments.{Spaced, Formed, below, delay_again}
use Rattle.figures.specs.ByAnchors.{segments, table_ticks}
use Rattle.figures.specs.LongestRun.{every_run, every_scan, endless_all, longest_run_holds}

module _ (B H : ℕ) (l : List Anchor) (f : Formed H l) where
  -- endless exactly when every delay is above B
  pub exceedance_endless : (exceedance B H l ≡ Endless) ↔ ((t : ℕ) → first_start l ≤ t → B < delay_at H l t)
  unfolding exceedance
  exceedance_endless = (go (every_above B (delay_at H l) (first_start l) H) refl, λ h. rw (every_run B (delay_at H l) (first_start l) H (first_start l) (λ t a b. h t a)))
    where
      go : (b : Bool) → every_above B (delay_at H l) (first_start l) H ≡ b
          → cond b Endless (Run (longest_run B (delay_at H l) (first_start l) (2 * H))) ≡ Endless → (t : ℕ) → first_start l ≤ t → B < delay_at H l t
      go true e h = endless_all B (delay_at H l) (first_start l) H f.some (delay_again H l f) e
      go false e h = let z : ◌≡◌ {A = ℕ} 0 1 = cc in absurd (omega arith)

  longest_from : (n : ℕ) → exceedance B H l ≡ Run n → Longest B (delay_at H l) (first_start l) n
  unfolding exceedance
  longest_from n = go (every_above B (delay_at H l) (first_start l) H) refl
    where
      go : (b : Bool) → every_above B (delay_at H l) (first_start l) H ≡ b
          → cond b Endless (Run (longest_run B (delay_at H l) (first_start l) (2 * H))) ≡ Run n → Longest B (delay_at H l) (first_start l) n
      go true e h = let z : ◌≡◌ {A = ℕ} 0 1 = cc in absurd (omega arith)
      go false e h =
          let z : longest_run B (delay_at H l) (first_start l) (2 * H) ≡ n = cc in
          rw z at (longest_run_holds B (delay_at H l) (first_start l) H f.some (delay_again H l f) e)

  never : exceedance B H l ≡ Endless → (n : ℕ) → Longest B (delay_at H l) (first_start l) n → ⊥
  never e n k = omega (arith, k.none (first_start l) (suc n) (omega arith) (λ t a b. exceedance_endless.0 e t a))

  -- else it is the longest run of all time
  pub exceedance_run : (n : ℕ) → (exceedance B H l ≡ Run n) ↔ Longest B (delay_at H l) (first_start l) n
  unfolding exceedance
  exceedance_run n = (longest_from n, λ k. go k (every_above B (delay_at H l) (first_start l) H) refl)
    where
      go : Longest B (delay_at H l) (first_start l) n → (b : Bool) → every_above B (delay_at H l) (first_start l) H ≡ b → exceedance B H l ≡ Run n
      go k true e = absurd (never (ap (λ (b : Bool). cond b Endless (Run (longest_run B (delay_at H l) (first_start l) (2 * H)))) e) n k)
      go k false e =
          let m : ℕ = longest_run B (delay_at H l) (first_start l) (2 * H) in
          let j : Longest B (delay_at H l) (first_start l) m = longest_run_holds B (delay_at H l) (first_start l) H f.some (delay_again H l f) e in
          let q : m ≡ n = omega (arith, k.none j.at m j.late j.run, j.none k.at n k.late k.run) in
          ap (λ (b : Bool). cond b Endless (Run m)) e ∙ ap Run q

-- what an anchor with latency v and d ticks does to the scan: the first v - B ticks exceed, or all
unfoldable pub stretch : ℕ → Scan → ℕ → ℕ → Scan
stretch B z d v =
    cond (leb d (v - B)) (scan (z.run + d) (max z.best (z.run + d))) (scan 0 (max z.best (z.run + (v - B))))

-- n ticks that exceed
yes_ticks : (B v n k : ℕ) (z : Scan) → z.run ≤ z.best → k + n ≤ v - B
    → ticks (tick B) (λ i. v - i) k n z ≡ scan (z.run + n) (max z.best (z.run + n))
unfolding ticks
yes_ticks B v zero k z i h = ap₂ scan (omega arith) (omega arith)
yes_ticks B v (suc n) k z i h =
    rw (lt-ltb B (v - k) (omega arith))
    (yes_ticks B v n (suc k) (scan (suc z.run) (max z.best (suc z.run))) (omega arith) (omega arith) ∙ ap₂ scan (omega arith) (omega arith))

-- n ticks that do not
no_ticks : (B v n k b : ℕ) → v - B ≤ k → ticks (tick B) (λ i. v - i) k n (scan 0 b) ≡ scan 0 b
unfolding ticks
no_ticks B v zero k b h = refl
no_ticks B v (suc n) k b h = rw (le-ltb B (v - k) (omega arith)) (no_ticks B v n (suc k) b (omega arith))

stretch_exact : (B : ℕ) (z : Scan) (d v : ℕ) → z.run ≤ z.best → ticks (tick B) (λ i. v - i) 0 d z ≡ stretch B z d v
unfolding stretch ticks
stretch_exact B z d v i = elim (dec_le d (v - B)) [
  | yes h ↦ rw (le-leb d (v - B) h) (yes_ticks B v d 0 z i (omega arith))
  | no h ↦
      let e : d ≡ (v - B) + suc (d - (v - B) - 1) = omega arith in
      rw (lt-leb d (v - B) (omega arith))
      (ap (λ (n : ℕ). ticks (tick B) (λ j. v - j) 0 n z) e
      ∙ ticks_add (tick B) (λ j. v - j) (v - B) (suc (d - (v - B) - 1)) 0 z
      ∙ rw (yes_ticks B v (v - B) 0 z i (omega arith), zero-add) (rest (d - (v - B) - 1) (z.run + (v - B)) (max z.best (z.run + (v - B)))))
]
  where
    rest : (n r b : ℕ) → ticks (tick B) (λ j. v - j) (v - B) (suc n) (scan r b) ≡ scan 0 b
    rest n r b = rw (le-ltb B (v - (v - B)) (omega arith)) (no_ticks B v n (suc (v - B)) b (omega arith))

-- no run passes the longest, and none the p ticks scanned
abbrev pub Bounded : ℕ → Scan → Type 0
Bounded p z = (z.run ≤ z.best) × (z.best ≤ p)

pub stretch_bounded : (B : ℕ) (z : Scan) (p d v : ℕ) → Bounded p z → Bounded (p + d) (stretch B z d v)
unfolding stretch
stretch_bounded B z p d v i = go (leb d (v - B)) refl
  where
    S : Bool → Scan
    S t = cond t (scan (z.run + d) (max z.best (z.run + d))) (scan 0 (max z.best (z.run + (v - B))))

    go : (t : Bool) → leb d (v - B) ≡ t → Bounded (p + d) (S t)
    go true e = (omega arith, omega arith)
    go false e = (omega arith, omega (arith, leb-false d (v - B) e))

stretch_best : (B : ℕ) (z : Scan) (d v : ℕ) → z.best ≤ (stretch B z d v).best
unfolding stretch
stretch_best B z d v = go (leb d (v - B))
  where
    go : (t : Bool) → z.best ≤ (cond t (scan (z.run + d) (max z.best (z.run + d))) (scan 0 (max z.best (z.run + (v - B))))).best
    go true = omega arith
    go false = omega arith

pub stretch_keeps : (B : ℕ) (z : Scan) (d v : ℕ) → z.run ≤ z.best → (stretch B z d v).run ≤ (stretch B z d v).best
stretch_keeps B z d v i = (stretch_bounded B z z.best d v (i, omega arith)).0

segments_bounded : (B limit : ℕ) (x : Anchor) (l : List Anchor) → Spaced limit (x ∷ l) → (p : ℕ) (z : Scan) → Bounded p z
    → Bounded (p + (limit - x.start)) (segments (stretch B) limit (x ∷ l) z)
unfolding segments
segments_bounded B limit x [] sp p z i = stretch_bounded B z p (limit - x.start) x.latency i
segments_bounded B limit x (y ∷ l) sp p z i =
    let e : p + (y.start - x.start) + (limit - y.start) ≡ p + (limit - x.start) = omega (arith, below limit y l sp.3) in
    rw e at (segments_bounded B limit y l sp.3 (p + (y.start - x.start)) (stretch B z (y.start - x.start) x.latency) (stretch_bounded B z p (y.start - x.start) x.latency i))

-- one round over the anchors, from the scan z
abbrev pub round : ℕ → ℕ → List Anchor → Scan → Scan
round B H l z = segments (stretch B) (first_start l + H) l z

pub round_bounded : (B H : ℕ) (l : List Anchor) → Formed H l → (p : ℕ) (z : Scan) → Bounded p z → Bounded (p + H) (round B H l z)
round_bounded B H l f p z i = rw f.whole (go f.head f.tail f.spacing)
  where
    go : (x : Anchor) (l : List Anchor) → Spaced (x.start + H) (x ∷ l) → Bounded (p + H) (round B H (x ∷ l) z)
    go x l sp = let e : x.start + H - x.start ≡ H = omega arith in rw e at (segments_bounded B (x.start + H) x l sp p z i)

-- the longest run only grows on the way
pub best_grows : (B limit : ℕ) (l : List Anchor) (z : Scan) → z.best ≤ (segments (stretch B) limit l z).best
unfolding segments
best_grows B limit [] z = omega arith
best_grows B limit (x ∷ l) z =
    let d : ℕ = distance limit x l in
    omega (arith, best_grows B limit l (stretch B z d x.latency), stretch_best B z d x.latency)

module _ (B H : ℕ) (l : List Anchor) (f : Formed H l) where
  -- one round of the anchors is one round of the ticks
  round_ticks : (z : Scan) → z.run ≤ z.best → ticks (tick B) (delay_at H l) (first_start l) H z ≡ round B H l z
  round_ticks = table_ticks (tick B) (stretch B) (λ z. z.run ≤ z.best) (stretch_keeps B) (λ z d v i h. stretch_exact B z d v i) H l f

  two_rounds : ticks (tick B) (delay_at H l) (first_start l) (2 * H) (scan 0 0) ≡ round B H l (round B H l (scan 0 0))
  two_rounds =
      let e : 2 * H ≡ H + H = omega arith in
      let z : Scan = round B H l (scan 0 0) in
      rw (e, ticks_add (tick B) (delay_at H l) H H (first_start l) (scan 0 0), round_ticks (scan 0 0) (omega arith))
      (ticks_same (tick B) (delay_at H l) (delay_at H l) H (first_start l + H) (first_start l) z
      (λ i h. let q : first_start l + i + 1 * H ≡ first_start l + H + i = omega arith in rw q at (delay_again H l f (first_start l + i) 1 (omega arith)))
      ∙ round_ticks z (round_bounded B H l f 0 (scan 0 0) (omega arith, omega arith)).0)

  -- endless where the first round's run has all H ticks, else the longest of two rounds
  pub exceedance_anchors : exceedance B H l ≡ cond (leb H (round B H l (scan 0 0)).run) Endless (Run (round B H l (round B H l (scan 0 0))).best)
  unfolding exceedance longest_run
  exceedance_anchors = rw (every_scan B (delay_at H l) (first_start l) H, round_ticks (scan 0 0) (omega arith), two_rounds, longest_run)
