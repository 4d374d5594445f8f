-- The anchors of a chain cut at a place are those that its first place's jobs give, whatever the place: said of a way forward to the cut, f,
-- that has a count back, b; the reads readAt of the first place; and the writes e at the end of the ways on from the cut.
use Prim.Native.Nat.{ℕ, zero, suc, ◌+◌, ◌-◌, ◌≤◌, ◌<◌}
use Rattle.std.proofs.Math.Decide.{dec_lt}
use native.Mathlib.Omega.{arith}
use Rattle.std.specs.Prelude.{◌≡◌, ◌↔◌, ◌≢◌, Bool, List, map}
use Rattle.std.proofs.Math.Path.{refl, sym, ap}
use Rattle.std.proofs.Common.{◌∙◌}
use Rattle.chain.specs.GaloisPair.{b_mono}
use Rattle.table.specs.Anchors.{Anchor, anchor}
use Rattle.partition.specs.Lists.{put, fresh, drop_repeats}
use Rattle.partition.specs.Selections.{differ, differ_not, differ_so, map_put, select, select_skip, drop_fresh}

-- b counts back from the cut to the first place, whose job j reads at readAt j; job m at the cut goes forward to a write at e m
module _ (b readAt e : ℕ → ℕ) where
  abbrev pub start_of : ℕ → ℕ
  start_of m = readAt (b (suc m) - 1)

  abbrev pub end_of : ℕ → ℕ
  end_of m = e (suc m)

  abbrev pub keeps : ℕ → Bool
  keeps m = differ (start_of (suc m)) (start_of m)

  abbrev pub part_of : ℕ → Anchor
  part_of m = anchor (start_of m) (end_of m - start_of m)

  -- the anchors of the n partitions from m on
  unfoldable pub anchors : ℕ → ℕ → List Anchor
  anchors m n = map part_of (drop_repeats end_of (select keeps m n))

-- the same from the first place's jobs: w j is the end of the whole chain's walk from j
module _ (w readAt : ℕ → ℕ) where
  abbrev pub ends_later : ℕ → Bool
  ends_later j = differ (w (suc j)) (w j)

  abbrev pub anchor_at : ℕ → Anchor
  anchor_at j = anchor (readAt j) (w (suc j) - readAt j)

  unfoldable pub canonical_from : ℕ → ℕ → List Anchor
  canonical_from j n = map anchor_at (select ends_later j n)

module _ (f b readAt e : ℕ → ℕ) (gal : (j n : ℕ) → (f j < n) ↔ (j < b n)) (inj : (i j : ℕ) → readAt i ≡ readAt j → i ≡ j) where
  -- between two starts the forward walk to the cut stands still
  flat : (s x y j : ℕ) → b (suc s) ≡ suc x → b (suc (suc s)) ≡ suc y → x < j → j ≤ y → f j ≡ suc s
  flat s x y j hx hy l u =
      let top : f j < suc (suc s) = (gal j (suc (suc s))).1 (omega arith) in
      elim (dec_lt (f j) (suc s)) [ yes h ↦ let z = (gal j (suc s)).0 h in omega arith | no h ↦ omega arith ]

  jump : (s x y z : ℕ) → b (suc s) ≡ suc x → b (suc (suc s)) ≡ suc y → x < y → suc y ≤ z
      → select (ends_later (λ j. e (f j)) readAt) x (z - suc x) ≡ put (ends_later (λ j. e (f j)) readAt x) x (select (ends_later (λ j. e (f j)) readAt) y (z - suc y))
  unfolding select
  jump s x y z hx hy l u =
      let c : z - suc x ≡ suc ((y - suc x) + (z - suc y)) = omega arith in
      let d : suc x + (y - suc x) ≡ y = omega arith in
      rw (
        c,
        select_skip (ends_later (λ j. e (f j)) readAt) (y - suc x) (suc x) (z - suc y)
            (λ j m n. differ_not (e (f (suc j))) (e (f j)) (ap e (flat s x y (suc j) hx hy (omega arith) (omega arith) ∙ sym (flat s x y j hx hy (omega arith) (omega arith))))),
        d,
      )

  -- the partitions' side, and the first place's side, of the claim that goes by induction
  abbrev left : ℕ → ℕ → ℕ → List Anchor
  left p s n = map (part_of b readAt e) (fresh (end_of b readAt e) p (select (keeps b readAt e) s n))

  abbrev right : ℕ → ℕ → List Anchor
  right x z = map (anchor_at (λ j. e (f j)) readAt) (select (ends_later (λ j. e (f j)) readAt) x (z - suc x))

  -- a partition that is not kept
  stay : (n s p : ℕ) → b (suc (suc s)) ≡ b (suc s) → left p s (suc n) ≡ left p (suc s) n
  unfolding select
  stay n s p h = rw (differ_not (readAt (b (suc (suc s)) - 1)) (readAt (b (suc s) - 1)) (ap (λ (y : ℕ). readAt (y - 1)) h))

  -- one that is
  turn : (n s p x y z : ℕ) → b (suc s) ≡ suc x → b (suc (suc s)) ≡ suc y → x < y → suc y ≤ z → p ≡ e (f x)
      → left (e (suc s)) (suc s) n ≡ right y z → left p s (suc n) ≡ right x z
  unfolding select fresh
  turn n s p x y z hx hy l u hp ih =
      let q : b (suc s) - 1 ≡ x = omega arith in
      let v : f (suc x) ≡ suc s = flat s x y (suc x) hx hy (omega arith) l in
      rw (differ_so (readAt (b (suc (suc s)) - 1)) (readAt (b (suc s) - 1)) (λ i. let o = inj (b (suc (suc s)) - 1) (b (suc s) - 1) i in omega arith))
      (rw (jump s x y z hx hy l u, map_put, map_put, ih, q, v, hp))

  step : (n s t x p : ℕ) → s + n ≡ t → b (suc s) ≡ suc x → p ≡ e (f x) → left p s n ≡ right x (b (suc t))
  unfolding select fresh
  step zero s t x p hs hb hp =
      let w : suc t ≡ suc s = omega arith in
      let z : b (suc t) - suc x ≡ 0 = omega (arith, ap b w) in
      rw z
  step (suc n) s t x p hs hb hp = elim (dec_lt (suc x) (b (suc (suc s)))) [
    | no h ↦
        let m = b_mono f b gal (suc s) (suc (suc s)) (omega arith) in
        stay n s p (omega arith) ∙ step n (suc s) t x p (omega arith) (omega arith) hp
    | yes h ↦
        let y : ℕ = b (suc (suc s)) - 1 in
        turn n s p x y (b (suc t)) hb (omega arith) (omega arith) (omega (arith, b_mono f b gal (suc (suc s)) (suc t) (omega arith))) hp
        (step n (suc s) t y (e (suc s)) (omega arith) (omega arith) (ap e (sym (flat s x y y hb (omega arith) (omega arith) (omega arith)))))
  ]

  pub anchors_canon : (s n x : ℕ) → b (suc s) ≡ suc x → ((m : ℕ) → s ≤ m → e (suc m) ≢ e (f x))
      → anchors b readAt e s n ≡ canonical_from (λ j. e (f j)) readAt x (b (suc (s + n)) - suc x)
  unfolding anchors canonical_from
  anchors_canon s n x h d = ap (map (part_of b readAt e)) (drop_fresh (end_of b readAt e) (keeps b readAt e) (e (f x)) n s d) ∙ step n s (s + n) x (e (f x)) refl h refl
