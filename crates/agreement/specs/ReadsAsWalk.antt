-- A chain's anchors, read at a tick as a table is, give the delay of the forward walk there (`table_walk`).
use Prim.Native.Nat.{ℕ, zero, suc, ◌+◌, ◌-◌, ◌*◌, ◌/◌, ◌%◌, ◌≤◌, ◌<◌}
use Rattle.std.proofs.Common.{zero-add, ◌∙◌, le-leb}
use Rattle.std.proofs.Math.Nat.{suc-add, div-add-mod', div-le_self, mod-lt}
use Rattle.std.proofs.Math.Decide.{dec_lt}
use native.Mathlib.Omega.{arith}
use Rattle.std.specs.Prelude.{◌≡◌, Bool, length}
use Rattle.std.proofs.Math.Path.{refl, sym, ap}
use Rattle.std.proofs.Math.Bool.{true, false}
use mathlib.Core.List.{List, ◌∷◌, map}
use Rattle.std.proofs.Math.ListN.{length-map}
use Rattle.std.proofs.lemmas.Bool.{lt-leb}
use Rattle.task.specs.declared.Place.{Place}
use Rattle.task.specs.Jobs.{read_of}
use Rattle.task.specs.Links.{earliest_after}
use Rattle.task.proofs.LinkLaws.{after_less, read_mono}
use Rattle.chain.specs.Chains.{at}
use Rattle.chain.specs.Checks.{Sound}
use Rattle.chain.specs.Hyperperiod.{hyper_of}
use Rattle.chain.specs.Multiples.{hyper_pos}
use Rattle.timing.specs.WarmUp.{warm_at, warm_tick}
use Rattle.timing.specs.Delay.{delay_at}
use Rattle.timing.specs.Period.{delay_periods}
use Rattle.table.specs.Anchors.{Anchor}
use Rattle.table.specs.Reading as table
use Rattle.table.specs.Reading.{last_at, gives}
use Rattle.partition.specs.Lists.{put}
use Rattle.partition.specs.Selections.{differ_false, select, select_length}
use Rattle.partition.specs.CanonicalAnchors.{ends_later, anchor_at, canonical_from}
use Rattle.partition.proofs.CutFree.{end_walk, canonical}
use Rattle.agreement.specs.Jobs.{hyper_first, some_job, first_new}

module _ (w readAt : ℕ → ℕ) (rise : (i j : ℕ) → i ≤ j → readAt i ≤ readAt j) where
  -- anchors that start past the tick are not taken
  late : (n y u : ℕ) (x : Anchor) → u < readAt y → last_at u x (map (anchor_at w readAt) (select (ends_later w readAt) y n)) ≡ x
  unfolding last_at select
  late zero y u x h = refl
  late (suc n) y u x h = go (ends_later w readAt y) (late n (suc y) u x (omega (arith, rise y (suc y) (omega arith))))
    where
      go : (t : Bool) → last_at u x (map (anchor_at w readAt) (select (ends_later w readAt) (suc y) n)) ≡ x
          → last_at u x (map (anchor_at w readAt) (put t y (select (ends_later w readAt) (suc y) n))) ≡ x
      go true ih = rw (lt-leb (readAt y) u h, last_at) ih
      go false ih = ih

  -- J is the last job that reads at or before u; between the last anchor's job x and J no walk ends later
  found : (k n x y J u : ℕ) → y + k ≡ suc J → w y ≡ w (suc x) → readAt x ≤ u → readAt J ≤ u → u < readAt (suc J)
      → gives u (last_at u (anchor_at w readAt x) (map (anchor_at w readAt) (select (ends_later w readAt) y (k + n)))) ≡ w (suc J) - u
  unfolding last_at select
  found zero n x y J u hy hw hx hJ hu =
      let e : y ≡ suc J = omega arith in
      rw (zero-add, late n y u (anchor_at w readAt x) (rw e hu)) (omega (arith, ap w e))
  found (suc k) n x y J u hy hw hx hJ hu =
      rw suc-add (go (ends_later w readAt y) refl (found k n y (suc y) J u (omega arith) refl ry hJ hu) (λ h. found k n x (suc y) J u (omega arith) (h ∙ hw) hx hJ hu))
    where
      ry : readAt y ≤ u
      ry = omega (arith, rise y J (omega arith))

      go : (t : Bool) → ends_later w readAt y ≡ t
          → gives u (last_at u (anchor_at w readAt y) (map (anchor_at w readAt) (select (ends_later w readAt) (suc y) (k + n)))) ≡ w (suc J) - u
          → (w (suc y) ≡ w y → gives u (last_at u (anchor_at w readAt x) (map (anchor_at w readAt) (select (ends_later w readAt) (suc y) (k + n)))) ≡ w (suc J) - u)
          → gives u (last_at u (anchor_at w readAt x) (map (anchor_at w readAt) (put t y (select (ends_later w readAt) (suc y) (k + n))))) ≡ w (suc J) - u
      go true e p q = rw (le-leb (readAt y) u ry, last_at) p
      go false e p q = q (differ_false (w (suc y)) (w y) e)

module _ (l : List Place) (ok : Sound l) where
  -- the first anchor is that of W1
  abbrev pub first_anchor : Anchor
  first_anchor = anchor_at (end_walk l) (read_of (at l 0)) (warm_at l 0)

  abbrev pub other_anchors : List Anchor
  other_anchors = map (anchor_at (end_walk l) (read_of (at l 0))) (select (ends_later (end_walk l) (read_of (at l 0))) (suc (warm_at l 0)) (hyper_of l / (at l 0).period - 1))

  pub canonical_cons : canonical l (hyper_of l) ≡ first_anchor ∷ other_anchors
  unfolding canonical canonical_from select
  canonical_cons =
      let e : hyper_of l / (at l 0).period ≡ suc (hyper_of l / (at l 0).period - 1) = omega (arith, some_job l ok) in
      ap (λ (n : ℕ). map (anchor_at (end_walk l) (read_of (at l 0))) (select (ends_later (end_walk l) (read_of (at l 0))) (warm_at l 0) n)) e ∙ rw (first_new l ok)

  -- at a tick of the first hyperperiod, J being the last job that reads at or before it
  read_job : (u J : ℕ) → earliest_after (at l 0) u ≡ suc J → read_of (at l 0) (warm_at l 0) ≤ u → u < read_of (at l 0) (warm_at l 0) + hyper_of l
      → gives u (last_at u first_anchor other_anchors) ≡ delay_at l u
  unfolding delay_at
  read_job u J n lo hi =
      let a : Place = at l 0 in
      let pos = (ok.each 0 ok.some).period_pos in
      let q : ℕ = hyper_of l / (at l 0).period in
      let W : ℕ = warm_at l 0 in
      let from : W < earliest_after a u = (after_less a pos u W).1 lo in
      let here : read_of a J ≤ u = (after_less a pos u J).0 (omega arith) in
      let past : u < read_of a (suc J) = elim (dec_lt u (read_of a (suc J))) [ yes k ↦ k | no k ↦ let z = (after_less a pos u (suc J)).1 (omega arith) in omega arith ] in
      let top : J < W + q = elim (dec_lt J (W + q)) [
        | yes k ↦ k
        | no k ↦ omega (arith, read_mono a (W + q) J (omega arith), hyper_first l ok)
      ] in
      let s : q - 1 ≡ (J - W) + (q - 1 - (J - W)) = omega arith in
      ap (λ (x : ℕ). gives u (last_at u first_anchor (map (anchor_at (end_walk l) (read_of a)) (select (ends_later (end_walk l) (read_of a)) (suc W) x)))) s
      ∙ found (end_walk l) (read_of a) (read_mono a) (J - W) (q - 1 - (J - W)) W (suc W) J u (omega arith) refl lo here past
      ∙ ap (λ (x : ℕ). end_walk l x - u) (sym n)

  -- Read at any tick from the warm-up tick on, the anchors give the delay of the walk.
  pub table_walk : (t : ℕ) → warm_tick l ≤ t → table.delay_at (hyper_of l) (canonical l (hyper_of l)) t ≡ delay_at l t
  unfolding table.delay_at warm_tick
  table_walk t h =
      let a : Place = at l 0 in
      let x : ℕ = read_of (at l 0) (warm_at l 0) in
      let m : (t - x) % hyper_of l < hyper_of l = mod-lt (t - x) (hyper_pos l ok) in
      let u : ℕ = x + (t - x) % hyper_of l in
      let from : warm_at l 0 < earliest_after a u = (after_less a (ok.each 0 ok.some).period_pos u (warm_at l 0)).1 (omega arith) in
      let s : t ≡ u + (t - x) / hyper_of l * hyper_of l = omega (arith, div-add-mod' (t - x) (hyper_of l)) in
      rw canonical_cons
      (read_job u (earliest_after a u - 1) (omega arith) (omega arith) (omega arith)
      ∙ sym (delay_periods l ok ((t - x) / hyper_of l) u (omega arith)) ∙ ap (delay_at l) (sym s))

  -- There are no more anchors than jobs of the first place in a hyperperiod.
  pub canonical_few : length (canonical l (hyper_of l)) ≤ hyper_of l
  unfolding canonical canonical_from
  canonical_few =
      let q : ℕ = hyper_of l / (at l 0).period in
      let chosen = select (ends_later (end_walk l) (read_of (at l 0))) (warm_at l 0) q in
      omega (arith, length-map chosen (anchor_at (end_walk l) (read_of (at l 0))), select_length (ends_later (end_walk l) (read_of (at l 0))) (warm_at l 0) q, div-le_self (hyper_of l) (at l 0).period)
