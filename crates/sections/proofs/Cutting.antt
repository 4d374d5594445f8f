-- The loop over the cuts: what is stored and summed so far, and what is left.
use Prim.Native.Nat.{ℕ, zero, suc, ◌+◌, ◌-◌, ◌*◌, ◌≤◌, ◌<◌}
use native.Mathlib.Omega.{arith}
use native.Mathlib.Numerals.{add-one}
use native.Mathlib.Nat.{suc-mul}
use mathlib.Core.Path.{◌≡◌, refl, sym, ap, ◌∙◌}
use mathlib.Core.Bool.{true}
use mathlib.Core.List.{List, [], ◌∷◌, ◌++◌, map}
use lib.ListN.{length, take, drop, set, get_or, replicate, length-drop, length-map}
use lib.Seq.{take_all, length-take-le, drop-drop, drop-nil}
use Rattle.ranges.specs.Entries.{sum}
use Rattle.task.specs.declared.Place.{Place}
use Rattle.chain.proofs.Front.{rest_cons, rest_end}
use Rattle.schedule.specs.Schedules.{padded}
use Rattle.schedule.specs.Padding.{padded_none, padded_set}
use Rattle.latency.specs.Latency.{greatest_latency}
use Rattle.latency.specs.GreatestDelay.{greatest_fits}
use Rattle.sections.specs.declared.Sections.{Sections}
use Rattle.sections.specs.Sections.{parts_from, sections_of, rises_to, latencies_of, sum_of, answered}
use Rattle.sections.specs.Uniform.{Cuttable, section_cuttable}
use Rattle.sections.proofs.CutLaws.{sections_count, Rising, rising}

-- ---- lists

-- the element that what is left begins with
head_left : (l r : List ℕ) (i x : ℕ) → drop i l ≡ x ∷ r → (take (suc i) l ≡ take i l ++ (x ∷ [])) × (drop (suc i) l ≡ r) × (i < length l)
head_left [] r i x e = absurd (let z : ◌≡◌ {A = List ℕ} [] (x ∷ r) = sym (drop-nil {A = ℕ} i) ∙ e in let n : 0 ≡ suc (length r) = ap length z in omega arith)
head_left (y ∷ l) r zero x e =
    let a : y ≡ x = ap (λ (k : List ℕ). get_or k 0 0) e in
    let b : l ≡ r = ap (drop 1) e in
    (ap (λ (k : ℕ). k ∷ []) a, b, omega arith)
head_left (y ∷ l) r (suc i) x e = let h = head_left l r i x e in (ap (λ (k : List ℕ). y ∷ k) h.0, h.1, omega (arith, h.2))

-- ---- the loop

-- the latencies of the sections after place `from`, cut at these cuts
abbrev rest : List Place → ℕ → List ℕ → List ℕ
rest l from cuts = map greatest_latency (parts_from from (drop from l) cuts)

-- i cuts are done, and the next section begins after place `from`
pub record Cutting (g : ℕ) (l : List Place) (cuts : List ℕ) (latencies : List ℕ) (total from i : ℕ) : Type 0 where
  pub inside : from < length l
  pub few : i ≤ length cuts
  pub behind : i ≤ from
  pub rises : rises_to (length l) from (drop i cuts) ≡ true
  pub stored : latencies ≡ padded 12 0 (take i (latencies_of l cuts))
  pub left : drop i (latencies_of l cuts) ≡ rest l from (drop i cuts)
  pub summed : sum_of g l cuts ≡ total + (sum (rest l from (drop i cuts)) + length (drop i cuts) * g)
  pub small : total ≤ i * 60012000

module _ (g : ℕ) (l : List Place) (k : Cuttable g l) (cuts : List ℕ) where
  some : 1 ≤ length l
  some = k.uniform.sound.some

  pub gap_small : g ≤ 1000
  gap_small = omega (arith, k.uniform.gaps 0 some, (k.uniform.sound.each 0 some).gap_max)

  pub cutting_start : rises_to (length l) 0 cuts ≡ true → Cutting g l cuts (replicate 12 0) 0 0 0
  cutting_start h = record {
    inside = some;
    few = omega arith;
    behind = omega arith;
    rises = h;
    stored = sym (padded_none 0 12);
    left = refl;
    summed = omega arith;
    small = omega arith;
  }

  -- at a section from after place `from` up to place e
  module _ (latencies : List ℕ) (total from i : ℕ) (w : Cutting g l cuts latencies total from i) where
    abbrev latency : ℕ → ℕ
    latency e = greatest_latency (take (e - from) (drop from l))

    pub latency_small : (e : ℕ) → from < e → e ≤ length l → latency e ≤ 60011000
    latency_small e low high = greatest_fits (take (e - from) (drop from l)) (section_cuttable g l k from e low high).uniform.sound

    -- so no sum is large
    pub room : (i < 12) × (total + 60012000 ≤ 1000000000)
    room = (omega (arith, w.behind, w.inside, k.uniform.sound.few), omega (arith, w.small, w.behind, w.inside, k.uniform.sound.few))

    -- the store of the next section's latency
    stores : (x : ℕ) (r : List ℕ) → rest l from (drop i cuts) ≡ x ∷ r → (set latencies i x ≡ padded 12 0 (take (suc i) (latencies_of l cuts))) × (drop (suc i) (latencies_of l cuts) ≡ r)
    stores x r e =
        let h = head_left (latencies_of l cuts) r i x (w.left ∙ e) in (
          ap (λ (y : List ℕ). set y i x) w.stored ∙ padded_set 0 12 (take i (latencies_of l cuts)) i x (length-take-le i (latencies_of l cuts) (omega (arith, h.2))) room.0
              ∙ ap (padded 12 0) (sym h.0),
          h.1,
        )

    module _ (more : i < length cuts) where
      abbrev c : ℕ
      c = get_or cuts i 0

      split : drop i cuts ≡ c ∷ drop (i + 1) cuts
      split = rest_cons cuts i 0 more

      pub next_cut : Rising (length l) from c (drop (i + 1) cuts)
      next_cut = rising (length l) from c (drop (i + 1) cuts) (rw split at w.rises)

      next_rest : rest l from (drop i cuts) ≡ latency c ∷ rest l c (drop (i + 1) cuts)
      unfolding parts_from
      next_rest =
          let e : from + (c - from) ≡ c = omega (arith, next_cut.above) in
          ap (rest l from) split
          ∙ ap (λ (m : List Place). latency c ∷ map greatest_latency (parts_from c m (drop (i + 1) cuts))) (drop-drop (c - from) from l ∙ ap (λ (x : ℕ). drop x l) e)

      pub cutting_turn : (x : ℕ) → x ≡ latency c → Cutting g l cuts (set latencies i x) (total + (x + g)) c (i + 1)
      unfolding sum
      cutting_turn x e =
          let s = stores (latency c) (rest l c (drop (i + 1) cuts)) next_rest in
          let n : length (drop i cuts) ≡ suc (length (drop (i + 1) cuts)) = ap length split in
          let a = add-one i in
          record {
            inside = next_cut.below;
            few = omega arith;
            behind = omega (arith, w.behind, next_cut.above);
            rises = next_cut.rest;
            stored = rw (e, a) s.0;
            left = ap (λ (y : ℕ). drop y (latencies_of l cuts)) a ∙ s.1;
            summed = omega (arith, w.summed, e, ap sum next_rest, ap (λ (y : ℕ). y * g) n, suc-mul (length (drop (i + 1) cuts)) g);
            small = omega (arith, w.small, e, gap_small, latency_small c next_cut.above (omega (arith, next_cut.below)));
          }

    module _ (all : length cuts ≤ i) where
      last_rest : rest l from (drop i cuts) ≡ latency (length l) ∷ []
      unfolding parts_from
      last_rest = ap (rest l from) (rest_end cuts i all) ∙ ap (λ (m : List Place). greatest_latency m ∷ []) (sym (take_all (length l - from) (drop from l) (omega (arith, length-drop from l))))

      pub cutting_end : (x : ℕ) → x ≡ latency (length l) → ◌≡◌ {A = Sections} (record { latencies = set latencies i x; count = i + 1; sum = total + x }) (answered g l cuts)
      unfolding sum
      cutting_end x e =
          let s = stores (latency (length l)) [] last_rest in
          let n : i ≡ length cuts = omega (arith, w.few) in
          let whole : take (suc i) (latencies_of l cuts) ≡ latencies_of l cuts
          = take_all (suc i) (latencies_of l cuts) (omega (arith, length-map (sections_of l cuts) greatest_latency, sections_count cuts 0 l)) in
          let stored : set latencies i x ≡ padded 12 0 (latencies_of l cuts) = rw e (s.0 ∙ ap (padded 12 0) whole) in
          let counted : i + 1 ≡ length (sections_of l cuts) = omega (arith, sections_count cuts 0 l) in
          let summed : total + x ≡ sum_of g l cuts = omega (arith, w.summed, e, ap sum last_rest, ap (λ (y : ℕ). y * g) (ap length (rest_end cuts i all))) in
          ap (λ (y : List ℕ). made y (i + 1) (total + x)) stored ∙ ap (λ (y : ℕ). made (padded 12 0 (latencies_of l cuts)) y (total + x)) counted
          ∙ ap (made (padded 12 0 (latencies_of l cuts)) (length (sections_of l cuts))) summed
        where
          made : List ℕ → ℕ → ℕ → Sections
          made y n t = record { latencies = y; count = n; sum = t }
