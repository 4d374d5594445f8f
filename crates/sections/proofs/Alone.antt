-- "Makers of one board know only their section": whoever has section i alone, with the chain's gap, and asks with no cut, is not refused and is answered entry i of what is answered of the whole
-- (`each_alone` of lists of tasks; `chain_alone` of what the call answers of any chain that such a section stands for).
use Rattle.std.specs.Prelude.{ℕ, zero, suc, ◌+◌, ◌-◌, ◌≤◌, ◌<◌, ◌≡◌, refl, true, List, [], ◌∷◌, map, length, take, drop, get_or, Ok}
use Rattle.std.proofs.Common.{arith, sym, ap, ◌∙◌, subst, length-drop}
use Rattle.std.proofs.lemmas.List.{length-map}
use Rattle.std.proofs.Math.ListN.{get_or-map}
use Rattle.task.specs.declared.Task.{Task}
use Rattle.task.specs.declared.Place.{Place}
use Rattle.task.specs.Jobs.{place_of, Within, Limited, gap_limit}
use Rattle.task.proofs.LinkLaws.{limits_hold}
use Rattle.chain.specs.declared.Chain.{Chain}
use Rattle.chain.specs.Chains.{given_of, placed, zero_task}
use Rattle.chain.specs.Placed.{at_placed}
use Rattle.chain.specs.Hyperperiod.{hyper_of}
use Rattle.chain.specs.Checks.{first_fault, verdict_in}
use Rattle.chain.specs.StandsFor.{StandsFor}
use Rattle.chain.proofs.CheckLaws.{check_hyper, hyper_accepted}
use Rattle.schedule.specs.Padding.{padded_at}
use Rattle.latency.specs.Latency.{greatest_latency}
use Rattle.sections.specs.declared.Sections.{Sections}
use Rattle.sections.specs.Sections.{parts_from, sections_of, rises_to, valid_cuts, latencies_of, answered, sections_after, sections_answer, sections_in}
use Rattle.sections.specs.Uniform.{Cuttable, cuttable_front, cuttable_rest}
use Rattle.sections.proofs.CutLaws.{sections_count, few_cuts, rising}
use Rattle.sections.specs.Standing.{sections_stands}
use Rattle.sections.proofs.EveryCut.{whole_sum, is_answered}

-- ---- tasks and their places

placed_take : (g k : ℕ) (l : List Task) → placed g (take k l) ≡ take k (placed g l)
placed_take g zero l = refl
placed_take g (suc k) [] = refl
placed_take g (suc k) (x ∷ l) = ap (λ (r : List Place). place_of g x ∷ r) (placed_take g k l)

placed_drop : (g k : ℕ) (l : List Task) → placed g (drop k l) ≡ drop k (placed g l)
placed_drop g zero l = refl
placed_drop g (suc k) [] = refl
placed_drop g (suc k) (x ∷ l) = placed_drop g k l

-- the places of the sections are the sections of the places
parts_placed : (g : ℕ) (cuts : List ℕ) (from : ℕ) (l : List Task) → parts_from from (placed g l) cuts ≡ map (placed g) (parts_from from l cuts)
unfolding parts_from
parts_placed g [] from l = refl
parts_placed g (c ∷ cuts) from l =
    ap (λ (x : List Place). x ∷ parts_from c (drop (c - from) (placed g l)) cuts) (sym (placed_take g (c - from) l))
    ∙ ap (λ (x : List (List Place)). placed g (take (c - from) l) ∷ x) (ap (λ (x : List Place). parts_from c x cuts) (sym (placed_drop g (c - from) l)) ∙ parts_placed g cuts c (drop (c - from) l))

-- ---- each section is accepted

parts_cuttable : (g : ℕ) (cuts : List ℕ) (n from : ℕ) (l : List Place) → Cuttable g l → from + length l ≡ n → rises_to n from cuts ≡ true → (i : ℕ) → i < suc (length cuts)
    → Cuttable g (get_or (parts_from from l cuts) i [])
unfolding parts_from
parts_cuttable g [] n from l k e r zero h = k
parts_cuttable g [] n from l k e r (suc i) h = absurd (omega arith)
parts_cuttable g (c ∷ cuts) n from l k e r zero h = let o = rising n from c cuts r in cuttable_front g l k (c - from) (omega (arith, o.above)) (omega (arith, o.below))
parts_cuttable g (c ∷ cuts) n from l k e r (suc i) h =
    let o = rising n from c cuts r in
    parts_cuttable g cuts n c (drop (c - from) l) (cuttable_rest g l k (c - from) (omega (arith, o.above, o.below))) (omega (arith, length-drop (c - from) l, o.above, o.below)) o.rest i (omega arith)

no_fault : (l : List Task) (k : ℕ) → ((p : ℕ) → p < length l → Within (get_or l p zero_task)) → first_fault k l ≡ 0
unfolding first_fault
no_fault [] k w = refl
no_fault (x ∷ l) k w = rw (limits_hold x (w 0 (omega arith))) (no_fault l (k + 1) (λ p h. w (suc p) (omega arith)))

module _ (g : ℕ) (l : List Task) (k : Cuttable g (placed g l)) where
  counted : length (placed g l) ≡ length l
  counted = length-map l (place_of g)

  within : (p : ℕ) → p < length l → Within (get_or l p zero_task)
  within p h =
      let w : Limited (place_of g (get_or l p zero_task)) = subst Limited (at_placed g l p h) (k.uniform.sound.each p (omega (arith, counted))) in
      record { period_pos = w.period_pos; period_max = w.period_max; duration_pos = w.duration_pos; duration_max = w.duration_max; phase_max = w.phase_max }

  accepts : verdict_in g l ≡ Ok (hyper_of (placed g l))
  accepts =
      let ok = k.uniform.sound in
      let permitted : g ≤ gap_limit = omega (arith, (ok.each 0 ok.some).gap_max, k.uniform.gaps 0 ok.some) in
      sym
      (hyper_accepted (placed g l) (hyper_of (placed g l)) refl k.small
      ∙ check_hyper (length l) g l (omega (arith, ok.some, counted)) (omega (arith, ok.few, counted)) (sym (no_fault l 1 within)) permitted)

  -- so with no cut it is answered its greatest latency
  alone : sections_in g l [] ≡ Ok (answered g (placed g l) [])
  unfolding sections_after rises_to
  alone = rw accepts

  alone_sum : (answered g (placed g l) []).sum ≡ greatest_latency (placed g l)
  alone_sum = whole_sum g (placed g l) k.uniform

-- ---- and answered what the whole has in its place

entry_of : {A : Type 0} (f : A → ℕ) (l : List A) (i : ℕ) (d : A) → i < length l → get_or (map f l) i 0 ≡ f (get_or l i d)
entry_of f [] i d h = absurd (omega arith)
entry_of f (x ∷ l) zero d h = refl
entry_of f (x ∷ l) (suc i) d h = entry_of f l i d (omega arith)

module _ (g : ℕ) (l : List Task) (cuts : List ℕ) (k : Cuttable g (placed g l)) (valid : valid_cuts (placed g l) cuts ≡ true) (i : ℕ) (h : i < suc (length cuts)) where
  -- the tasks of section i, counted from 0
  abbrev section : List Task
  section = get_or (sections_of l cuts) i []

  same : get_or (sections_of (placed g l) cuts) i [] ≡ placed g section
  same = ap (λ (x : List (List Place)). get_or x i []) (parts_placed g cuts 0 l) ∙ get_or-map (placed g) (sections_of l cuts) i []

  cuttable : Cuttable g (placed g section)
  cuttable = subst (Cuttable g) same (parts_cuttable g cuts (length (placed g l)) 0 (placed g l) k (omega arith) valid i h)

  pub each_alone : (sections_in g section [] ≡ Ok (answered g (placed g section) [])) × ((answered g (placed g section) []).sum ≡ get_or (latencies_of (placed g l) cuts) i 0)
  each_alone = (
    alone g section cuttable,
    alone_sum g section cuttable ∙ sym (entry_of greatest_latency (sections_of (placed g l) cuts) i [] (omega (arith, sections_count cuts 0 (placed g l))) ∙ ap greatest_latency same),
  )

-- Of what the call answers: d is a chain for which section i of the answer s stands, as the chain of its tasks and the same gap.
module _ (c : Chain) (twelve : length c.tasks ≡ 12) (cuts : List ℕ) (s : Sections) (fine : sections_answer c cuts ≡ Ok s) (i : ℕ) (h : i < s.count) where
  abbrev part : List Task
  part = get_or (sections_of (given_of c) cuts) i []

  pub chain_alone : (d : Chain) → StandsFor c.gap part d
      → (sections_answer d [] ≡ Ok (answered c.gap (placed c.gap part) [])) × ((answered c.gap (placed c.gap part) []).sum ≡ get_or s.latencies i 0)
  chain_alone d st =
      let k = is_answered c twelve cuts s fine in
      let few = few_cuts _ cuts 0 k.ok.uniform.sound.some k.valid in
      let n : i < suc (length cuts) = omega (arith, ap (λ (x : Sections). x.count) k.is, sections_count cuts 0 (placed c.gap (given_of c))) in
      let w = each_alone c.gap (given_of c) cuts k.ok k.valid i n in (
        sym (sections_stands c.gap part d st []) ∙ w.0,
        w.1 ∙ sym (ap (λ (x : Sections). get_or x.latencies i 0) k.is ∙ padded_at 0 12 _ i 0 (omega (arith, few, k.ok.uniform.sound.few))),
      )
