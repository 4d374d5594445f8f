-- The anchors of a chain do not depend on the place of the cut (`cut_free`): they are the anchors by the first place's jobs, which name no cut.
use Prim.Native.Nat.{ℕ, suc, ◌+◌, ◌-◌, ◌/◌, ◌≤◌, ◌<◌}
use native.Mathlib.Omega.{arith}
use Rattle.std.proofs.Common.{add-one, mul-le-mul_right, ◌∙◌}
use Rattle.std.proofs.Math.Decide.{dec_lt}
use Rattle.std.specs.Prelude.{◌≡◌, refl, ◌≢◌, Bool, length, None, Option, Some}
use Rattle.std.proofs.Math.Path.{sym, ap, fun_ext}
use mathlib.Core.List.{List, map}
use Rattle.task.specs.declared.Job.{Job}
use Rattle.task.specs.declared.Place.{Place}
use Rattle.task.specs.Jobs.{read_of, write_of}
use Rattle.task.proofs.LinkLaws.{AtLeast}
use Rattle.chain.specs.Chains.{at, last_place, forward_by, backward_by, on_latest, walk, back, job_of}
use Rattle.chain.specs.Checks.{Sound}
use Rattle.chain.specs.Hyperperiod.{hyper_of}
use Rattle.chain.specs.Galois.{Periods, galois, forward_cut, backward_cut}
use Rattle.chain.specs.GaloisPair.{count_of, count_back, pair}
use Rattle.timing.specs.WarmUp.{warm_last, warm_at}
use Rattle.timing.specs.WarmLaws.{periods, warm_first, warm_found}
use Rattle.timing.specs.Period.{backward_repeats, hyper_repeats}
use Rattle.table.specs.Anchors.{Anchor, anchor}
use Rattle.partition.specs.Lists.{drop_repeats}
use Rattle.partition.specs.Partitions.{start_of, end_of, keeps, anchor_of, anchors_from, anchors_of}
use Rattle.partition.specs.Selections.{differ, select, keep_select}
use Rattle.partition.specs.CanonicalAnchors.{anchors, canonical_from, anchors_canon}

count_job : (q : Option Job) → count_of q - 1 ≡ job_of q
count_job (Some i) = omega arith
count_job None = refl

-- the write at the end of the way on from job m at place p
abbrev pub end_from : List Place → ℕ → ℕ → ℕ
end_from l p m = write_of (at l (last_place l)) (forward_by l p (last_place l - p) m)

-- the write at the end of the whole way from job j of the first place
abbrev pub end_walk : List Place → ℕ → ℕ
end_walk l j = write_of (at l (last_place l)) (walk l j)

-- the anchors by the first place's jobs: those that end later than the job before does, one hyperperiod of them from W1 on
unfoldable pub canonical : List Place → ℕ → List Anchor
canonical l h = canonical_from (end_walk l) (read_of (at l 0)) (warm_at l 0) (h / (at l 0).period)

module _ (l : List Place) (p : ℕ) where
  starts : ℕ → ℕ
  starts m = read_of (at l 0) (count_back l 0 p (suc m) - 1)

  start_same : (m : ℕ) → start_of l p m ≡ starts m
  unfolding start_of count_back starts
  start_same m = rw (count_job (backward_by l 0 p m))

  end_same : (m : ℕ) → end_of l p m ≡ end_from l p (suc m)
  unfolding end_of
  end_same m = rw (add-one m)

  keeps_same : (m : ℕ) → keeps l p m ≡ differ (starts (suc m)) (starts m)
  unfolding keeps
  keeps_same m = rw (add-one m, start_same (suc m), start_same m)

  anchor_same : (m : ℕ) → anchor_of l p m ≡ anchor (starts m) (end_from l p (suc m) - starts m)
  anchor_same m = rw (start_same m, end_same m)

  -- the anchors as document 01 defines them are those of the law
  anchors_same : (m n : ℕ) → anchors_from l p m n ≡ anchors (count_back l 0 p) (read_of (at l 0)) (end_from l p) m n
  unfolding anchors_from anchors starts
  anchors_same m n =
      ap (λ (k : List ℕ). map (anchor_of l p) (drop_repeats (end_of l p) k)) (keep_select (keeps l p) m n ∙ ap (λ (t : ℕ → Bool). select t m n) (fun_ext keeps_same))
      ∙ ap (λ (e : ℕ → ℕ). map (anchor_of l p) (drop_repeats e (select (λ k. differ (starts (suc k)) (starts k)) m n))) (fun_ext end_same)
      ∙ ap (λ (f : ℕ → Anchor). map f (drop_repeats (λ k. end_from l p (suc k)) (select (λ k. differ (starts (suc k)) (starts k)) m n))) (fun_ext anchor_same)

pub read_same : (a : Place) → 1 ≤ a.period → (i j : ℕ) → read_of a i ≡ read_of a j → i ≡ j
read_same a h i j e = elim (dec_lt i j) [
  | yes l ↦ omega (arith, mul-le-mul_right a.period l)
  | no l ↦ elim (dec_lt j i) [ yes k ↦ omega (arith, mul-le-mul_right a.period k) | no k ↦ omega arith ]
]

pub write_less : (a : Place) → 1 ≤ a.period → (i j : ℕ) → i < j → write_of a i < write_of a j
write_less a h i j l = omega (arith, mul-le-mul_right a.period l)

module _ (l : List Place) (ok : Sound l) (p : ℕ) (h : p < length l) where
  last_in : last_place l < length l
  last_in = omega (arith, ok.some)

  head : Periods l (0 + p)
  head = let e : 0 + p ≡ p = omega arith in rw e (periods l ok p h)

  tail : Periods l (p + (last_place l - p))
  tail = let e : p + (last_place l - p) ≡ last_place l = omega arith in rw e (periods l ok (last_place l) last_in)

  -- the whole way in two parts
  pub walk_parts : (j : ℕ) → walk l j ≡ forward_by l p (last_place l - p) (forward_by l 0 p j)
  walk_parts j =
      let e : last_place l ≡ p + (last_place l - p) = omega arith in
      let z : 0 + p ≡ p = omega arith in
      ap (λ (n : ℕ). forward_by l 0 n j) e ∙ forward_cut l 0 p (last_place l - p) j ∙ ap (λ (n : ℕ). forward_by l n (last_place l - p) (forward_by l 0 p j)) z

  back_parts : (k : ℕ) → back l k ≡ on_latest (backward_by l p (last_place l - p) k) (backward_by l 0 p)
  back_parts k =
      let e : last_place l ≡ p + (last_place l - p) = omega arith in
      let z : 0 + p ≡ p = omega arith in
      ap (λ (n : ℕ). backward_by l 0 n k) e ∙ backward_cut l 0 p (last_place l - p) k ∙ ap (λ (n : ℕ). on_latest (backward_by l n (last_place l - p) k) (backward_by l 0 p)) z

  -- the way back from Wn stands at place p at Wp
  warm_here : backward_by l p (last_place l - p) (warm_last l) ≡ Some (record { 0 = warm_at l p })
  unfolding warm_at
  warm_here = let f = warm_found l ok p h in f.is ∙ rw f.is

  -- and comes from there to W1
  pub warm_way : backward_by l 0 p (warm_at l p) ≡ Some (record { 0 = warm_at l 0 })
  unfolding on_latest
  warm_way = sym (back_parts (warm_last l) ∙ ap (λ (q : Option Job). on_latest q (backward_by l 0 p)) warm_here) ∙ warm_first l ok

  warm_counts : count_back l 0 p (suc (warm_at l p)) ≡ suc (warm_at l 0)
  unfolding count_back
  warm_counts = ap count_of warm_way

  -- past Wp the way on ends past Wn
  late : (m : ℕ) → warm_at l p ≤ m → warm_last l < forward_by l p (last_place l - p) (suc m)
  late m g = elim (dec_lt (warm_last l) (forward_by l p (last_place l - p) (suc m))) [
    | yes k ↦ k
    | no k ↦
        let a : AtLeast (Some (record { 0 = warm_at l p })) (suc m) = rw warm_here at ((galois l p (last_place l - p) tail (suc m) (warm_last l)).0 (omega arith)) in
        absurd (omega arith)
  ]

  -- and the way from W1 ends at Wn or before
  early : forward_by l p (last_place l - p) (forward_by l 0 p (warm_at l 0)) ≤ warm_last l
  early =
      let z : 0 + last_place l ≡ last_place l = omega arith in
      let a : Periods l (0 + last_place l) = rw z (periods l ok (last_place l) last_in) in
      let u : walk l (warm_at l 0) ≤ warm_last l = (galois l 0 (last_place l) a (warm_at l 0) (warm_last l)).1 (rw (warm_first l ok) (omega arith)) in
      omega (arith, walk_parts (warm_at l 0))

  apart : (m : ℕ) → warm_at l p ≤ m → end_from l p (suc m) ≢ end_from l p (forward_by l 0 p (warm_at l 0))
  apart m g e =
      let u = write_less (at l (last_place l)) (ok.each (last_place l) last_in).period_pos (forward_by l p (last_place l - p) (forward_by l 0 p (warm_at l 0))) (forward_by l p (last_place l - p) (suc m)) (omega (arith, early, late m g)) in
      omega arith

  -- a hyperperiod of partitions at p holds H / T1 jobs of the first place
  spanned : count_back l 0 p (suc (warm_at l p + hyper_of l / (at l p).period)) - suc (warm_at l 0) ≡ hyper_of l / (at l 0).period
  unfolding count_back
  spanned =
      let z : 0 + p ≡ p = omega arith in
      let r = backward_repeats l (hyper_of l) 0 p (rw z (hyper_repeats l ok p h)) (warm_at l p) _ warm_way in
      rw (rw z at r) (omega arith)

  -- Whatever the cut, the anchors are the canonical ones.
  pub cut_canonical : anchors_of l p (hyper_of l) ≡ canonical l (hyper_of l)
  unfolding canonical
  cut_canonical =
      anchors_same l p (warm_at l p) (hyper_of l / (at l p).period)
      ∙ anchors_canon (forward_by l 0 p) (count_back l 0 p) (read_of (at l 0)) (end_from l p) (pair l 0 p head) (read_same (at l 0) (ok.each 0 ok.some).period_pos)
      (warm_at l p) (hyper_of l / (at l p).period) (warm_at l 0) warm_counts apart
      ∙ ap (λ (e : ℕ → ℕ). canonical_from e (read_of (at l 0)) (warm_at l 0) (count_back l 0 p (suc (warm_at l p + hyper_of l / (at l p).period)) - suc (warm_at l 0))) (fun_ext same)
      ∙ ap (canonical_from (end_walk l) (read_of (at l 0)) (warm_at l 0)) spanned
    where
      same : (j : ℕ) → end_from l p (forward_by l 0 p j) ≡ end_walk l j
      same j = ap (write_of (at l (last_place l))) (sym (walk_parts j))

-- Whichever two places the chain is cut at, its anchors are the same.
pub cut_free : (l : List Place) → Sound l → (p q : ℕ) → p < length l → q < length l → anchors_of l p (hyper_of l) ≡ anchors_of l q (hyper_of l)
cut_free l ok p q h g = cut_canonical l ok p h ∙ sym (cut_canonical l ok q g)
