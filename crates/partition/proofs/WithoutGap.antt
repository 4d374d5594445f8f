-- Order 5: with a gap of 0 every partition and every anchor is the old one: starts, ends and anchors as document 01 alone has them, on the tasks that are given.
use Rattle.std.specs.Prelude.{ℕ, ◌+◌, ◌-◌, ◌/◌, ◌<◌, ◌≡◌, refl, Bool, not, eqb, length, Option}
use Rattle.std.proofs.Common.{arith, ◌∙◌}
use Rattle.std.proofs.Math.Path.{ap}
use mathlib.Core.List.{List, [], ◌∷◌, map}
use Rattle.task.specs.declared.Job.{Job}
use Rattle.task.specs.declared.Task.{Task}
use Rattle.task.specs.declared.Place.{Place}
use Rattle.task.specs.Jobs.{read_of, write_of}
use Rattle.chain.specs.Chains.{placed, at, last_place, forward_by, backward_by, job_of}
use Rattle.chain.specs.Placed.{at_placed}
use Rattle.chain.specs.WithoutGap.{task_at, read_plain, write_plain, forward_way, backward_way, forward_without, backward_without}
use Rattle.timing.specs.WithoutGap.{last, warm_plain, warm_without, last_same, last_place_holds}
use Rattle.table.specs.Anchors.{Anchor, anchor}
use Rattle.partition.specs.Lists.{range_from, put, keep, fresh, drop_repeats}
use Rattle.partition.specs.Partitions.{start_of, end_of, keeps, anchor_of, anchors_from, anchors_of}

-- ---- as document 01 has them

abbrev pub start_plain : List Task → ℕ → ℕ → ℕ
start_plain l p m = read_plain (task_at l 0) (job_of (backward_way l 0 p m))

abbrev pub end_plain : List Task → ℕ → ℕ → ℕ
end_plain l p m = write_plain (task_at l (last l)) (forward_way l p (last l - p) (m + 1))

abbrev pub keeps_plain : List Task → ℕ → ℕ → Bool
keeps_plain l p m = not (eqb (start_plain l p (m + 1)) (start_plain l p m))

abbrev pub anchor_plain : List Task → ℕ → ℕ → Anchor
anchor_plain l p m = anchor (start_plain l p m) (end_plain l p m - start_plain l p m)

-- The anchors of the chain cut at p, h being its hyperperiod.
abbrev pub anchors_plain : List Task → ℕ → ℕ → List Anchor
anchors_plain l p h = map (anchor_plain l p) (drop_repeats (end_plain l p) (keep (keeps_plain l p) (range_from (warm_plain l p) (h / (task_at l p).period))))

-- ---- they are those of gap 0

keep_same : (f g : ℕ → Bool) → ((m : ℕ) → f m ≡ g m) → (l : List ℕ) → keep f l ≡ keep g l
unfolding keep
keep_same f g e [] = refl
keep_same f g e (m ∷ l) = rw (e m, keep_same f g e l)

fresh_same : (f g : ℕ → ℕ) → ((m : ℕ) → f m ≡ g m) → (b : ℕ) (l : List ℕ) → fresh f b l ≡ fresh g b l
unfolding fresh
fresh_same f g e b [] = refl
fresh_same f g e b (m ∷ l) = rw (e m, fresh_same f g e (g m) l)

drop_same : (f g : ℕ → ℕ) → ((m : ℕ) → f m ≡ g m) → (l : List ℕ) → drop_repeats f l ≡ drop_repeats g l
unfolding drop_repeats
drop_same f g e [] = refl
drop_same f g e (m ∷ l) = rw (e m, fresh_same f g e (g m) l)

map_same : (f g : ℕ → Anchor) → ((m : ℕ) → f m ≡ g m) → (l : List ℕ) → map f l ≡ map g l
map_same f g e [] = refl
map_same f g e (m ∷ l) = rw (e m, map_same f g e l)

module _ (l : List Task) (p : ℕ) (inside : p < length l) where
  abbrev L : List Place
  L = placed 0 l

  pub start_without : (m : ℕ) → start_of L p m ≡ start_plain l p m
  unfolding start_of
  start_without m =
      ap (λ (a : Place). read_of a (job_of (backward_by L 0 p m))) (at_placed 0 l 0 (omega arith)) ∙ ap (λ (q : Option Job). read_plain (task_at l 0) (job_of q)) (backward_without l 0 p m (omega arith))

  pub end_without : (m : ℕ) → end_of L p m ≡ end_plain l p m
  unfolding end_of
  end_without m =
      ap (λ (a : Place). write_of a (forward_by L p (last_place L - p) (m + 1))) (last_place_holds l (omega arith))
      ∙ ap (λ (n : ℕ). write_plain (task_at l (last l)) (forward_by L p (n - p) (m + 1))) (last_same l (omega arith))
      ∙ ap (write_plain (task_at l (last l))) (forward_without l p (last l - p) (m + 1) (omega arith))

  pub anchors_without : (h : ℕ) → anchors_of L p h ≡ anchors_plain l p h
  unfolding anchors_from keeps
  anchors_without h =
      ap (λ (m : ℕ). anchors_from L p m (h / (at L p).period)) (warm_without l (omega arith) p inside)
      ∙ ap (λ (a : Place). anchors_from L p (warm_plain l p) (h / a.period)) (at_placed 0 l p inside)
      ∙ ap (λ (x : List ℕ). map (anchor_of L p) (drop_repeats (end_of L p) x)) (keep_same (keeps L p) (keeps_plain l p) (λ m. rw (start_without (m + 1), start_without m)) (range_from (warm_plain l p) (h / (task_at l p).period)))
      ∙ ap (map (anchor_of L p)) (drop_same (end_of L p) (end_plain l p) end_without (keep (keeps_plain l p) (range_from (warm_plain l p) (h / (task_at l p).period))))
      ∙ map_same (anchor_of L p) (anchor_plain l p) (λ m. rw (start_without m, end_without m)) (drop_repeats (end_plain l p) (keep (keeps_plain l p) (range_from (warm_plain l p) (h / (task_at l p).period))))
