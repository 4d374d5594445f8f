-- Order 5: with a gap of 0 every answer is the old one. Warm-up, delay and age as document 01 alone has them, on the tasks that are given; with gap 0 the calls answer these
-- (`warm_up_without`, `delay_answer_without`, `age_answer_without`). The same of anchors, windows and bookings: WithoutGap in partition, windows and bookings.
use Rattle.std.specs.Prelude.{ℕ, zero, suc, ◌+◌, ◌-◌, ◌≤◌, ◌<◌, ◌≡◌, Bool, cond, List, ltb, length, Err, None, Ok, Option, Result, Some}
use Rattle.std.proofs.Common.{arith, sym, ◌∙◌, lt-ltb, le-ltb}
use Rattle.std.proofs.Math.Decide.{dec_lt}
use Rattle.std.proofs.Math.Path.{refl, ap}
use Rattle.std.proofs.lemmas.List.{length-map}
use Rattle.refusal.specs.declared.Refusal.{Refusal}
use Rattle.task.specs.declared.Task.{Task}
use Rattle.task.specs.declared.Place.{Place}
use Rattle.task.specs.declared.Job.{Job}
use Rattle.task.specs.Jobs.{place_of, read_of, write_of}
use Rattle.task.specs.Links.{earliest_from, earliest_after, latest_over, latest_by}
use Rattle.chain.specs.Chains.{placed, at, last_place, forward_by, backward_by, on_latest, walk, back, job_of}
use Rattle.chain.specs.Placed.{at_placed}
use Rattle.ranges.specs.Entries.{entries, entries_length, entries_at, entries_are}
use Rattle.chain.specs.Checks.{verdict_in}
use Rattle.chain.specs.WithoutGap.{task_at, read_plain, write_plain, earliest_plain, latest_plain, forward_way, backward_way, verdict_plain, forward_without, backward_without, verdict_without}
use Rattle.chain.proofs.CheckLaws.{accepted_in}
use Rattle.ranges.specs.Least.{least_from}
use Rattle.timing.specs.declared.WarmUp.{WarmUp}
use Rattle.timing.specs.WarmUp.{is_job, reaches, warm_last, warm_at, warm_tick}
use Rattle.timing.specs.Delay.{delay_at, first_aged, age_at}
use Rattle.timing.specs.Answers.{warm_entry, warm_up_after, warm_up_in, span_after, delay_in, age_in}

-- ---- as document 01 has them

abbrev pub last : List Task → ℕ
last l = length l - 1

-- Wn, W1 to Wn and x0.
abbrev pub warm_last_plain : List Task → ℕ
warm_last_plain l = least_from (λ k. is_job (backward_way l 0 (last l) k)) 0 (forward_way l 0 (last l) 0)

abbrev pub warm_plain : List Task → ℕ → ℕ
warm_plain l p = job_of (backward_way l p (last l - p) (warm_last_plain l))

abbrev pub warm_tick_plain : List Task → ℕ
warm_tick_plain l = read_plain (task_at l 0) (warm_plain l 0)

-- The first place's earliest job that reads strictly after t, forward; the last write less t.
abbrev pub delay_plain : List Task → ℕ → ℕ
delay_plain l t = write_plain (task_at l (last l)) (forward_way l 0 (last l) (earliest_plain (task_at l 0) (t + 1))) - t

-- A tick has an age from the write of Wn on: the last place's latest job writing at or before z, backward; z less the first read.
abbrev pub first_aged_plain : List Task → ℕ
first_aged_plain l = write_plain (task_at l (last l)) (warm_last_plain l)

abbrev pub age_plain : List Task → ℕ → ℕ
age_plain l z = z - read_plain (task_at l 0) (job_of (on_latest (latest_plain (task_at l (last l)) z) (backward_way l 0 (last l))))

-- Warm-up answers W1 to Wn, with 0 past the places, x0 and H, or a refusal alone.
abbrev job : ℕ → Job
job n = record { 0 = n }

abbrev pub warm_entry_plain : List Task → ℕ → Job
warm_entry_plain l p = cond (ltb p (length l)) (job (warm_plain l p)) (job 0)

abbrev pub warm_up_plain : List Task → Result ℕ Refusal → Result WarmUp Refusal
warm_up_plain l (Ok h) = Ok (record { jobs = entries (warm_entry_plain l) 0 12; tick = record { 0 = warm_tick_plain l }; hyperperiod = h })
warm_up_plain l (Err r) = Err r

-- ---- they are those of gap 0

least_same : (f g : ℕ → Bool) → ((k : ℕ) → f k ≡ g k) → (s n : ℕ) → least_from f s n ≡ least_from g s n
unfolding least_from
least_same f g h s zero = refl
least_same f g h s (suc n) = rw (h s, least_same f g h (suc s) n)

module _ (l : List Task) (some : 1 ≤ length l) where
  abbrev L : List Place
  L = placed 0 l

  pub last_same : last_place L ≡ last l
  last_same = ap (λ (n : ℕ). n - 1) (length-map l (place_of 0))

  pub last_place_holds : at L (last_place L) ≡ place_of 0 (task_at l (last l))
  last_place_holds = ap (at L) last_same ∙ at_placed 0 l (last l) (omega arith)

  pub walk_without : (j : ℕ) → walk L j ≡ forward_way l 0 (last l) j
  walk_without j = ap (λ (n : ℕ). forward_by L 0 n j) last_same ∙ forward_without l 0 (last l) j (omega arith)

  pub back_without : (k : ℕ) → back L k ≡ backward_way l 0 (last l) k
  back_without k = ap (λ (n : ℕ). backward_by L 0 n k) last_same ∙ backward_without l 0 (last l) k (omega arith)

  pub warm_last_without : warm_last L ≡ warm_last_plain l
  unfolding warm_last
  warm_last_without =
      least_same (reaches L) (λ k. is_job (backward_way l 0 (last l) k)) (λ k. ap is_job (back_without k)) 0 (walk L 0) ∙ ap (least_from (λ k. is_job (backward_way l 0 (last l) k)) 0) (walk_without 0)

  pub warm_without : (p : ℕ) → p < length l → warm_at L p ≡ warm_plain l p
  unfolding warm_at
  warm_without p h =
      ap (λ (n : ℕ). job_of (backward_by L p (n - p) (warm_last L))) last_same ∙ ap (λ (k : ℕ). job_of (backward_by L p (last l - p) k)) warm_last_without
      ∙ ap job_of (backward_without l p (last l - p) (warm_last_plain l) (omega arith))

  pub delay_without : (t : ℕ) → delay_at L t ≡ delay_plain l t
  unfolding delay_at earliest_from
  delay_without t =
      ap (λ (a : Place). write_of (at L (last_place L)) (walk L (earliest_after a t)) - t) (at_placed 0 l 0 some)
      ∙ ap (λ (k : ℕ). write_of (at L (last_place L)) k - t) (walk_without (earliest_after (place_of 0 (task_at l 0)) t))
      ∙ ap (λ (a : Place). write_of a (forward_way l 0 (last l) (earliest_after (place_of 0 (task_at l 0)) t)) - t) last_place_holds

  pub age_without : (z : ℕ) → age_at L z ≡ age_plain l z
  unfolding age_at latest_over on_latest
  age_without z =
      ap (λ (a : Place). z - read_of a (job_of (on_latest (latest_by (at L (last_place L)) z) (back L)))) (at_placed 0 l 0 some)
      ∙ ap (λ (a : Place). z - read_plain (task_at l 0) (job_of (on_latest (latest_by a z) (back L)))) last_place_holds
      ∙ ap (λ (q : Option Job). z - read_plain (task_at l 0) (job_of q)) (go (latest_plain (task_at l (last l)) z))
    where
      go : (q : Option Job) → on_latest q (back L) ≡ on_latest q (backward_way l 0 (last l))
      go None = refl
      go (Some k) = back_without k.0

  pub tick_without : warm_tick L ≡ warm_tick_plain l
  unfolding warm_tick
  tick_without = ap (λ (a : Place). read_of a (warm_at L 0)) (at_placed 0 l 0 some) ∙ ap (read_plain (task_at l 0)) (warm_without 0 some)

  pub first_aged_without : first_aged L ≡ first_aged_plain l
  unfolding first_aged
  first_aged_without = ap (λ (a : Place). write_of a (warm_last L)) last_place_holds ∙ ap (write_plain (task_at l (last l))) warm_last_without

  entries_without : entries (warm_entry L) 0 12 ≡ entries (warm_entry_plain l) 0 12
  entries_without =
      entries_are (warm_entry L) (job 0) (entries (warm_entry_plain l) 0 12) 12 (entries_length (warm_entry_plain l) 0 12) (λ i h. entry i ∙ sym (entries_at (warm_entry_plain l) (job 0) 12 i h))
    where
      entry : (i : ℕ) → warm_entry L i ≡ warm_entry_plain l i
      entry i = elim (dec_lt i (length l)) [
        | yes h ↦ rw (length-map l (place_of 0), lt-ltb i (length l) h) (ap job (warm_without i h))
        | no h ↦ rw (length-map l (place_of 0), le-ltb i (length l) (omega arith))
      ]

-- ---- and so are the answers

-- an accepted list has a place
accepted_some : (l : List Task) (h : ℕ) → verdict_in 0 l ≡ Ok h → 1 ≤ length l
accepted_some l h e = omega (arith, (accepted_in 0 l h e).sound.some, length-map l (place_of 0))

module _ (l : List Task) where
  pub warm_up_without : warm_up_in 0 l ≡ warm_up_plain l (verdict_plain (length l) l)
  unfolding warm_up_after
  warm_up_without = go (verdict_in 0 l) refl ∙ ap (warm_up_plain l) (verdict_without l (length l))
    where
      go : (v : Result ℕ Refusal) → verdict_in 0 l ≡ v → warm_up_after (placed 0 l) v ≡ warm_up_plain l v
      go (Err r) e = refl
      go (Ok h) e = let some = accepted_some l h e in rw (tick_without l some, entries_without l some)

  pub delay_answer_without : (t : ℕ) → delay_in 0 l t ≡ span_after (verdict_plain (length l) l) (warm_tick_plain l) t (delay_plain l t)
  unfolding span_after
  delay_answer_without t = go (verdict_in 0 l) refl ∙ ap (λ (v : Result ℕ Refusal). span_after v (warm_tick_plain l) t (delay_plain l t)) (verdict_without l (length l))
    where
      go : (v : Result ℕ Refusal) → verdict_in 0 l ≡ v → span_after v (warm_tick (placed 0 l)) t (delay_at (placed 0 l) t) ≡ span_after v (warm_tick_plain l) t (delay_plain l t)
      go (Err r) e = refl
      go (Ok h) e = let some = accepted_some l h e in rw (tick_without l some, delay_without l some t)

  pub age_answer_without : (z : ℕ) → age_in 0 l z ≡ span_after (verdict_plain (length l) l) (first_aged_plain l) z (age_plain l z)
  unfolding span_after
  age_answer_without z = go (verdict_in 0 l) refl ∙ ap (λ (v : Result ℕ Refusal). span_after v (first_aged_plain l) z (age_plain l z)) (verdict_without l (length l))
    where
      go : (v : Result ℕ Refusal) → verdict_in 0 l ≡ v → span_after v (first_aged (placed 0 l)) z (age_at (placed 0 l) z) ≡ span_after v (first_aged_plain l) z (age_plain l z)
      go (Err r) e = refl
      go (Ok h) e = let some = accepted_some l h e in rw (first_aged_without l some, age_without l some z)
