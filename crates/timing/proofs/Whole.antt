-- The whole ways along a list of tasks that passes 8 and 5, with its first and last task and its last place as the code has them.
use Prim.Native.Nat.{ℕ, ◌+◌, ◌-◌, ◌/◌, ◌≤◌, ◌<◌}
use native.Mathlib.Omega.{arith}
use mathlib.Core.Path.{◌≡◌, refl, sym, ap, ◌∙◌}
use mathlib.Core.List.{List}
use lib.ListN.{length}
use Rattle.task.specs.declared.Place.{Place}
use Rattle.task.specs.Jobs.{read_of, write_of}
use Rattle.task.specs.Links.{backward_link, earliest_after, latest_by}
use Rattle.chain.specs.Chains.{at, last_place, forward_by, backward_by, on_latest, walk, back, job_of}
use Rattle.chain.specs.Checks.{Sound}
use Rattle.chain.specs.Flat.{tasks_in, in_count}
use Rattle.timing.specs.WarmUp.{warm_last, warm_at, warm_tick}
use Rattle.timing.specs.Delay.{delay_at, first_aged, age_at}
use Rattle.timing.specs.WarmLaws.{Found, found, at_least_job, warm_walk, warm_first, warm_step, back_there, aged}
use Rattle.timing.specs.WarmRanges.{walk_fits, walk_late, back_early, aged_range, warm_range, press_fits, press_late, latest_fits}

-- the last place of a flat list, as the code counts it
module _ (g : ℕ) (list : List ℕ) (ok : Sound (tasks_in g list)) where
  pub some_place : 1 ≤ length list / 3
  some_place = omega (arith, in_count g list, ok.some)

  pub last_inside : length list / 3 - 1 < length (tasks_in g list)
  last_inside = omega (arith, in_count g list, ok.some)

  pub last_place_small : length list / 3 - 1 < 12
  last_place_small = omega (arith, last_inside, ok.few)

-- n is the last place
module _ (l : List Place) (n : ℕ) (end : n ≡ last_place l) where
  steps : n - 0 ≡ last_place l
  steps = omega (arith, end)

  pub walk_is : (j : ℕ) → forward_by l 0 (n - 0) j ≡ walk l j
  walk_is j = ap (λ (k : ℕ). forward_by l 0 k j) steps

  pub back_is : (m : ℕ) → backward_by l 0 (n - 0) m ≡ back l m
  back_is m = ap (λ (k : ℕ). backward_by l 0 k m) steps

  -- b is the task there
  module _ (b : Place) (last : b ≡ at l n) where
    pub last_is : b ≡ at l (last_place l)
    last_is = last ∙ ap (at l) end

    -- the write at which the whole way from a job ends
    pub walk_end : (j m : ℕ) → m ≡ forward_by l 0 (n - 0) j → write_of b m ≡ write_of (at l (last_place l)) (walk l j)
    walk_end j m e = rw last_is (ap (write_of (at l (last_place l))) (e ∙ walk_is j))

module _ (l : List Place) (ok : Sound l) where
  -- ---- warm-up

  pub start_fits : write_of (at l 0) 0 ≤ 1500000000000
  start_fits = let w = ok.each 0 ok.some in omega (arith, w.phase_max, w.duration_max)

  -- one link back from a warm-up job is the warm-up job at the place before
  module _ (i m : ℕ) (b : Place) (inside : i < length l) (here : b ≡ at l i) (warm : m ≡ warm_at l i) where
    pub warm_fits : read_of b m ≤ 2000000000000
    warm_fits = rw (here, warm) (omega (arith, warm_range l ok i inside))

    pub warm_back : 0 < i → (a : Place) → a ≡ at l (i - 1) → job_of (backward_link a b m) ≡ warm_at l (i - 1)
    warm_back g a before =
        let z : i - 1 + 1 ≡ i = omega arith in
        let f = warm_step l ok (i - 1) (omega arith) in
        rw (before, here, warm) (sym (rw z at f))

  module _ (a : Place) (first : a ≡ at l 0) (j : ℕ) (warm : j ≡ warm_at l 0) where
    pub warm_tick_is : read_of a j ≡ warm_tick l
    unfolding warm_tick
    warm_tick_is = rw (first, warm)

    pub warm_tick_fits : read_of a j ≤ 2000000000000
    warm_tick_fits = warm_fits 0 j a ok.some first warm

  module _ (n : ℕ) (end : n ≡ last_place l) where
    pub warm_last_is : (j : ℕ) → j ≡ forward_by l 0 (n - 0) 0 → j ≡ warm_last l
    warm_last_is j e = e ∙ walk_is l n end 0 ∙ sym (warm_walk l ok)

    module _ (j : ℕ) (warm : j ≡ warm_last l) where
      -- Wn is the warm-up job at the last place
      pub warm_last_at : j ≡ warm_at l n
      unfolding warm_at backward_by
      warm_last_at =
          let z : last_place l - n ≡ 0 = omega (arith, end) in
          rw (z, warm)

      -- W1, found backward from Wn
      pub warm_first_is : job_of (backward_by l 0 (n - 0) j) ≡ warm_at l 0
      warm_first_is = ap job_of (back_is l n end j ∙ ap (back l) warm ∙ warm_first l ok)

      pub first_aged_is : (b : Place) → b ≡ at l n → write_of b j ≡ first_aged l
      unfolding first_aged
      first_aged_is b last = rw (last_is l n end b last, warm)

      pub first_aged_fits : (b : Place) → b ≡ at l n → write_of b j ≤ 2000000000000
      first_aged_fits b last = omega (arith, first_aged_is b last, aged_range l ok)

      pub warm_last_fits : read_of (at l n) j ≤ 1500000000000
      warm_last_fits = omega (arith, first_aged_is (at l n) refl, aged_range l ok)

  -- ---- delay

  module _ (t : ℕ) (top : t ≤ 1000000000000) (a : Place) (first : a ≡ at l 0) (j : ℕ) (earliest : j ≡ earliest_after a t) where
    is_press : j ≡ earliest_after (at l 0) t
    is_press = earliest ∙ ap (λ (x : Place). earliest_after x t) first

    pub press_small : write_of (at l 0) j ≤ 1500000000000
    press_small = omega (arith, ap (write_of (at l 0)) is_press, press_fits l ok t)

    module _ (n : ℕ) (end : n ≡ last_place l) (b : Place) (last : b ≡ at l n) (m : ℕ) (way : m ≡ forward_by l 0 (n - 0) j) where
      ended : write_of b m ≡ write_of (at l (last_place l)) (walk l j)
      ended = walk_end l n end b last j m way

      pub end_small : write_of b m ≤ 2000000000000
      end_small = omega (arith, ended, walk_fits l ok j, press_small)

      pub end_after : (e : ℕ) → e ≡ write_of b m → t ≤ e
      end_after e h = omega (arith, h, ended, walk_late l ok j, ap (write_of (at l 0)) is_press, press_late l ok t)

      pub delay_is : (e : ℕ) → e ≡ write_of b m → e - t ≡ delay_at l t
      unfolding delay_at
      delay_is e h = ap (λ (x : ℕ). x - t) (h ∙ ended ∙ ap (λ (x : ℕ). write_of (at l (last_place l)) (walk l x)) is_press)

  -- ---- age

  module _ (z : ℕ) (from : first_aged l ≤ z) (n : ℕ) (end : n ≡ last_place l) (b : Place) (last : b ≡ at l n) (m : ℕ) (latest : m ≡ job_of (latest_by b z)) where
    there : Found (latest_by (at l (last_place l)) z)
    there = found (latest_by (at l (last_place l)) z) (warm_last l) (aged l ok z from)

    is_latest : m ≡ there.job.0
    is_latest = latest ∙ ap (λ (x : Place). job_of (latest_by x z)) (last_is l n end b last) ∙ ap job_of there.is

    after_warm : warm_last l ≤ m
    after_warm = omega (arith, at_least_job (latest_by (at l (last_place l)) z) (warm_last l) (aged l ok z from), ap job_of there.is, is_latest)

    written : write_of (at l (last_place l)) m ≤ z
    written = rw is_latest (latest_fits l ok z there.job there.is)

    pub latest_small : z ≤ 1000000000000 → read_of (at l n) m ≤ 1500000000000
    latest_small top = rw end (omega (arith, written))

    module _ (j : ℕ) (way : j ≡ job_of (backward_by l 0 (n - 0) m)) (a : Place) (first : a ≡ at l 0) where
      start : Found (back l m)
      start = back_there l ok m after_warm

      is_start : j ≡ start.job.0
      is_start = way ∙ ap job_of (back_is l n end m ∙ start.is)

      pub start_early : read_of a j ≤ z
      start_early = rw (first, is_start) (omega (arith, back_early l ok m start.job start.is, written))

      pub age_is : (e : ℕ) → e ≡ read_of a j → z - e ≡ age_at l z
      unfolding age_at on_latest
      age_is e h =
          let s : job_of (on_latest (latest_by (at l (last_place l)) z) (back l)) ≡ start.job.0
          = ap (λ q. job_of (on_latest q (back l))) there.is ∙ ap (λ (x : ℕ). job_of (back l x)) (sym is_latest) ∙ ap job_of start.is in
          ap (λ (x : ℕ). z - x) (h ∙ ap (λ (x : Place). read_of x j) first ∙ ap (read_of (at l 0)) (is_start ∙ sym s))
