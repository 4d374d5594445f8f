-- A chain on a finer clock: each place's period, duration, phase and gap is n times as many ticks of a clock that is n times finer. A walk there takes
-- the same jobs, so within each tick the delay falls by one (`delay_falls`): the press comes later, the last write stays.
use Prim.Native.Nat.{ℕ, zero, suc, ◌+◌, ◌-◌, ◌*◌, ◌≤◌, ◌<◌}
use Rattle.std.proofs.Common.{mul-zero, mul-le-mul_left, arith, ap, ◌∙◌}
use Rattle.std.proofs.Math.Nat.{mul-sub, le_of_mul-le-mul_left}
use Rattle.std.proofs.Math.Decide.{dec_le}
use Rattle.std.specs.Prelude.{◌≡◌, List, map, get_or}
use Rattle.std.proofs.Math.Path.{refl}
use Rattle.std.proofs.lemmas.List.{length-map}
use Rattle.std.proofs.Math.ListN.{get_or-map}
use Rattle.task.specs.declared.Place.{Place}
use Rattle.task.specs.Jobs.{read_of, write_of, readable_of}
use Rattle.task.specs.Links.{earliest_after, forward_link}
use Rattle.task.proofs.LinkLaws.{after_less, link_forward}
use Rattle.chain.specs.Chains.{zero_place, at, last_place, forward_by, walk}
use Rattle.chain.specs.Checks.{Sound}
use Rattle.timing.specs.Delay.{delay_at}
use Rattle.timing.specs.WarmRanges.{walk_late, press_late}

abbrev pub finer_place : ℕ → Place → Place
finer_place n a = record { period = n * a.period; duration = n * a.duration; phase = n * a.phase; gap = n * a.gap }

abbrev pub finer_chain : ℕ → List Place → List Place
finer_chain n l = map (finer_place n) l

-- The delay of the walk, as a figure of time: n times the delay of a press at u / n ticks.
abbrev pub delay_timed : List Place → ℕ → ℕ → ℕ
delay_timed l n u = delay_at (finer_chain n l) u

at_finer : (n : ℕ) (l : List Place) (p : ℕ) → at (finer_chain n l) p ≡ finer_place n (at l p)
at_finer n l p =
    let z : zero_place ≡ finer_place n zero_place = rw mul-zero in
    ap (λ (a : Place). get_or (finer_chain n l) p a) z ∙ get_or-map (finer_place n) l p zero_place

module _ (n : ℕ) (pos : 1 ≤ n) where
  period_finer : (a : Place) → 1 ≤ a.period → 1 ≤ (finer_place n a).period
  period_finer a h = omega (arith, mul-le-mul_left n h)

  -- a link goes to the same job
  forward_finer : (a b : Place) → 1 ≤ b.period → (j : ℕ) → forward_link (finer_place n a) (finer_place n b) j ≡ forward_link a b j
  forward_finer a b h j =
      let k : ℕ = forward_link a b j in
      let m : ℕ = forward_link (finer_place n a) (finer_place n b) j in
      let finer = link_forward (finer_place n a) (finer_place n b) (period_finer b h) j in
      let down : m ≤ k = (finer k).1 (omega (arith, mul-le-mul_left n ((link_forward a b h j k).0 (omega arith)))) in
      let linked : n * readable_of a j ≤ n * read_of b m = omega (arith, (finer m).0 (omega arith)) in
      omega (arith, down, (link_forward a b h j m).1 (le_of_mul-le-mul_left linked pos))

  walk_finer : (l : List Place) (p m j : ℕ) → ((i : ℕ) → i ≤ p + m → 1 ≤ (at l i).period) → forward_by (finer_chain n l) p m j ≡ forward_by l p m j
  unfolding forward_by
  walk_finer l p zero j h = refl
  walk_finer l p (suc m) j h =
      rw (at_finer n l (p + m), at_finer n l (p + suc m), walk_finer l p m j (λ i k. h i (omega arith)))
      (forward_finer (at l (p + m)) (at l (p + suc m)) (h (p + suc m) (omega arith)) (forward_by l p m j))

  -- a press within tick t is read by the same job
  press_finer : (b : Place) → 1 ≤ b.period → (t i : ℕ) → i < n → earliest_after (finer_place n b) (n * t + i) ≡ earliest_after b t
  press_finer b h t i part =
      let finer = after_less (finer_place n b) (period_finer b h) (n * t + i) in
      let coarse = after_less b h t in
      let x : ℕ = earliest_after (finer_place n b) (n * t + i) in
      let y : ℕ = earliest_after b t in
      omega (arith, below x y (λ j l. (coarse j).1 (whole j ((finer j).0 l))), below y x (λ j l. (finer j).1 (omega (arith, mul-le-mul_left n ((coarse j).0 l)))))
    where
      below : (x y : ℕ) → ((j : ℕ) → j < x → j < y) → x ≤ y
      below x y s = elim (dec_le x y) [ yes k ↦ k | no k ↦ omega (arith, s y (omega arith)) ]

      whole : (j : ℕ) → read_of (finer_place n b) j ≤ n * t + i → read_of b j ≤ t
      whole j l = elim (dec_le (read_of b j) t) [ yes k ↦ k | no k ↦ omega (arith, mul-le-mul_left {m = t + 1} {n = read_of b j} n (omega arith)) ]

-- Within each tick the delay falls by one: i n-ths of a tick later it is i n-ths less.
pub delay_falls : (l : List Place) → Sound l → (n t i : ℕ) → i < n → delay_timed l n (n * t + i) + i ≡ n * delay_at l t
unfolding delay_at
delay_falls l ok n t i part =
    let pos : 1 ≤ n = omega arith in
    let some : (p : ℕ) → p ≤ 0 + last_place l → 1 ≤ (at l p).period = λ p h. (ok.each p (omega (arith, ok.some))).period_pos in
    let q : last_place (finer_chain n l) ≡ last_place l = ap (λ (x : ℕ). x - 1) (length-map l (finer_place n)) in
    let j : ℕ = earliest_after (at l 0) t in
    let w : ℕ = write_of (at l (last_place l)) (walk l j) in
    rw (q, at_finer n l 0, at_finer n l (last_place l), press_finer n pos (at l 0) (some 0 (omega arith)) t i part, walk_finer n pos l 0 (last_place l) j some)
    (omega (arith, mul-sub n w t, mul-le-mul_left {m = t + 1} {n = w} n (omega (arith, walk_late l ok j, press_late l ok t))))
