-- How long a list must be: it holds every delay, and the rest is 0, exactly if the greatest latency lies below n × width. So greatest latency / width + 1 entries suffice, and a width
-- above the greatest latency has all ticks in entry 0.
use Rattle.std.specs.Prelude.{◌≡◌, ℕ, zero, suc, ◌+◌, ◌*◌, ◌/◌, ◌<◌, ◌≤◌, ◌↔◌, List, nat_le, refl}
use Rattle.std.proofs.Common.{arith, div-add-mod', mod-lt, le-leb}
use Rattle.std.proofs.Math.Decide.{dec_lt}
use Rattle.std.proofs.lemmas.Bool.{lt-leb}
use Rattle.ranges.specs.Entries.{entries, sum}
use Rattle.table.specs.Anchors.{Anchor, first_start}
use Rattle.table.specs.Reading.{delay_at}
use Rattle.table.specs.Figures.{greatest}
use Rattle.table.specs.Segments.{Formed}
use Rattle.table.specs.GreatestDelay.{greatest_delay}
use Rattle.figures.specs.Ticks.{total}
use Rattle.histogram.specs.Histogram.{entry_of, rest_of}
use Rattle.histogram.proofs.Counting.{count_at_least, come_to_H}
use Rattle.histogram.proofs.EveryHyperperiod.{count_anywhere}

none_from : (x : ℕ) (f : ℕ → ℕ) (n s : ℕ) → ((t : ℕ) → s ≤ t → f t < x) → count_at_least x f s n ≡ 0
unfolding total
none_from x f zero s h = refl
none_from x f (suc n) s h = rw (lt-leb x (f s) (h s (omega arith))) (omega (arith, none_from x f n (suc s) (λ t l. h t (omega arith))))

some_from : (x : ℕ) (f : ℕ → ℕ) (n s : ℕ) → 0 < n → x ≤ f s → 1 ≤ count_at_least x f s n
unfolding total
some_from x f zero s p h = absurd (omega arith)
some_from x f (suc n) s p h = rw (le-leb x (f s) h) (omega arith)

module _ (width H : ℕ) (l : List Anchor) (f : Formed H l) where
  pub all_listed : (n : ℕ) → (rest_of width H l n ≡ 0) ↔ (greatest l < n * width)
  all_listed n = (listed, λ h. none_from (n * width) (delay_at H l) H (first_start l) (λ t k. omega (arith, (greatest_delay H l f).bound t k)))
    where
      listed : rest_of width H l n ≡ 0 → greatest l < n * width
      listed e = elim (dec_lt (greatest l) (n * width)) [
        | yes h ↦ h
        | no h ↦
            let g = greatest_delay H l f in
            let c = count_anywhere H l f (delay_at H l) (λ t k. refl) g.at g.late (nat_le (n * width)) in
            absurd (omega (arith, c, some_from (n * width) (delay_at H l) H g.at f.some (omega (arith, g.meets))))
      ]

  -- so many entries suffice
  pub long_enough : 1 ≤ width → rest_of width H l (greatest l / width + 1) ≡ 0
  long_enough some = (all_listed (greatest l / width + 1)).1 (omega (arith, div-add-mod' (greatest l) width, mod-lt (greatest l) some))

  -- a width above every delay
  pub one_entry : greatest l < width → entry_of width H l 0 ≡ H
  unfolding entries sum
  one_entry h =
      let r : rest_of width H l 1 ≡ 0 = (all_listed 1).1 (omega arith) in
      omega (arith, come_to_H width H l 1)
