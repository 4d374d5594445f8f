-- The sums of the differences that the anchors of a table leave are its entries, whatever the width; a width above every delay may stand for any greater one.
use Rattle.std.specs.Prelude.{◌≡◌, ℕ, zero, suc, ◌+◌, ◌*◌, ◌%◌, ◌<◌, ◌≤◌, min, leb, List, take, replicate, nat_le, refl}
use Rattle.std.proofs.Common.{arith, suc-mul, sym, ap, ◌∙◌}
use Rattle.std.proofs.Math.Nat.{min-eq_left}
use Rattle.std.proofs.Math.Decide.{dec_le}
use Rattle.std.proofs.lemmas.List.{length-replicate}
use Rattle.std.proofs.lemmas.Bool.{lt-leb}
use Rattle.ranges.specs.Entries.{sum}
use Rattle.table.specs.Anchors.{Anchor, first_start}
use Rattle.table.specs.WellFormed.{latency_limit}
use Rattle.table.specs.Reading.{delay_at}
use Rattle.table.specs.Figures.{greatest}
use Rattle.table.specs.Segments.{Spaced, Formed}
use Rattle.table.specs.GreatestDelay.{greatest_delay}
use Rattle.figures.specs.ByAnchors.{segments}
use Rattle.histogram.specs.Histogram.{entry_of}
use Rattle.histogram.proofs.Counting.{count_at_least, count_most, count_same, add_at_least, from_anchors, entry_difference}
use Rattle.histogram.specs.Differences.{modulus, up_to}
use Rattle.histogram.proofs.Differences.{front_anchors}
use Rattle.histogram.specs.Entries.{widest, differences}

no_sum : (k n : ℕ) → sum (take k (replicate n 0)) ≡ 0
unfolding sum
no_sum zero n = refl
no_sum (suc k) zero = refl
no_sum (suc k) (suc n) = omega (arith, no_sum k n)

-- a delay is from i × width on exactly if it is from i × `widest` on, where that is the smaller
same_test : (width i delay : ℕ) → delay < widest → nat_le (i * min width widest) delay ≡ nat_le (i * width) delay
same_test width i delay h = elim (dec_le width widest) [
  | yes k ↦ rw (min-eq_left k)
  | no k ↦ let e : min width widest ≡ widest = omega arith in rw e (wide (omega arith) i)
]
  where
    wide : widest ≤ width → (i : ℕ) → nat_le (i * widest) delay ≡ nat_le (i * width) delay
    wide k zero = ap (λ (x : ℕ). leb x delay) {x = zero * widest} {y = zero * width} (omega arith)
    wide k (suc i) = rw (lt-leb (suc i * widest) delay (omega arith), lt-leb (suc i * width) delay (omega (arith, suc-mul i width)))

module _ (width H : ℕ) (l : List Anchor) (some : 1 ≤ width) (f : Formed H l) (small : greatest l ≤ latency_limit) (fits : H < modulus) where
  counted : (i : ℕ) → segments (add_at_least (i * min width widest)) (first_start l + H) l 0 ≡ count_at_least (i * width) (delay_at H l) (first_start l) H
  counted i =
      sym (from_anchors (i * min width widest) H l f)
      ∙ count_same (delay_at H l) (i * min width widest) (i * width) H (first_start l) (λ t h. same_test width i (delay_at H l t) (omega (arith, (greatest_delay H l f).bound t h)))

  spaced : Spaced (first_start l + H) l
  spaced = rw f.whole f.spacing

  -- Entry i is the sum of the first i + 1 differences, modulo 2 ^ 64.
  pub entry_found : (n i : ℕ) → i < n → up_to (differences width H l n) i % modulus ≡ entry_of width H l i
  entry_found n i h =
      let e = front_anchors (min width widest) (omega arith) (omega arith) i (first_start l + H) l spaced (replicate n 0) (rw (length-replicate {A = ℕ} n 0) h) 0 0 in
      last _ _ _ _ (rw (no_sum (i + 1) n, counted i, counted (i + 1)) at e) (entry_difference width H l i) (count_most (delay_at H l) (leb (i * width)) H (first_start l)) fits
    where
      last : (u more all entry : ℕ) → (u + more + 0) % modulus ≡ (0 + all + 0) % modulus → entry + more ≡ all → all ≤ H → H < modulus → u % modulus ≡ entry
      last u more all entry e d h k = omega arith
