-- "of one hyperperiod": it does not matter which. What the call gives for a well-formed table are the counts of the delays of the H ticks from any tick on that is not before first start;
-- and of any figure that has the table's delays, as the walk has.
use Rattle.std.specs.Prelude.{◌≡◌, ℕ, ◌+◌, ◌-◌, ◌*◌, ◌<◌, ◌≤◌, Bool, List, length, slice_index, Ok, Result}
use Rattle.std.proofs.Common.{arith, sym, ◌∙◌}
use Rattle.std.proofs.Math.Path.{ap}
use borrow.Author.Tests.{lt-ltb}
use Rattle.refusal.specs.declared.Refusal.{Refusal}
use Rattle.ranges.specs.Entries.{entries, sum, entries_length, entries_same}
use Rattle.table.specs.Anchors.{Anchor, anchors, first_start}
use Rattle.table.specs.WellFormed.{WellFormed}
use Rattle.table.specs.Reading.{delay_at}
use Rattle.table.specs.Segments.{Formed, delay_again}
use Rattle.table.specs.BothWays.{well_formed_iff, well_formed_laws}
use Rattle.table.specs.EveryTable.{first_start_holds}
use Rattle.figures.specs.Folding.{total_same, total_round}
use Rattle.histogram.specs.Histogram.{one, count, in_entry, beyond, entry_of, rest_of, histogram_of, counts_after, counts_of, Gives}
use Rattle.histogram.proofs.Counting.{all_counted}

-- A list and a rest count the delays of the H ticks from t on.
pub record Counts (delay : ℕ → ℕ) (t H width : ℕ) (list : List ℕ) (rest : ℕ) : Type 0 where
  pub each : list ≡ entries (λ i. count (in_entry width i) delay t H) 0 (length list)
  pub others : rest ≡ count (beyond width (length list)) delay t H

module _ (delay : ℕ → ℕ) (t H width : ℕ) (list : List ℕ) (rest : ℕ) (c : Counts delay t H width list rest) where
  -- They come to H.
  pub all_ticks : sum list + rest ≡ H
  all_ticks = ap (λ (l : List ℕ). sum l + rest) c.each ∙ ap (λ (n : ℕ). sum (entries (λ i. count (in_entry width i) delay t H) 0 (length list)) + n) c.others ∙ all_counted delay width t H (length list)

  -- Only the delays of these ticks count.
  pub counts_same : (other : ℕ → ℕ) → ((u : ℕ) → t ≤ u → u < t + H → delay u ≡ other u) → Counts other t H width list rest
  counts_same other same = record {
    each = c.each ∙ entries_same _ _ 0 (length list) (λ i a b. by (in_entry width i));
    others = c.others ∙ by (beyond width (length list));
  }
    where
      by : (test : ℕ → Bool) → count test delay t H ≡ count test other t H
      by test = total_same (λ u. one (test (delay u))) (λ u. one (test (other u))) H t t (λ i h. ap (λ (x : ℕ). one (test x)) (same (t + i) (omega arith) (omega arith)))

module _ (H : ℕ) (l : List Anchor) (formed : Formed H l) (delay : ℕ → ℕ) (same : (t : ℕ) → first_start l ≤ t → delay t ≡ delay_at H l t) (t : ℕ) (from : first_start l ≤ t) where
  again : (test : ℕ → Bool) (u : ℕ) → first_start l ≤ u → one (test (delay_at H l (u + H))) ≡ one (test (delay_at H l u))
  again test u k = ap (λ (x : ℕ). one (test x)) (ap (delay_at H l) {x = u + H} {y = u + 1 * H} (omega arith) ∙ delay_again H l formed u 1 k)

  pub count_anywhere : (test : ℕ → Bool) → count test (delay_at H l) (first_start l) H ≡ count test delay t H
  count_anywhere test =
      let e : first_start l + (t - first_start l) ≡ t = omega arith in
      sym (rw e at (total_round (λ u. one (test (delay_at H l u))) H (first_start l) (t - first_start l) (again test)))
      ∙ total_same (λ u. one (test (delay_at H l u))) (λ u. one (test (delay u))) H t t (λ i k. ap (λ (x : ℕ). one (test x)) (sym (same (t + i) (omega arith))))

-- What the call answers of a well-formed table and a width from 1 on: it keeps the list's length, and counts the delays of H ticks, whichever from `first` on.
pub record CountsDelays (delay : ℕ → ℕ) (first H width : ℕ) (old list : List ℕ) (r : Result ℕ Refusal) : Type 0 where
  pub rest : ℕ
  pub answered : r ≡ Ok rest
  pub kept : length list ≡ length old
  pub counts : (t : ℕ) → first ≤ t → Counts delay t H width list rest

module _ (s v : List ℕ) (g H width : ℕ) (old list : List ℕ) (r : Result ℕ Refusal) (gives : Gives s v g H width old list r) (w : WellFormed s v g H) (some : 1 ≤ width) where
  abbrev l : List Anchor
  l = anchors s v g

  found : histogram_of s v g H width (length old) ≡ Ok (rest_of width H l (length old))
  unfolding histogram_of
  found = rw ((well_formed_iff s v g H).1 w, lt-ltb 0 width some)

  written : list ≡ entries (entry_of width H l) 0 (length old)
  unfolding counts_of
  written = gives.leaves ∙ ap (λ (x : Result ℕ Refusal). counts_after x (entries (entry_of width H l) 0 (length old)) old) found

  length_kept : length list ≡ length old
  length_kept = ap length written ∙ entries_length (entry_of width H l) 0 (length old)

  pub every_hyperperiod : (delay : ℕ → ℕ) → ((t : ℕ) → slice_index s 0 ≤ t → delay t ≡ delay_at H l t) → CountsDelays delay (slice_index s 0) H width old list r
  every_hyperperiod delay same = record {
    rest = rest_of width H l (length old);
    answered = gives.answer ∙ found;
    kept = length_kept;
    counts = λ t h. record {
      each = written ∙ ap (entries (entry_of width H l) 0) (sym length_kept) ∙ entries_same _ _ 0 (length list) (λ i a b. anywhere t h (in_entry width i));
      others = ap (rest_of width H l) (sym length_kept) ∙ anywhere t h (beyond width (length list));
    };
  }
    where
      anywhere : (t : ℕ) → slice_index s 0 ≤ t → (test : ℕ → Bool) → count test (delay_at H l) (first_start l) H ≡ count test delay t H
      anywhere t h test =
          count_anywhere H l (well_formed_laws s v g H w) delay (λ u k. same u (omega (arith, first_start_holds s v g H w))) t (omega (arith, first_start_holds s v g H w)) test
