-- What `histogram_of` shows at its return.
use Rattle.std.specs.Prelude.{Ok}
use Rattle.std.proofs.Common.{◌≡◌, ℕ, ◌+◌, ◌%◌, ◌<◌, ◌≤◌, min, true, List, length, get_or, replicate, ap, ◌∙◌, arith, lt-ltb}
use lib.ListN.{length-replicate}
use Rattle.ranges.specs.Entries.{entries, sum, entries_same}
use Rattle.table.specs.Anchors.{anchors}
use Rattle.table.specs.WellFormed.{well_formed, WellFormed}
use Rattle.table.specs.BothWays.{well_formed_iff, well_formed_laws}
use Rattle.table.specs.EveryTable.{first_start_holds}
use Rattle.table.specs.Delays.{greatest_small}
use Rattle.figures.specs.ByAnchors.{segments}
use Rattle.histogram.specs.Histogram.{entry_of, rest_of, histogram_of, counts_of, Gives}
use Rattle.histogram.proofs.Counting.{come_to_H}
use Rattle.histogram.specs.Differences.{modulus, with_anchor, up_to}
use Rattle.histogram.proofs.Differences.{length_anchors}
use Rattle.histogram.specs.Entries.{widest, differences}
use Rattle.histogram.proofs.Entries.{entry_found}

module _ (s v : List ℕ) (g H width : ℕ) (old : List ℕ) (w : WellFormed s v g H) where
  -- the four steps
  rest_left : (r listed rest : ℕ) → (r + listed) % modulus ≡ H % modulus → listed + rest ≡ H → r < modulus → r ≡ rest
  rest_left r listed rest e d small = omega (arith, w.hyper.1)

  pub counted : 1 ≤ width → {clear steps left : List ℕ} {step r : ℕ} → clear ≡ replicate (length old) 0 → step ≡ min width widest
      → steps ≡ segments (with_anchor step) (get_or s 0 0 + H) (anchors s v g) clear
      → (left ≡ entries (λ i. up_to steps i % modulus) 0 (length steps)) × ((r + sum left) % modulus ≡ H % modulus) → r < modulus
      → Gives s v g H width old left (Ok r)
  unfolding histogram_of counts_of
  counted some {clear} {steps} {left} {step} {r} c k d e small =
      let n : ℕ = length old in
      let l = anchors s v g in
      let t : well_formed s v g H ≡ true = (well_formed_iff s v g H).1 w in
      let whole : steps ≡ differences width H l n = rw (d, c, k, first_start_holds s v g H w) in
      let long : length steps ≡ n = ap length d ∙ length_anchors step (get_or s 0 0 + H) l clear ∙ ap length c ∙ length-replicate {A = ℕ} n 0 in
      let all : left ≡ entries (entry_of width H l) 0 n
      = e.0 ∙ ap (entries (λ i. up_to steps i % modulus) 0) long
      ∙ entries_same (λ i. up_to steps i % modulus) (entry_of width H l) 0 n
      (λ i low h. ap (λ (x : List ℕ). up_to x i % modulus) whole ∙ entry_found width H l some (well_formed_laws s v g H w) (greatest_small s v g H w) (omega (arith, w.hyper.1)) n i (omega arith)) in
      record {
        answer = rw (t, lt-ltb 0 width some) (ap Ok (rest_left r (sum left) (rest_of width H l n) e.1 (ap (λ (x : List ℕ). sum x + rest_of width H l n) all ∙ come_to_H width H l n) small));
        leaves = rw (t, lt-ltb 0 width some) all;
      }
