-- Of any table, from code 0 of mo_histogram: the table is well-formed and the width at least 1, the list keeps its length, list and rest come to h, and in a list of mo_greatest's latency /
-- width + 1 entries the rest is 0.
use Rattle.std.specs.Prelude.{ℕ, ◌+◌, ◌*◌, ◌/◌, ◌≤◌, ◌≡◌, refl, Bool, true, false, cond, ltb, length, Err, Result}
use Rattle.std.proofs.Common.{arith, sym, ◌∙◌, true≢false, le-ltb}
use Rattle.std.proofs.Math.Decide.{dec_lt}
use Rattle.std.proofs.Math.Path.{ap}
use mathlib.Core.List.{List, [], ◌∷◌}
use Rattle.std.proofs.Math.ListN.{get_or}
use Rattle.refusal.specs.declared.Refusal.{Refusal}
use Rattle.ranges.specs.Entries.{sum}
use Rattle.refusal.specs.Refusals.{refusal}
use Rattle.table.specs.Anchors.{anchors}
use Rattle.table.specs.WellFormed.{well_formed, WellFormed}
use Rattle.table.specs.Reading.{delay_at}
use Rattle.table.specs.Figures.{greatest}
use Rattle.table.specs.BothWays.{well_formed_iff, well_formed_laws}
use Rattle.histogram.specs.Histogram.{rest_of, histogram_of}
use Rattle.histogram.proofs.EveryHyperperiod.{Counts, CountsDelays, every_hyperperiod, all_ticks}
use Rattle.histogram.proofs.Reach.{long_enough}
use Rattle.capi_histogram.specs.Calls.{histogram_numbers, GivesHistogram}

-- a choice with code 0 is its first side
first_side : (b : Bool) (x : Result ℕ Refusal) (number : ℕ) (code rest : ℕ) → (code ∷ rest ∷ []) ≡ histogram_numbers (cond b x (Err (refusal (1 + number) 0))) → code ≡ 0 → b ≡ true
first_side true x number code rest e z = refl
first_side false x number code rest e z = absurd (let q : code ≡ 1 + number + 256 * 0 = ap (λ (l : List ℕ). get_or l 0 0) e in omega arith)

module _ (s v : List ℕ) (g h width : ℕ) (counts list : List ℕ) (code rest : ℕ) (gives : GivesHistogram s v g h width counts list code rest) (fine : code ≡ 0) where
  pub formed : well_formed s v g h ≡ true
  unfolding histogram_of
  formed = first_side (well_formed s v g h) _ 13 code rest gives.answers fine

  wide : ltb 0 width ≡ true
  unfolding histogram_of
  wide = first_side (ltb 0 width) _ 17 code rest (rw formed at gives.answers) fine

  pub some_width : 1 ≤ width
  some_width = elim (dec_lt 0 width) [ yes h ↦ h | no h ↦ absurd (true≢false (sym wide ∙ le-ltb 0 width (omega arith))) ]

  well : WellFormed s v g h
  well = (well_formed_iff s v g h).0 formed

  -- The delays that count are those of the table, of the h ticks from any tick on that is not before the first start.
  found : CountsDelays (delay_at h (anchors s v g)) (get_or s 0 0) h width counts list (histogram_of s v g h width (length counts))
  found = every_hyperperiod s v g h width counts list _ (record { answer = refl; leaves = gives.leaves }) well some_width (delay_at h (anchors s v g)) (λ t k. refl)

  rest_found : rest ≡ found.rest
  rest_found = ap (λ (l : List ℕ). get_or l 1 0) (gives.answers ∙ ap histogram_numbers found.answered)

  pub table_counts : (t : ℕ) → get_or s 0 0 ≤ t → Counts (delay_at h (anchors s v g)) t h width list rest
  table_counts t from = rw rest_found (found.counts t from)

  pub length_for_c : length list ≡ length counts
  length_for_c = found.kept

  -- "The entries and the rest come to H".
  pub all_for_c : sum list + rest ≡ h
  all_for_c = all_ticks _ _ _ _ _ _ (table_counts (get_or s 0 0) (omega arith))

  -- With so many entries none lies beyond.
  pub rest_none : length counts ≡ greatest (anchors s v g) / width + 1 → rest ≡ 0
  unfolding histogram_of
  rest_none e =
      let r : rest ≡ rest_of width h (anchors s v g) (length counts) = ap (λ (l : List ℕ). get_or l 1 0) (rw (formed, wide) at gives.answers) in
      r ∙ ap (rest_of width h (anchors s v g)) e ∙ long_enough width h (anchors s v g) (well_formed_laws s v g h well) some_width
