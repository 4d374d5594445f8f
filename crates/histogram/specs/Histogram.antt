-- Document 02, order 7: how many ticks of one hyperperiod have each delay. Each entry of the lent list and the rest are counted from the ticks, none from another.
use Rattle.std.specs.Prelude.{◌≡◌, ℕ, ◌+◌, ◌*◌, Bool, cond, ◌&&◌, List, length, nat_le, nat_lt, Err, Ok, Result}
use Rattle.refusal.specs.declared.Refusal.{Refusal}
use Rattle.refusal.specs.Refusals.{refusal}
use Rattle.ranges.specs.Entries.{entries}
use Rattle.table.specs.Anchors.{Anchor, anchors, first_start}
use Rattle.table.specs.WellFormed.{well_formed}
use Rattle.table.specs.Reading.{delay_at}
use Rattle.figures.specs.Ticks.{total}

-- 1 for what passes, else 0.
abbrev pub one : Bool → ℕ
one b = cond b 1 0

-- How many of the n ticks from s on have a figure f that passes.
abbrev pub count : (ℕ → Bool) → (ℕ → ℕ) → ℕ → ℕ → ℕ
count test f s n = total (λ t. one (test (f t))) s n

-- "delays from i × width up to below (i + 1) × width": numbers here have no end, so the products are what they say, whatever the width.
abbrev pub in_entry : ℕ → ℕ → ℕ → Bool
in_entry width i delay = nat_le (i * width) delay && nat_lt delay ((i + 1) * width)

-- "those beyond the list", which has n entries.
abbrev pub beyond : ℕ → ℕ → ℕ → Bool
beyond width n delay = nat_le (n * width) delay

-- Entry i: the ticks of one hyperperiod, from first start, with such a delay.
abbrev pub entry_of : ℕ → ℕ → List Anchor → ℕ → ℕ
entry_of width H l i = count (in_entry width i) (delay_at H l) (first_start l) H

-- The separate count: those of them beyond a list of n entries.
abbrev pub rest_of : ℕ → ℕ → List Anchor → ℕ → ℕ
rest_of width H l n = count (beyond width n) (delay_at H l) (first_start l) H

-- What the call answers: "14 is tested before it; a width of 0 is then refused with 18"; else the rest.
unfoldable pub histogram_of : List ℕ → List ℕ → ℕ → ℕ → ℕ → ℕ → Result ℕ Refusal
histogram_of starts latencies g H width n =
    cond (well_formed starts latencies g H)
    (cond (nat_lt 0 width) (Ok (rest_of width H (anchors starts latencies g) n)) (Err (refusal 18 0)))
    (Err (refusal 14 0))

-- What is left in the lent list, by the answer: the counts, or in a refusal what was there.
abbrev pub counts_after : Result ℕ Refusal → List ℕ → List ℕ → List ℕ
counts_after (Ok n) found counts = found
counts_after (Err r) found counts = counts

-- Every entry of the list has its count.
unfoldable pub counts_of : List ℕ → List ℕ → ℕ → ℕ → ℕ → List ℕ → List ℕ
counts_of starts latencies g H width counts =
    counts_after (histogram_of starts latencies g H width (length counts)) (entries (entry_of width H (anchors starts latencies g)) 0 (length counts)) counts

-- Both: the call gets `counts` and leaves `left` in its place.
pub record Gives (starts latencies : List ℕ) (g H width : ℕ) (counts left : List ℕ) (r : Result ℕ Refusal) : Type 0 where
  pub answer : r ≡ histogram_of starts latencies g H width (length counts)
  pub leaves : left ≡ counts_of starts latencies g H width counts
