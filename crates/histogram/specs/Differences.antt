-- How the counts are had without a look at each tick. The list holds the differences of neighbouring entries, modulo 2 ^ 64. A range of delays, from `low` up to below `end`, changes
-- four of them, however many entries it covers: from the entry of `low` on, each gets its delays from `low` on, and from the entry of `end` on, those from `end` on are taken off
-- again. The sums of the first 1, 2, 3, .. differences are then the entries.
use Rattle.std.specs.Prelude.{ℕ, ◌+◌, ◌-◌, ◌/◌, ◌%◌, ◌^◌, List, take, slice_index, slice_set}
use Rattle.ranges.specs.Entries.{sum}

-- numbers of 64 bits are counted modulo this
abbrev pub modulus : ℕ
modulus = 2 ^ 64

-- more at a place, where the list has it
unfoldable pub added_at : ℕ → ℕ → List ℕ → List ℕ
added_at at more l = slice_set l at ((slice_index l at + more) % modulus)

-- what takes x off again
abbrev pub opposite : ℕ → ℕ
opposite x = (modulus - x) % modulus

-- every entry from `at` on is greater by `here`, and those after it by `next` too
abbrev pub shifted : ℕ → ℕ → ℕ → List ℕ → List ℕ
shifted at here next l = added_at (at + 1) next (added_at at here l)

-- the differences after a range of delays
unfoldable pub with_range : ℕ → ℕ → ℕ → List ℕ → List ℕ
with_range width low end l = shifted (end / width) (opposite (width - end % width)) (opposite (end % width)) (shifted (low / width) (width - low % width) (low % width) l)

-- the same for an anchor with latency v and d ticks: its delays fall from v to v + 1 - d
abbrev pub with_anchor : ℕ → List ℕ → ℕ → ℕ → List ℕ
with_anchor width l d v = with_range width (v + 1 - d) (v + 1) l

-- entry i before it is written: the sum of the first i + 1 differences
abbrev pub up_to : List ℕ → ℕ → ℕ
up_to l i = sum (take (i + 1) l)
