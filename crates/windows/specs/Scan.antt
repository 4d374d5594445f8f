-- What the loops over starts and window jobs carry, and what a look at successive starts finds.
use Rattle.std.specs.Prelude.{ℕ, ◌+◌, ◌-◌, ◌≤◌, ◌<◌, ◌≡◌, Bool, cond, List, ltb, length, get_or}
use Rattle.ranges.specs.Largest.{largest}
use Rattle.windows.specs.Windows.{one}

-- The flags of the jobs from s up to before j, at most k of them, in a ring of k entries in which job j goes to entry i: entries from i on are a turn further back.
pub record Ring (miss : ℕ → Bool) (k s j i : ℕ) (flags : List ℕ) : Type 0 where
  pub length_is : length flags ≡ 100
  pub ahead : (x y : ℕ) → i ≤ x → x < k → s ≤ y → y + k + i ≡ j + x → get_or flags x 0 ≡ one (miss y)
  pub behind : (x y : ℕ) → x < i → s ≤ y → y + i ≡ j + x → get_or flags x 0 ≡ one (miss y)

-- The entry after i in a ring of k entries.
abbrev pub next_in : ℕ → ℕ → ℕ
next_in i k = cond (ltb (i + 1) k) (i + 1) 0

-- Of `from` to `last`, `at` is the first at which f reaches the goal, or the number after `last`; and `most` is the largest of f before it.
pub record Looked (f : ℕ → ℕ) (goal from last at most : ℕ) : Type 0 where
  pub low : from ≤ at
  pub high : at ≤ last + 1
  pub before : (x : ℕ) → from ≤ x → x < at → f x < goal
  pub reached : at ≤ last → goal ≤ f at
  pub most_is : most ≡ largest f from (at - from)
