-- The largest of a figure over successive numbers.
use Rattle.std.specs.Prelude.{ℕ, zero, suc, max}

-- The largest of f at the n numbers from s on.
-- That no number of the range has more, and that one has as much, is `largest_top` and `reached` in LargestLaws.
unfoldable pub largest : (ℕ → ℕ) → ℕ → ℕ → ℕ
largest f s zero = 0
largest f s (suc n) = max (f s) (largest f (suc s) n)
