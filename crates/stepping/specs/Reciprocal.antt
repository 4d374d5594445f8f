-- Whole periods without a division: a factor and a shift that were made once for a period (Granlund and Montgomery, "Division by Invariant Integers using Multiplication", 1994).
use Rattle.std.specs.Prelude.{ℕ, ◌+◌, ◌*◌, ◌^◌, ◌≤◌, ◌<◌}

-- The factor over 2 ^ shift is 1 / t and at most 1 / 2 ^ shift more. With 2 ^ 24 at most 2 ^ shift / t that is near enough for numbers below 2 ^ 24, which is 16,777,216: twelve periods
-- have at most 12,000,000 ticks. A factor up to 20,000,000,000 keeps the product of the two far within 64 bits.
pub record Reciprocal (t factor shift : ℕ) : Type 0 where
  pub some : 1 ≤ t
  pub low : 2 ^ shift ≤ factor * t
  pub high : factor * t ≤ 2 ^ shift + t
  pub near : 16777216 * t ≤ 2 ^ shift
  pub narrow : shift < 64
  pub fits : factor ≤ 20000000000
