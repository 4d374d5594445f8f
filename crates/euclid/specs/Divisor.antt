-- Document 01, "Tasks and jobs": the greatest common divisor by Euclid's rule, and the least common multiple.
-- That they are the greatest common divisor and the least common multiple is said in LeastMultiple.
use Rattle.std.specs.Prelude.{ℕ, zero, suc, ◌*◌, ◌/◌, ◌%◌}

-- Euclid's rule: (a, b) becomes (b, a modulo b) until the second number is 0. The first argument bounds the number of divisions.
unfoldable pub euclid : ℕ → ℕ → ℕ → ℕ
euclid zero a b = a
euclid (suc n) a zero = a
euclid (suc n) a (suc b) = euclid n (suc b) (a % suc b)

-- The second number falls at each division, so b divisions are enough.
unfoldable pub gcd_of : ℕ → ℕ → ℕ
gcd_of a b = euclid b a b

unfoldable pub lcm_of : ℕ → ℕ → ℕ
lcm_of a b = a / gcd_of a b * b
