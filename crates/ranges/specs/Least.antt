-- The least of successive numbers that passes a test.
use Rattle.std.specs.Prelude.{ℕ, zero, suc, Bool, cond}

-- The least of the n numbers from s on that passes, or s + n.
-- That it is the first that passes, where one does, is `first_found` in LeastLaws.
unfoldable pub least_from : (ℕ → Bool) → ℕ → ℕ → ℕ
least_from test s zero = s
least_from test s (suc n) = cond (test s) s (least_from test (suc s) n)
