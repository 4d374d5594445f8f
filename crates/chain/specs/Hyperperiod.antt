-- Document 01, "Tasks and jobs": the hyperperiod H, the least common multiple of the periods at the chain's places.
-- That it is a common multiple, and the least, is `hyper_multiple` and `hyper_least` in Multiples.
use Rattle.std.specs.Prelude.{ℕ, ◌≤◌, ◌<◌, ◌≡◌, List, [], ◌∷◌}
use Rattle.task.specs.declared.Place.{Place}
use Rattle.euclid.specs.Divisor.{lcm_of}

-- The least common multiple of h and the periods.
unfoldable pub hyper_from : ℕ → List Place → ℕ
hyper_from h [] = h
hyper_from h (a ∷ l) = hyper_from (lcm_of h a.period) l

abbrev pub hyper_of : List Place → ℕ
hyper_of l = hyper_from 1 l

-- A number that is h where it is at most 60,000,000; where it is above, so is h.
pub record UpToLimit (h r : ℕ) : Type 0 where
  pub within : r ≤ 60000000 → r ≡ h
  pub above : 60000000 < r → 60000000 < h
