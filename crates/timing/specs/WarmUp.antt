-- Document 01, "Chains": the warm-up jobs W1 to Wn and the warm-up tick x0. Places are counted from 0 here: W1 is `warm_at l 0`.
use Rattle.std.specs.Prelude.{ℕ, ◌-◌, Bool, true, false, List, None, Option, Some}
use Rattle.task.specs.declared.Job.{Job}
use Rattle.task.specs.declared.Place.{Place}
use Rattle.task.specs.Jobs.{read_of}
use Rattle.chain.specs.Chains.{at, last_place, backward_by, walk, back, job_of}
use Rattle.ranges.specs.Least.{least_from}

abbrev pub is_job : Option Job → Bool
is_job (Some j) = true
is_job None = false

-- The backward steps from job k at the last place reach the first place.
abbrev pub reaches : List Place → ℕ → Bool
reaches l k = is_job (back l k)

-- Wn: the least job number at the last place from which the backward steps reach the first place.
-- The job to which the first place's job 0 goes forward does, so the search ends there. `warm_least` in WarmLaws says that it is the least of all.
unfoldable pub warm_last : List Place → ℕ
warm_last l = least_from (reaches l) 0 (walk l 0)

-- W1 to Wn are the jobs on that way: the one at place p.
unfoldable pub warm_at : List Place → ℕ → ℕ
warm_at l p = job_of (backward_by l p (last_place l - p) (warm_last l))

-- The warm-up tick x0: the read of W1.
unfoldable pub warm_tick : List Place → ℕ
warm_tick l = read_of (at l 0) (warm_at l 0)
