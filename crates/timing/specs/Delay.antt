-- Document 01, "Delay, age, partitions": the delay of a press at a tick, and the age at a tick.
use Rattle.std.specs.Prelude.{ℕ, ◌-◌, List}
use Rattle.task.specs.declared.Place.{Place}
use Rattle.task.specs.Jobs.{read_of, write_of}
use Rattle.task.specs.Links.{earliest_after, latest_by}
use Rattle.chain.specs.Chains.{at, last_place, on_latest, walk, back, job_of}
use Rattle.timing.specs.WarmUp.{warm_last}

-- Delay at tick t: the first place's earliest job that reads strictly after t, forward; the last write less t.
unfoldable pub delay_at : List Place → ℕ → ℕ
delay_at l t = write_of (at l (last_place l)) (walk l (earliest_after (at l 0) t)) - t

-- A tick has an age from the write of Wn on.
unfoldable pub first_aged : List Place → ℕ
first_aged l = write_of (at l (last_place l)) (warm_last l)

-- Age at z: the last place's latest job writing at or before z, backward; z less the first read.
-- From `first_aged` on there is such a job: `aged` in WarmLaws.
unfoldable pub age_at : List Place → ℕ → ℕ
age_at l z = z - read_of (at l 0) (job_of (on_latest (latest_by (at l (last_place l)) z) (back l)))
