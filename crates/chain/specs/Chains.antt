-- Document 01, "Chains", with order 5 of document 02: the tasks at a chain's places, and the ways forward and backward along them.
-- Places are counted from 0 here: document 01's place p is place p − 1.
use Rattle.std.specs.Prelude.{ℕ, zero, suc, ◌+◌, ◌-◌, List, map, length, take, get_or, None, Option, Some}
use Rattle.task.specs.declared.Job.{Job}
use Rattle.task.specs.declared.Task.{Task}
use Rattle.task.specs.declared.Place.{Place}
use Rattle.task.specs.Jobs.{place_of}
use Rattle.task.specs.Links.{forward_link, backward_link}
use Rattle.chain.specs.declared.Chain.{Chain}

-- The tasks that are given for the chain's places. Array entries past the count are no part of a chain.
abbrev pub given_of : Chain → List Task
given_of c = take c.places c.tasks

-- Order 5: one gap for every link. (The last place has no link, so its gap is never looked at.)
abbrev pub placed : ℕ → List Task → List Place
placed g l = map (place_of g) l

-- The chain's places: its tasks, with the gap of every link. Along these the ways go.
abbrev pub tasks_of : Chain → List Place
tasks_of c = placed c.gap (given_of c)

abbrev pub zero_task : Task
zero_task = record { period = 0; duration = 0; phase = 0 }

-- What `at` gives past the last place, where nothing looks.
abbrev pub zero_place : Place
zero_place = place_of 0 zero_task

-- The place with a number: its task and its gap.
abbrev pub at : List Place → ℕ → Place
at l p = get_or l p zero_place

abbrev pub last_place : List Place → ℕ
last_place l = length l - 1

-- Forward from job j at place p, n places on, a link at a time.
unfoldable pub forward_by : List Place → ℕ → ℕ → ℕ → ℕ
forward_by l p zero j = j
forward_by l p (suc n) j = forward_link (at l (p + n)) (at l (p + suc n)) (forward_by l p n j)

-- What a way goes on with from the latest job, if there is one.
unfoldable pub on_latest : Option Job → (ℕ → Option Job) → Option Job
on_latest None f = None
on_latest (Some j) f = f j.0

-- Backward from job m at place p + n, n places back to place p; there may be none.
unfoldable pub backward_by : List Place → ℕ → ℕ → ℕ → Option Job
backward_by l p zero m = Some (record { 0 = m })
backward_by l p (suc n) m = on_latest (backward_link (at l (p + n)) (at l (p + suc n)) m) (backward_by l p n)

-- The whole way: from a job of the first place to one of the last, and back.
abbrev pub walk : List Place → ℕ → ℕ
walk l j = forward_by l 0 (last_place l) j

abbrev pub back : List Place → ℕ → Option Job
back l k = backward_by l 0 (last_place l) k

-- The job found, and 0 where there is none.
abbrev pub job_of : Option Job → ℕ
job_of (Some j) = j.0
job_of None = 0
