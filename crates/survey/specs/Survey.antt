-- Document 01, "Survey examples": A1 to A8, B, C, D and E, and the examples of orders 2, 5 and 6 of document 02, with what follows from order 7 for A and B, from order 8 for some seeds and from order 9 for some bounds, as one computed list with one conclusion. Every row
-- is computed from the definitions that the calls' contracts cite; a call's answer is turned into plain numbers: of a refusal its number and its place, of a
-- success 0 and its values.
use Rattle.std.specs.Prelude.{ℕ, zero, suc, ◌+◌, ◌-◌, ◌≡◌, refl, List, [], ◌∷◌, ◌++◌, map, length, take, replicate, Err, None, Ok, Option, Result, Some}
use Rattle.figures.specs.declared.Exceedance.TheVariants.{Endless, Run}
use Rattle.windows.specs.declared.Windows.{Windows}
use Rattle.figures.specs.declared.Mean.{Mean}
use Rattle.figures.specs.declared.Exceedance.{Exceedance}
use Rattle.task.specs.declared.Task.{Task}
use Rattle.task.specs.declared.Job.{Job}
use Rattle.task.specs.Jobs.{within_limits}
use Rattle.task.specs.Links.{earliest_from, latest_over, forward_link, backward_link}
use Rattle.euclid.specs.Divisor.{euclid, gcd_of, lcm_of}
use Rattle.chain.specs.declared.Chain.{Chain}
use Rattle.chain.specs.Chains.{tasks_of, zero_task, forward_by, on_latest, backward_by}
use Rattle.chain.specs.Flat.{flat_of}
use Rattle.chain.specs.Hyperperiod.{hyper_from}
use Rattle.chain.specs.Checks.{first_fault, hyper_verdict, after_gap, verdict_for, verdict_of}
use Rattle.timing.specs.declared.WarmUp.{WarmUp}
use Rattle.ranges.specs.Least.{least_from}
use Rattle.timing.specs.WarmUp.{warm_last, warm_at, warm_tick}
use Rattle.timing.specs.Delay.{delay_at, first_aged, age_at}
use Rattle.ranges.specs.Entries.{entries, sum}
use Rattle.timing.specs.Answers.{warm_up_after, warm_up_of, span_after, delay_of, age_of}
use Rattle.table.specs.Anchors.{anchors}
use Rattle.table.specs.WellFormed.{spaced, well_formed}
use Rattle.table.specs.Reading as read
use Rattle.table.specs.Figures.{greatest, low_to, low}
use Rattle.figures.specs.Ticks.{total, every_above, longest_run, ticks}
use Rattle.figures.specs.Figures.{delay_sum, doubled_area, exceedance, greatest_of, low_of, mean_of, exceedance_of}
use Rattle.histogram.specs.Histogram.{histogram_of, counts_of}
use Rattle.partition.specs.Lists.{range_from, keep, fresh, drop_repeats}
use Rattle.partition.specs.Partitions.{start_of, end_of, keeps, anchors_from}
use Rattle.maker.specs.Making.{judged, made_after, made_of, written_after, written_of, starts_of, latencies_of, told}
use Rattle.ranges.specs.Largest.{largest}
use Rattle.windows.specs.Windows.{span_of, misses, misses_in, window_of, most_misses, earliest_job, windows_after, windows_of}
use Rattle.windows.specs.Windows as windows-of
use Rattle.schedule.specs.Schedules.{padded}
use Rattle.latency.specs.Latency.{greatest_latency}
use Rattle.sections.specs.declared.Sections.{Sections}
use Rattle.sections.specs.Sections as sections
use Rattle.load.specs.Load as load
use Rattle.schedule.specs.declared.NumberedTask.{NumberedTask}
use Rattle.schedule.specs.declared.Schedule.{Schedule}
use Rattle.schedule.specs.Schedules.{task_rule, known, task_numbered, route_numbered, schedule_of}
use Rattle.schedule_checks.specs.Checks as schedule-checks
use Rattle.refusal.specs.declared.Refusal.{Refusal}
use Rattle.phase.specs.Phases.{phase_after, phase_from}
use Rattle.bounded.specs.declared.Bounded.{Bounded}
use Rattle.bounded.specs.Bounded.{cleared, pairwise, same_task, same_route, same_schedule, same_bounded}
use Rattle.promises.specs.Promises.{hyper_refusal, checks_of, judged_of}
use Rattle.instrument.specs.declared.State.{State}
use Rattle.instrument.specs.declared.Asked.{Asked}
use Rattle.instrument.specs.declared.Committed.{Committed}
use Rattle.instrument.specs.Instrument.{make_of, ask_of, commit_refusal, commit_of}

-- ---- the chains

abbrev task : ℕ → ℕ → ℕ → Task
task t d f = record { period = t; duration = d; phase = f }

-- A chain of so many places has room for twelve tasks; entries past its places are no part of it.
abbrev chain_with : List Task → ℕ → Chain
chain_with l n = record { tasks = l ++ replicate (12 - length l) zero_task; places = n; gap = 0 }

abbrev chain_of : List Task → Chain
chain_of l = chain_with l (length l)

abbrev A : Chain
A = chain_of (task 4 4 0 ∷ task 6 6 0 ∷ [])

abbrev B : Chain
B = chain_of (task 10 3 5 ∷ [])

abbrev C : Chain
C = chain_of (task 5 5 0 ∷ task 5 5 0 ∷ [])

-- The same chain with a gap.
abbrev gapped : ℕ → Chain → Chain
gapped g c = record { tasks = c.tasks; places = c.places; gap = g }

abbrev D : Chain
D = chain_of (task 10 2 0 ∷ task 10 1 95 ∷ [])

-- 768 and 78,125 have the least common multiple 60,000,000, and 769 and 78,125 have 60,078,125.
abbrev E : ℕ → Chain
E t = chain_of (task 78125 1 0 ∷ task t 1 0 ∷ [])

-- ---- answers as plain numbers

abbrev job : Job → ℕ
job j = j.0

-- An answer that is one number; a refusal is its number and its place, here and below.
abbrev number_is : Result ℕ Refusal → List ℕ
number_is (Ok n) = 0 ∷ n ∷ []
number_is (Err r) = r.number ∷ r.place ∷ []

-- H, x0, and W1 to Wn of n places.
abbrev warm_is : ℕ → Result WarmUp Refusal → List ℕ
warm_is n (Ok w) = 0 ∷ w.hyperperiod ∷ w.tick.0 ∷ map job (take n w.jobs)
warm_is n (Err r) = r.number ∷ r.place ∷ []

abbrev warm : Chain → List ℕ
warm c = warm_is c.places (warm_up_of c)

-- Starts, then latencies, of the table cut at p, in lists of three entries.
abbrev starts : Chain → ℕ → List ℕ
starts c p = starts_of (written_of c p 3 3)

abbrev latencies : Chain → ℕ → List ℕ
latencies c p = latencies_of (written_of c p 3 3)

abbrev walked : Chain → ℕ → ℕ
walked c p = (told (made_of c p 3 3)).walked

abbrev mean_is : Result Mean Refusal → List ℕ
mean_is (Ok m) = 0 ∷ m.doubled_area ∷ m.doubled_ticks ∷ []
mean_is (Err r) = r.number ∷ r.place ∷ []

-- A run is 0 and its length, and `endless` is 1.
abbrev run_is : Result Exceedance Refusal → List ℕ
run_is (Ok (Run n)) = 0 ∷ n ∷ []
run_is (Ok Endless) = 1 ∷ []
run_is (Err r) = r.number ∷ r.place ∷ []

-- The number of misses and the first job.
abbrev windows_is : Result Windows Refusal → List ℕ
windows_is (Ok w) = 0 ∷ w.most ∷ w.first.0 ∷ []
windows_is (Err r) = r.number ∷ r.place ∷ []

-- The first and the last starting job of the range.
abbrev range : Chain → List ℕ
range c = (warm_at (tasks_of c) 0 + 1) ∷ (warm_at (tasks_of c) 0 + windows-of.starts (tasks_of c)) ∷ []

-- The misses in the windows from jobs 1, 2 and 3 on, which are chain A's range.
abbrev counts : Chain → ℕ → ℕ → List ℕ
counts c b k = window_of (tasks_of c) b k 1 ∷ window_of (tasks_of c) b k 2 ∷ window_of (tasks_of c) b k 3 ∷ []

-- The rest of a histogram, and what then stands in a list of n entries that held 7.
abbrev histogram_is : Chain → ℕ → ℕ → ℕ → ℕ → List ℕ
histogram_is c g h width n = number_is (histogram_of (starts c 1) (latencies c 1) g h width n) ++ counts_of (starts c 1) (latencies c 1) g h width (replicate n 7)

-- The number of sections, the sum, and the sections' latencies.
abbrev sections_is : Result Sections Refusal → List ℕ
sections_is (Ok s) = 0 ∷ s.count ∷ s.sum ∷ take s.count s.latencies
sections_is (Err r) = r.number ∷ r.place ∷ []

abbrev cut : Chain → List ℕ → List ℕ
cut c cuts = sections_is (sections.sections_answer c cuts)

-- The numbers that the first three draws from a seed give.
abbrev draws : ℕ → List ℕ
draws s = (load.draw_of s).value ∷ (load.draw_of (load.draw_of s).state).value ∷ (load.draw_of (load.draw_of (load.draw_of s).state).state).value ∷ []

-- The period and the phase of a task.
abbrev fields : Task → List ℕ
fields t = t.period ∷ t.phase ∷ []

-- The chain of a seed: number of places, and the period and the phase at each; that the duration is the period is `durations`.
abbrev load_is : Result Chain Refusal → List ℕ
load_is (Ok c) = 0 ∷ c.places ∷ flat_of fields (take c.places c.tasks)
load_is (Err r) = r.number ∷ r.place ∷ 0 ∷ []

abbrev seeded : ℕ → ℕ → List ℕ
seeded s n = load_is (load.load_of s n)

abbrev durations_in : ℕ → Result Chain Refusal → List ℕ
durations_in n (Ok c) = map (λ (t : Task). t.duration) (take n c.tasks)
durations_in n (Err r) = []

abbrev durations : ℕ → ℕ → List ℕ
durations s n = durations_in n (load.load_of s n)

-- The checks of the chain of a seed.
abbrev checks_in : Result Chain Refusal → Result ℕ Refusal
checks_in (Ok c) = verdict_of c
checks_in (Err r) = Err r

-- A schedule's task.
abbrev numbered : ℕ → ℕ → ℕ → ℕ → NumberedTask
numbered n t d f = record { number = n; task = task t d f }

-- Chain A, with F for the first phase and a gap, as a schedule of tasks 1 and 2 and one chain.
abbrev schedule_a : ℕ → ℕ → Schedule
schedule_a f g = schedule_of (numbered 1 4 4 f ∷ numbered 2 6 6 0 ∷ []) ((1 ∷ 2 ∷ []) ∷ []) g

-- A task that fills two places of three.
abbrev twice : Schedule
twice = schedule_of (numbered 3 10 3 7 ∷ numbered 9 20 5 0 ∷ []) ((3 ∷ 9 ∷ 3 ∷ []) ∷ []) 0

abbrev long : Schedule
long = schedule_of (numbered 1 10001 4 0 ∷ numbered 2 6 6 0 ∷ []) ((1 ∷ 2 ∷ []) ∷ []) 0

-- A phase is 0 and itself, and `none` is 1.
abbrev phase_is : Result (Option ℕ) Refusal → List ℕ
phase_is (Ok (Some f)) = 0 ∷ f ∷ []
phase_is (Ok None) = 1 ∷ []
phase_is (Err r) = r.number ∷ r.place ∷ []

-- Chain A's tasks with chains (1, 2) and (2), a gap and bounds, of which the last two are past the chains.
abbrev bounded : ℕ → ℕ → ℕ → ℕ → Bounded
bounded g x y z = cleared (record { schedule = schedule_of (numbered 1 4 4 0 ∷ numbered 2 6 6 0 ∷ []) ((1 ∷ 2 ∷ []) ∷ (2 ∷ []) ∷ []) g; bounds = x ∷ y ∷ z ∷ 7 ∷ [] })

-- The bounds of what runs, whether a proposal stands, and its bounds.
abbrev bounds_in : State → List ℕ
bounds_in s = s.running.bounds ++ (s.firmware.stands ∷ s.firmware.proposal.bounds)

abbrev refusal_is : Refusal → List ℕ
refusal_is r = r.number ∷ r.place ∷ []

-- Order 10: a state is made, two asks, of which the second is refused, then a commit that names another gap, and one that names the proposal.
abbrev made : State
made = (make_of (bounded 0 18 12 9)).state

abbrev first : Asked
first = ask_of made (bounded 1 20 12 9)

abbrev second : Asked
second = ask_of first.state (bounded 1 19 12 9)

abbrev other : Committed
other = commit_of second.state (bounded 0 20 12 9)

abbrev committed : Committed
committed = commit_of other.state (bounded 1 20 12 8)

-- ---- the list

unfoldable pub computed : List (List ℕ)
computed =
    -- A1
    warm A
    -- A2, cut at 1 and at 2
    ∷ starts A 1 ∷ latencies A 1 ∷ starts A 2 ∷ latencies A 2
    -- A3
    ∷ (walked A 1 ∷ walked A 2 ∷ [])
    -- A4, walked and read from the made table
    ∷ number_is (delay_of A 0) ∷ number_is (delay_of A 7) ∷ number_is (delay_of A 8) ∷ number_is (delay_of A 11) ∷ number_is (delay_of A 12)
    ∷ number_is (read.reading (starts A 2) (latencies A 2) 2 12 0) ∷ number_is (read.reading (starts A 2) (latencies A 2) 2 12 7) ∷ number_is (read.reading (starts A 2) (latencies A 2) 2 12 8)
    ∷ number_is (read.reading (starts A 2) (latencies A 2) 2 12 11) ∷ number_is (read.reading (starts A 2) (latencies A 2) 2 12 12)
    -- A5
    ∷ number_is (age_of A 12) ∷ number_is (age_of A 17) ∷ number_is (age_of A 18) ∷ number_is (age_of A 23)
    -- A6, the mean by area since order 3 of document 02
    ∷ number_is (low_of (starts A 2) (latencies A 2) 2 12) ∷ mean_is (mean_of (starts A 2) (latencies A 2) 2 12) ∷ number_is (greatest_of (starts A 2) (latencies A 2) 2 12)
    -- A7
    ∷ run_is (exceedance_of (starts A 2) (latencies A 2) 2 12 18) ∷ run_is (exceedance_of (starts A 2) (latencies A 2) 2 12 14)
    ∷ run_is (exceedance_of (starts A 2) (latencies A 2) 2 12 11) ∷ run_is (exceedance_of (starts A 2) (latencies A 2) 2 12 10)
    -- A8, with the range of first jobs and the misses in the window from each of them, of which only job 3's has as many
    ∷ windows_is (windows_of A 11 2) ∷ range A ∷ counts A 11 2
    ∷ windows_is (windows_of A 14 3)
    -- order 2 of document 02: of three windows with as many misses the earliest
    ∷ windows_is (windows_of A 11 3) ∷ counts A 11 3
    -- B
    ∷ starts B 1 ∷ latencies B 1 ∷ number_is (delay_of B 4)
    -- C, cut at 1 and at 2
    ∷ starts C 1 ∷ latencies C 1 ∷ starts C 2 ∷ latencies C 2
    -- order 5 of document 02: C with gap 1, cut at 1 and at 2; with the greatest gap; and a gap above it
    ∷ starts (gapped 1 C) 1 ∷ latencies (gapped 1 C) 1 ∷ starts (gapped 1 C) 2 ∷ latencies (gapped 1 C) 2
    ∷ warm (gapped 1 C) ∷ warm (gapped 1000 C) ∷ number_is (verdict_of (gapped 1001 C))
    -- order 6 of document 02: chain A in one piece and cut in the middle; with gap 7; and cuts that are 0, the last place, or not rising
    ∷ cut A [] ∷ cut A (1 ∷ []) ∷ cut (gapped 7 A) [] ∷ cut (gapped 7 A) (1 ∷ [])
    ∷ cut A (0 ∷ []) ∷ cut A (2 ∷ []) ∷ cut A (1 ∷ 1 ∷ [])
    -- order 7 of document 02: chain A's delays in steps of 5, in a list that holds them, in a shorter one and in an empty one; each delay by itself; all in one entry; a width of 0; and with an H that leaves no table
    ∷ histogram_is A 2 12 5 4 ∷ histogram_is A 2 12 5 3 ∷ histogram_is A 2 12 5 0 ∷ histogram_is A 2 12 1 20 ∷ histogram_is A 2 12 18446744073709551615 2 ∷ histogram_is A 2 12 0 2 ∷ histogram_is A 2 8 0 2
    -- and B's, which begin at tick 5
    ∷ histogram_is B 1 10 4 4
    -- order 8 of document 02: draws from seed 0, the periods at the limits of each row, chains of some seeds, of which one has 0 for its first draw and the greatest wraps at once, a chain's hyperperiod, and places outside 1 to 12
    ∷ draws 0 ∷ map load.period_of (0 ∷ 1 ∷ 10 ∷ 11 ∷ 43 ∷ 44 ∷ 58 ∷ 59 ∷ 81 ∷ 82 ∷ 96 ∷ [])
    ∷ seeded 0 3 ∷ durations 0 3 ∷ seeded 0xDEADBEEF 4 ∷ seeded 0x61C8864680B583EB 1 ∷ seeded 18446744073709551615 4
    ∷ number_is (checks_in (load.load_of 18446744073709551615 12)) ∷ seeded 0 0 ∷ seeded 0 13
    -- order 9 of document 02: chain A's second task with the least bound that a phase keeps, and one less; the same with a gap of 5; a task at two places; a task and a chain that are not there; and a period above 10,000
    ∷ phase_is (phase_from (schedule_a 0 0) 1 2 18) ∷ phase_is (phase_from (schedule_a 0 0) 1 2 17) ∷ phase_is (phase_from (schedule_a 9 5) 1 2 23) ∷ phase_is (phase_from (schedule_a 9 5) 1 2 22)
    ∷ phase_is (phase_from twice 1 3 43) ∷ phase_is (phase_from twice 1 3 42) ∷ phase_is (phase_from twice 1 3 33) ∷ phase_is (phase_from twice 1 3 32)
    ∷ phase_is (phase_from (schedule_a 0 0) 1 3 18) ∷ phase_is (phase_from (schedule_a 0 0) 2 3 18) ∷ phase_is (phase_from long 1 1 0) ∷ phase_is (phase_from long 1 3 0)
    -- order 10 of document 02: making with the greatest latencies as bounds, and one less; each of those calls, what it leaves, and a commit where no proposal stands
    ∷ refusal_is (make_of (bounded 0 18 12 9)).refusal ∷ bounds_in made ∷ refusal_is (make_of (bounded 0 17 12 9)).refusal ∷ bounds_in (make_of (bounded 0 17 12 9)).state
    ∷ refusal_is first.refusal ∷ first.latencies ∷ bounds_in first.state ∷ refusal_is second.refusal ∷ second.latencies ∷ bounds_in second.state
    ∷ refusal_is other.refusal ∷ bounds_in other.state ∷ refusal_is committed.refusal ∷ bounds_in committed.state ∷ refusal_is (commit_of committed.state (bounded 1 20 12 9)).refusal
    -- D
    ∷ warm D ∷ number_is (delay_of D 90) ∷ number_is (delay_of D 89)
    -- E: no place, 13 places, H at its limit and above
    ∷ number_is (verdict_of (chain_with [] 0)) ∷ number_is (verdict_of (chain_with [] 13))
    ∷ number_is (verdict_of (E 768)) ∷ number_is (verdict_of (E 769))
    ∷ []

-- What the documents say, in the same order; the warm-ups of chain C with a gap follow from order 5, chain A with gap 7 from orders 5 and 6, the histograms of A and B from order 7, the chains of seeds from order 8, the phases from order 9 and the state's bounds from order 10, which do not name them.
abbrev pub said : List (List ℕ)
said =
    (0 ∷ 12 ∷ 0 ∷ 0 ∷ 1 ∷ [])
    ∷ (0 ∷ 8 ∷ []) ∷ (18 ∷ 16 ∷ []) ∷ (0 ∷ 8 ∷ []) ∷ (18 ∷ 16 ∷ [])
    ∷ (3 ∷ 2 ∷ [])
    ∷ (0 ∷ 18 ∷ []) ∷ (0 ∷ 11 ∷ []) ∷ (0 ∷ 16 ∷ []) ∷ (0 ∷ 13 ∷ []) ∷ (0 ∷ 18 ∷ [])
    ∷ (0 ∷ 18 ∷ []) ∷ (0 ∷ 11 ∷ []) ∷ (0 ∷ 16 ∷ [])
    ∷ (0 ∷ 13 ∷ []) ∷ (0 ∷ 18 ∷ [])
    ∷ (0 ∷ 12 ∷ []) ∷ (0 ∷ 17 ∷ []) ∷ (0 ∷ 10 ∷ []) ∷ (0 ∷ 15 ∷ [])
    ∷ (0 ∷ 10 ∷ []) ∷ (0 ∷ 336 ∷ 24 ∷ []) ∷ (0 ∷ 18 ∷ [])
    ∷ (0 ∷ 0 ∷ []) ∷ (0 ∷ 4 ∷ [])
    ∷ (0 ∷ 11 ∷ []) ∷ (1 ∷ [])
    ∷ (0 ∷ 2 ∷ 3 ∷ []) ∷ (1 ∷ 3 ∷ []) ∷ (1 ∷ 1 ∷ 2 ∷ [])
    ∷ (0 ∷ 0 ∷ 1 ∷ [])
    ∷ (0 ∷ 2 ∷ 1 ∷ []) ∷ (2 ∷ 2 ∷ 2 ∷ [])
    ∷ (5 ∷ []) ∷ (13 ∷ []) ∷ (12 ∷ 0 ∷ [])
    ∷ (0 ∷ []) ∷ (15 ∷ []) ∷ (0 ∷ []) ∷ (15 ∷ [])
    ∷ (0 ∷ []) ∷ (20 ∷ []) ∷ (0 ∷ []) ∷ (20 ∷ [])
    ∷ (0 ∷ 5 ∷ 0 ∷ 0 ∷ 2 ∷ []) ∷ (0 ∷ 5 ∷ 0 ∷ 0 ∷ 201 ∷ []) ∷ (5 ∷ 0 ∷ [])
    ∷ (0 ∷ 1 ∷ 18 ∷ 18 ∷ []) ∷ (0 ∷ 2 ∷ 20 ∷ 8 ∷ 12 ∷ []) ∷ (0 ∷ 1 ∷ 26 ∷ 26 ∷ []) ∷ (0 ∷ 2 ∷ 27 ∷ 8 ∷ 12 ∷ [])
    ∷ (17 ∷ 0 ∷ []) ∷ (17 ∷ 0 ∷ []) ∷ (17 ∷ 0 ∷ [])
    ∷ (0 ∷ 0 ∷ 0 ∷ 0 ∷ 6 ∷ 6 ∷ []) ∷ (0 ∷ 6 ∷ 0 ∷ 0 ∷ 6 ∷ []) ∷ (0 ∷ 12 ∷ []) ∷ (0 ∷ 0 ∷ 0 ∷ 0 ∷ 0 ∷ 0 ∷ 0 ∷ 0 ∷ 0 ∷ 0 ∷ 0 ∷ 0 ∷ 0 ∷ 1 ∷ 1 ∷ 2 ∷ 2 ∷ 2 ∷ 2 ∷ 1 ∷ 1 ∷ 0 ∷ [])
    ∷ (0 ∷ 0 ∷ 12 ∷ 0 ∷ []) ∷ (18 ∷ 0 ∷ 7 ∷ 7 ∷ []) ∷ (14 ∷ 0 ∷ 7 ∷ 7 ∷ [])
    ∷ (0 ∷ 0 ∷ 0 ∷ 4 ∷ 4 ∷ 2 ∷ [])
    ∷ (0x9E3779B843248F67 ∷ 0x3C6EF37286491ECF ∷ 0xDAA66D2DC893AE67 ∷ []) ∷ (2500 ∷ 5000 ∷ 5000 ∷ 10000 ∷ 10000 ∷ 20000 ∷ 20000 ∷ 40000 ∷ 40000 ∷ 80000 ∷ 80000 ∷ [])
    ∷ (0 ∷ 3 ∷ 10000 ∷ 8591 ∷ 10000 ∷ 7183 ∷ 40000 ∷ 26767 ∷ []) ∷ (10000 ∷ 10000 ∷ 40000 ∷ []) ∷ (0 ∷ 4 ∷ 10000 ∷ 8782 ∷ 20000 ∷ 46 ∷ 80000 ∷ 34910 ∷ 20000 ∷ 7822 ∷ [])
    ∷ (0 ∷ 1 ∷ 2500 ∷ 307 ∷ []) ∷ (0 ∷ 4 ∷ 10000 ∷ 8588 ∷ 10000 ∷ 7176 ∷ 40000 ∷ 26764 ∷ 40000 ∷ 34352 ∷ [])
    ∷ (0 ∷ 40000 ∷ []) ∷ (8 ∷ 0 ∷ 0 ∷ []) ∷ (8 ∷ 0 ∷ 0 ∷ [])
    ∷ (0 ∷ 0 ∷ []) ∷ (1 ∷ []) ∷ (0 ∷ 0 ∷ []) ∷ (1 ∷ [])
    ∷ (0 ∷ 0 ∷ []) ∷ (0 ∷ 5 ∷ []) ∷ (0 ∷ 5 ∷ []) ∷ (1 ∷ [])
    ∷ (19 ∷ 0 ∷ []) ∷ (16 ∷ 0 ∷ []) ∷ (20 ∷ 0 ∷ []) ∷ (19 ∷ 0 ∷ [])
    ∷ (0 ∷ 0 ∷ []) ∷ (18 ∷ 12 ∷ 0 ∷ 0 ∷ 0 ∷ 0 ∷ 0 ∷ 0 ∷ 0 ∷ []) ∷ (21 ∷ 0 ∷ []) ∷ (0 ∷ 0 ∷ 0 ∷ 0 ∷ 0 ∷ 0 ∷ 0 ∷ 0 ∷ 0 ∷ [])
    ∷ (0 ∷ 0 ∷ []) ∷ (20 ∷ 12 ∷ 0 ∷ 0 ∷ []) ∷ (18 ∷ 12 ∷ 0 ∷ 0 ∷ 1 ∷ 20 ∷ 12 ∷ 0 ∷ 0 ∷ []) ∷ (21 ∷ 0 ∷ []) ∷ (0 ∷ 0 ∷ 0 ∷ 0 ∷ []) ∷ (18 ∷ 12 ∷ 0 ∷ 0 ∷ 1 ∷ 20 ∷ 12 ∷ 0 ∷ 0 ∷ [])
    ∷ (23 ∷ 0 ∷ []) ∷ (18 ∷ 12 ∷ 0 ∷ 0 ∷ 1 ∷ 20 ∷ 12 ∷ 0 ∷ 0 ∷ []) ∷ (0 ∷ 0 ∷ []) ∷ (20 ∷ 12 ∷ 0 ∷ 0 ∷ 0 ∷ 0 ∷ 0 ∷ 0 ∷ 0 ∷ []) ∷ (22 ∷ 0 ∷ [])
    ∷ (0 ∷ 10 ∷ 90 ∷ 9 ∷ 0 ∷ []) ∷ (0 ∷ 16 ∷ []) ∷ (12 ∷ 0 ∷ [])
    ∷ (8 ∷ 0 ∷ []) ∷ (8 ∷ 0 ∷ [])
    ∷ (0 ∷ 60000000 ∷ []) ∷ (7 ∷ 0 ∷ [])
    ∷ []
