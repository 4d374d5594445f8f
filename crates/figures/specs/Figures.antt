-- Document 01, "Figures of a table", and order 3 of document 02: mean and longest exceedance of a list of anchors, and what each call answers.
-- 14 is the one refusal. Greatest latency and low are in the table's own Figures.
use Rattle.std.specs.Prelude.{cond, List, ℕ, ◌-◌, ◌*◌, Err, Ok, Result}
use Rattle.figures.specs.declared.Exceedance.TheVariants.{Endless, Run}
use Rattle.refusal.specs.declared.Refusal.{Refusal}
use Rattle.figures.specs.declared.Throughput.{Throughput}
use Rattle.figures.specs.declared.Mean.{Mean}
use Rattle.figures.specs.declared.Exceedance.{Exceedance}
use Rattle.refusal.specs.Refusals.{refusal}
use Rattle.table.specs.Anchors.{Anchor, anchors, first_start}
use Rattle.table.specs.WellFormed.{well_formed}
use Rattle.table.specs.Reading.{delay_at}
use Rattle.table.specs.Figures.{greatest, low}
use Rattle.figures.specs.Ticks.{total, every_above, longest_run}

-- The sum of the delays at whole ticks, the H ticks from first start.
unfoldable pub delay_sum : ℕ → List Anchor → ℕ
delay_sum H l = total (delay_at H l) (first_start l) H

-- Mean by area, the first of its two numbers: twice the sum at whole ticks less H. That it is twice the area under the delay, which falls
-- within each tick, is `mean_of_all` in FinerTable. The second is twice H.
unfoldable pub doubled_area : ℕ → List Anchor → ℕ
doubled_area H l = 2 * delay_sum H l - H

-- Longest exceedance of B: endless where each of the H ticks from first start has a delay above B, else the longest run in two
-- hyperperiods from first start. That this is the longest run without end of time is `exceedance_run` in Exceeding, and that endless
-- means every delay of all time is `exceedance_endless` there.
unfoldable pub exceedance : ℕ → ℕ → List Anchor → Exceedance
exceedance B H l =
    cond (every_above B (delay_at H l) (first_start l) H)
    Endless
    (Run (longest_run B (delay_at H l) (first_start l) (2 * H)))

-- A mean and a throughput as the calls answer them: two numbers each.
abbrev pub mean_by : ℕ → ℕ → Result Mean Refusal
mean_by area ticks = Ok (record { doubled_area = area; doubled_ticks = ticks })

abbrev pub anchors_in : ℕ → ℕ → Result Throughput Refusal
anchors_in count ticks = Ok (record { anchors = count; ticks = ticks })

-- What the calls answer.
unfoldable pub greatest_of : List ℕ → List ℕ → ℕ → ℕ → Result ℕ Refusal
greatest_of starts latencies g H =
    cond (well_formed starts latencies g H)
    (Ok (greatest (anchors starts latencies g)))
    (Err (refusal 14 0))

unfoldable pub low_of : List ℕ → List ℕ → ℕ → ℕ → Result ℕ Refusal
low_of starts latencies g H =
    cond (well_formed starts latencies g H)
    (Ok (low H (anchors starts latencies g)))
    (Err (refusal 14 0))

unfoldable pub mean_of : List ℕ → List ℕ → ℕ → ℕ → Result Mean Refusal
mean_of starts latencies g H =
    cond (well_formed starts latencies g H)
    (mean_by (doubled_area H (anchors starts latencies g)) (2 * H))
    (Err (refusal 14 0))

-- Throughput: g anchors in H ticks.
unfoldable pub throughput_of : List ℕ → List ℕ → ℕ → ℕ → Result Throughput Refusal
throughput_of starts latencies g H =
    cond (well_formed starts latencies g H) (anchors_in g H) (Err (refusal 14 0))

unfoldable pub exceedance_of : List ℕ → List ℕ → ℕ → ℕ → ℕ → Result Exceedance Refusal
exceedance_of starts latencies g H B =
    cond (well_formed starts latencies g H)
    (Ok (exceedance B H (anchors starts latencies g)))
    (Err (refusal 14 0))
