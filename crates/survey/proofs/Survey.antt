-- The computed answers of specs/Survey are those that the documents say.
use Rattle.std.specs.Prelude.{ℕ, zero, suc, ◌+◌, ◌-◌, ◌≡◌, refl, List, [], ◌∷◌, ◌++◌, map, length, take, replicate}
use Rattle.task.specs.declared.Task.{Task}
use Rattle.task.specs.declared.Job.{Job}
use Rattle.task.specs.Jobs.{within_limits}
use Rattle.task.specs.Links.{earliest_from, latest_over, forward_link, backward_link}
use Rattle.euclid.specs.Divisor.{euclid, gcd_of, lcm_of}
use Rattle.chain.specs.declared.Chain.{Chain}
use Rattle.chain.specs.Chains.{tasks_of, zero_task, forward_by, on_latest, backward_by}
use Rattle.chain.specs.Flat.{flat_of}
use Rattle.chain.specs.Hyperperiod.{hyper_from}
use Rattle.chain.specs.Checks.{first_fault, hyper_verdict, after_gap, verdict_for, verdict_of}
use Rattle.timing.specs.declared.WarmUp.{WarmUp}
use Rattle.ranges.specs.Least.{least_from}
use Rattle.timing.specs.WarmUp.{warm_last, warm_at, warm_tick}
use Rattle.timing.specs.Delay.{delay_at, first_aged, age_at}
use Rattle.ranges.specs.Entries.{entries, sum}
use Rattle.timing.specs.Answers.{warm_up_after, warm_up_of, span_after, delay_of, age_of}
use Rattle.table.specs.Anchors.{anchors}
use Rattle.table.specs.WellFormed.{spaced, well_formed}
use Rattle.table.specs.Reading as read
use Rattle.table.specs.Figures.{greatest, low_to, low}
use Rattle.figures.specs.Ticks.{total, every_above, longest_run, ticks}
use Rattle.figures.specs.Figures.{delay_sum, doubled_area, exceedance, greatest_of, low_of, mean_of, exceedance_of}
use Rattle.histogram.specs.Histogram.{histogram_of, counts_of}
use Rattle.partition.specs.Lists.{range_from, keep, fresh, drop_repeats}
use Rattle.partition.specs.Partitions.{start_of, end_of, keeps, anchors_from}
use Rattle.maker.specs.Making.{judged, made_after, made_of, written_after, written_of, starts_of, latencies_of, told}
use Rattle.ranges.specs.Largest.{largest}
use Rattle.windows.specs.Windows.{span_of, misses, misses_in, window_of, most_misses, earliest_job, windows_after, windows_of}
use Rattle.windows.specs.Windows as windows-of
use Rattle.schedule.specs.Schedules.{padded}
use Rattle.latency.specs.Latency.{greatest_latency}
use Rattle.sections.specs.declared.Sections.{Sections}
use Rattle.sections.specs.Sections as sections
use Rattle.load.specs.Load as load
use Rattle.schedule.specs.declared.NumberedTask.{NumberedTask}
use Rattle.schedule.specs.declared.Schedule.{Schedule}
use Rattle.schedule.specs.Schedules.{task_rule, known, task_numbered, route_numbered, schedule_of}
use Rattle.schedule_checks.specs.Checks as schedule-checks
use Rattle.refusal.specs.declared.Refusal.{Refusal}
use Rattle.phase.specs.Phases.{phase_after, phase_from}
use Rattle.bounded.specs.declared.Bounded.{Bounded}
use Rattle.bounded.specs.Bounded.{cleared, pairwise, same_task, same_route, same_schedule, same_bounded}
use Rattle.promises.specs.Promises.{hyper_refusal, checks_of, judged_of}
use Rattle.instrument.specs.declared.State.{State}
use Rattle.instrument.specs.declared.Asked.{Asked}
use Rattle.instrument.specs.declared.Committed.{Committed}
use Rattle.instrument.specs.Instrument.{make_of, ask_of, commit_refusal, commit_of}
use Rattle.survey.specs.Survey.{computed, said}

pub survey : computed ≡ said
unfolding computed within_limits earliest_from latest_over forward_link backward_link euclid gcd_of lcm_of forward_by on_latest backward_by hyper_from first_fault hyper_verdict after_gap verdict_for least_from warm_last warm_at warm_tick delay_at first_aged age_at entries warm_up_after span_after anchors spaced well_formed read.reading read.delay_at read.last_at greatest low_to low total every_above longest_run ticks delay_sum doubled_area exceedance greatest_of low_of mean_of exceedance_of range_from keep fresh drop_repeats start_of end_of keeps anchors_from judged made_after written_after span_of misses misses_in largest most_misses earliest_job windows_after padded sections.parts_from sections.rises_to sum sections.sections_after greatest_latency histogram_of counts_of load.draw_of load.period_of load.drawn_task load.tasks_from load.load_of flat_of task_rule known task_numbered route_numbered schedule-checks.count_right schedule-checks.places_right schedule-checks.counts_right schedule-checks.first_fault schedule-checks.first_unknown schedule-checks.unknown_place schedule-checks.after_gap schedule-checks.fault_of schedule-checks.choice_of schedule-checks.after_choice phase_after pairwise same_task same_route same_schedule same_bounded hyper_refusal checks_of judged_of make_of ask_of commit_refusal commit_of
survey = refl
