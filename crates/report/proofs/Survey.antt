-- Document 01, "Survey examples", with the mean by area of order 3 of document 02: the report of chain A's file, and of chain C's with gap 1 (order 5), computed from the definitions.
use Rattle.std.specs.Prelude.{ℕ, ◌≡◌, refl, List, [], ◌∷◌}
use Rattle.task.specs.Jobs.{within_limits}
use Rattle.task.specs.Links.{earliest_from, latest_over, forward_link, backward_link}
use Rattle.euclid.specs.Divisor.{euclid, gcd_of, lcm_of}
use Rattle.little_endian.specs.LittleEndian.{value_of, number_at}
use Rattle.chain.specs.Chains.{forward_by, on_latest, backward_by}
use Rattle.chain.specs.Checks.{first_fault, hyper_verdict, after_gap, verdict_for}
use Rattle.chain.specs.Hyperperiod.{hyper_from}
use Rattle.schedule.specs.Schedules.{task_rule, position_of, known, task_numbered, padded, route_numbered}
use Rattle.file_reader.specs.Reading.{numbers_from, all_known, task_record, chain_record, gap_record, end_record, kind_record, record_of, after_record, read_from}
use Rattle.ranges.specs.Least.{least_from}
use Rattle.timing.specs.WarmUp.{warm_last, warm_at, warm_tick}
use Rattle.partition.specs.Lists.{range_from, keep, fresh, drop_repeats}
use Rattle.partition.specs.Partitions.{start_of, end_of, keeps, anchors_from}
use Rattle.table.specs.Anchors.{anchors}
use Rattle.table.specs.Reading.{last_at, delay_at}
use Rattle.table.specs.Figures.{greatest, low_to, low}
use Rattle.figures.specs.Ticks.{total}
use Rattle.figures.specs.Figures.{delay_sum, doubled_area}
use Rattle.maker.specs.Making.{judged, made_after, written_after}
use Rattle.text.specs.Text.{ascii, last_digits, decimal, fields, line}
use Rattle.table_text.specs.TableText.{anchor_lines, head_text, mean_text, figures_text, text_of_table}
use Rattle.latency.specs.LongestPlace.{longest_period, longest_place}
use Rattle.report.specs.Report.{made_text, chain_text, part_text, parts_text, schedule_text, file_text, report_of}

-- Chain A, tasks 1 and 2 in a file of 48 bytes.
abbrev pub file_a : List ℕ
file_a =
    18 ∷ 0 ∷ 1 ∷ 0 ∷ 1 ∷ 0 ∷ 4 ∷ 0 ∷ 0 ∷ 0 ∷ 4 ∷ 0 ∷ 0 ∷ 0 ∷ 0 ∷ 0 ∷ 0 ∷ 0
    ∷ 18 ∷ 0 ∷ 1 ∷ 0 ∷ 2 ∷ 0 ∷ 6 ∷ 0 ∷ 0 ∷ 0 ∷ 6 ∷ 0 ∷ 0 ∷ 0 ∷ 0 ∷ 0 ∷ 0 ∷ 0
    ∷ 8 ∷ 0 ∷ 2 ∷ 0 ∷ 1 ∷ 0 ∷ 2 ∷ 0
    ∷ 4 ∷ 0 ∷ 3 ∷ 0 ∷ []

-- Chain C with gap 1: task 1 at both places, in a file of 36 bytes.
abbrev pub file_c : List ℕ
file_c =
    18 ∷ 0 ∷ 1 ∷ 0 ∷ 1 ∷ 0 ∷ 5 ∷ 0 ∷ 0 ∷ 0 ∷ 5 ∷ 0 ∷ 0 ∷ 0 ∷ 0 ∷ 0 ∷ 0 ∷ 0
    ∷ 8 ∷ 0 ∷ 2 ∷ 0 ∷ 1 ∷ 0 ∷ 1 ∷ 0
    ∷ 6 ∷ 0 ∷ 4 ∷ 0 ∷ 1 ∷ 0
    ∷ 4 ∷ 0 ∷ 3 ∷ 0 ∷ []

pub reports : (report_of file_a ∷ report_of file_c ∷ []) ≡
    ascii "chain 1\nwarm 0\nhyper 12\nanchors 2\na 0 18\na 8 16\nmax 18\nlow 10\nmean 336 24\nwalked 2\n"
    ∷ ascii "chain 1\nwarm 0\nhyper 5\nanchors 1\na 0 20\nmax 20\nlow 15\nmean 175 10\nwalked 1\n"
    ∷ []
unfolding within_limits earliest_from latest_over forward_link backward_link euclid gcd_of lcm_of value_of number_at forward_by on_latest backward_by first_fault hyper_verdict after_gap verdict_for hyper_from task_rule position_of known task_numbered padded route_numbered numbers_from all_known task_record chain_record gap_record end_record kind_record record_of after_record read_from least_from warm_last warm_at warm_tick range_from keep fresh drop_repeats start_of end_of keeps anchors_from anchors last_at delay_at greatest low_to low total delay_sum doubled_area judged made_after written_after last_digits decimal fields line longest_period longest_place anchor_lines head_text mean_text figures_text text_of_table made_text chain_text part_text parts_text schedule_text file_text
reports = refl
