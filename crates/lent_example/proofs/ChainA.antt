-- What making gives for document 01's chain A, lent as a list and cut at place 1, in two lists of three entries: computed from the definitions.
use Rattle.std.specs.Prelude.{Ok, Result}
use Prim.Native.Nat.{ℕ}
use mathlib.Core.Path.{◌≡◌, refl, ap, ◌∙◌}
use mathlib.Core.List.{List, [], ◌∷◌}
use Rattle.maker.specs.declared.Unmade.{Unmade}
use Rattle.maker.specs.declared.Figures.{Figures}
use Rattle.task.specs.declared.Task.{Task}
use Rattle.task.specs.Jobs.{within_limits}
use Rattle.task.specs.Links.{earliest_from, latest_over, forward_link, backward_link}
use Rattle.euclid.specs.Divisor.{euclid, gcd_of, lcm_of}
use Rattle.chain.specs.Chains.{forward_by, on_latest, backward_by}
use Rattle.chain.specs.Checks.{first_fault, hyper_verdict, after_gap, verdict_for}
use Rattle.chain.specs.Hyperperiod.{hyper_from}
use Rattle.ranges.specs.Least.{least_from}
use Rattle.timing.specs.WarmUp.{warm_last, warm_at, warm_tick}
use Rattle.partition.specs.Lists.{range_from, keep, fresh, drop_repeats}
use Rattle.partition.specs.Partitions.{start_of, end_of, keeps, anchors_from}
use Rattle.schedule.specs.Schedules.{padded}
use Rattle.table.specs.Anchors.{Anchor}
use Rattle.maker.specs.Making.{judged, made_after, written_after, made_of, written_of, starts_of, latencies_of, overlay, Makes}
use Rattle.lent_chain.specs.LentList.{chain_of_list}

abbrev pub chain_a : List Task
chain_a = record { period = 4; duration = 4; phase = 0 } ∷ record { period = 6; duration = 6; phase = 0 } ∷ []

-- g 2, x0 0, H 12, walked 3,
abbrev pub whole_a : Result Figures Unmade
whole_a = Ok (record { anchors = 2; tick = record { 0 = 0 }; hyperperiod = 12; walked = 3 })

pub made_of_a : made_of (chain_of_list 0 chain_a) 1 3 3 ≡ whole_a
unfolding chain_of_list padded judged made_after verdict_for after_gap first_fault hyper_verdict within_limits hyper_from lcm_of gcd_of euclid warm_tick warm_at warm_last least_from backward_by on_latest forward_by forward_link backward_link latest_over earliest_from range_from keep fresh drop_repeats start_of end_of keeps anchors_from
made_of_a = refl

-- and the anchors (0, 18), (8, 16).
pub anchors_of_a : written_of (chain_of_list 0 chain_a) 1 3 3 ≡ record { start = 0; latency = 18 } ∷ record { start = 8; latency = 16 } ∷ []
unfolding chain_of_list padded judged written_after verdict_for after_gap first_fault hyper_verdict within_limits hyper_from lcm_of gcd_of euclid warm_at warm_last least_from backward_by on_latest forward_by forward_link backward_link latest_over earliest_from range_from keep fresh drop_repeats start_of end_of keeps anchors_from
anchors_of_a = refl

-- So making answers that, and leaves that in two lists of three entries each.
pub leaves_of_a : (starts latencies : List ℕ) (r : Result Figures Unmade) → Makes (chain_of_list 0 chain_a) 1 (7 ∷ 7 ∷ 7 ∷ []) (9 ∷ 9 ∷ 9 ∷ []) starts latencies r
    → (r ≡ whole_a) × (starts ≡ 0 ∷ 8 ∷ 7 ∷ []) × (latencies ≡ 18 ∷ 16 ∷ 9 ∷ [])
leaves_of_a starts latencies r m = (
  m.answer ∙ made_of_a,
  m.leaves_starts ∙ ap (λ (x : List Anchor). overlay (starts_of x) (7 ∷ 7 ∷ 7 ∷ [])) anchors_of_a,
  m.leaves_latencies ∙ ap (λ (x : List Anchor). overlay (latencies_of x) (9 ∷ 9 ∷ 9 ∷ [])) anchors_of_a,
)
