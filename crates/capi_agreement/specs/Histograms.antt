-- mo_histogram beside mo_greatest, of any table: with latency / width + 1 entries none lies beyond the list.
use Rattle.std.specs.Prelude.{ℕ, ◌+◌, ◌/◌, ◌≡◌, List, length, get_or}
use Rattle.std.proofs.Common.{ap, ◌∙◌}
use Rattle.table.specs.Anchors.{anchors}
use Rattle.table.specs.Figures.{greatest}
use Rattle.figures.specs.Figures.{greatest_of}
use Rattle.capi_figures.specs.Calls.{GivesGreatest}
use Rattle.capi_histogram.specs.Calls.{GivesHistogram}
use Rattle.capi_histogram.specs.EveryTable.{formed, rest_none}

pub long_enough_for_c : (s v : List ℕ) (g h width : ℕ) (counts list : List ℕ) (code rest : ℕ) → GivesHistogram s v g h width counts list code rest → code ≡ 0
    → (code' latency : ℕ) → GivesGreatest s v g h code' latency → length counts ≡ latency / width + 1 → rest ≡ 0
unfolding greatest_of
long_enough_for_c s v g h width counts list code rest gives fine code' latency top long =
    let e : latency ≡ greatest (anchors s v g) = ap (λ (l : List ℕ). get_or l 1 0) (rw (formed s v g h width counts list code rest gives fine) at top) in
    rest_none s v g h width counts list code rest gives fine (long ∙ ap (λ (x : ℕ). x / width + 1) e)
