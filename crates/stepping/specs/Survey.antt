-- States on the way of a making, computed from the definitions: X is (3, 2, 1), (7, 5, 2), (4, 4, 0) and Y, whose durations are above its periods, (10, 25, 0), (4, 9, 3), (6, 30, 1).
use Rattle.std.specs.Prelude.{ℕ, ◌+◌, ◌-◌, ◌/◌, ◌≡◌, refl, List, [], ◌∷◌, ◌++◌, map}
use Rattle.task.specs.declared.Place.{Place}
use Rattle.task.specs.Links.{earliest_from, latest_over, forward_link, backward_link}
use Rattle.chain.specs.Chains.{at, forward_by, on_latest, backward_by}
use Rattle.ranges.specs.Least.{least_from}
use Rattle.timing.specs.WarmUp.{warm_last, warm_at}
use Rattle.partition.specs.Lists.{range_from}
use Rattle.partition.specs.Partitions.{start_of, end_of}
use Rattle.stepping.specs.Moves.{place_job, moves_in}

abbrev task : ℕ → ℕ → ℕ → Place
task t d f = record { period = t; duration = d; phase = f; gap = 0 }

abbrev X : List Place
X = task 3 2 1 ∷ task 7 5 2 ∷ task 4 4 0 ∷ []

abbrev Y : List Place
Y = task 10 25 0 ∷ task 4 9 3 ∷ task 6 30 1 ∷ []

-- At job m of the second place: the jobs of the three places, the start and the end.
abbrev state : List Place → ℕ → List ℕ
state l m = map (place_job l 1 m) (0 ∷ 1 ∷ 2 ∷ []) ++ (start_of l 1 m ∷ end_of l 1 m ∷ [])

-- Over the hyperperiod h, cut at p: how many jobs each place gains, and how often its job moves.
abbrev gained : List Place → ℕ → ℕ → List ℕ
gained l h p = map (λ i. place_job l p (warm_at l p + h / (at l p).period) i - place_job l p (warm_at l p) i) (0 ∷ 1 ∷ 2 ∷ [])

abbrev moves : List Place → ℕ → ℕ → List ℕ
moves l h p = map (λ i. moves_in (λ m. place_job l p m i) (warm_at l p) (h / (at l p).period)) (0 ∷ 1 ∷ 2 ∷ [])

unfoldable pub computed : List (List ℕ)
computed =
    map (state X) (range_from 1 6) ++ map (state Y) (range_from 6 6)
    ++ (gained X 84 0 ∷ gained X 84 1 ∷ gained X 84 2 ∷ moves X 84 0 ∷ moves X 84 1 ∷ moves X 84 2 ∷ [])
    ++ (gained Y 60 0 ∷ gained Y 60 1 ∷ gained Y 60 2 ∷ moves Y 60 0 ∷ moves Y 60 1 ∷ moves Y 60 2 ∷ [])

abbrev pub said : List (List ℕ)
said =
    (2 ∷ 1 ∷ 6 ∷ 7 ∷ 28 ∷ [])
    ∷ (4 ∷ 2 ∷ 7 ∷ 13 ∷ 32 ∷ [])
    ∷ (6 ∷ 3 ∷ 9 ∷ 19 ∷ 40 ∷ [])
    ∷ (9 ∷ 4 ∷ 11 ∷ 28 ∷ 48 ∷ [])
    ∷ (11 ∷ 5 ∷ 13 ∷ 34 ∷ 56 ∷ [])
    ∷ (13 ∷ 6 ∷ 14 ∷ 40 ∷ 60 ∷ [])
    ∷ (0 ∷ 6 ∷ 7 ∷ 0 ∷ 73 ∷ [])
    ∷ (0 ∷ 7 ∷ 8 ∷ 0 ∷ 79 ∷ [])
    ∷ (1 ∷ 8 ∷ 8 ∷ 10 ∷ 79 ∷ [])
    ∷ (1 ∷ 9 ∷ 9 ∷ 10 ∷ 85 ∷ [])
    ∷ (1 ∷ 10 ∷ 10 ∷ 10 ∷ 91 ∷ [])
    ∷ (2 ∷ 11 ∷ 10 ∷ 20 ∷ 91 ∷ [])
    ∷ (28 ∷ 12 ∷ 21 ∷ [])
    ∷ (28 ∷ 12 ∷ 21 ∷ [])
    ∷ (28 ∷ 12 ∷ 21 ∷ [])
    ∷ (28 ∷ 12 ∷ 12 ∷ [])
    ∷ (12 ∷ 12 ∷ 12 ∷ [])
    ∷ (12 ∷ 12 ∷ 21 ∷ [])
    ∷ (6 ∷ 15 ∷ 10 ∷ [])
    ∷ (6 ∷ 15 ∷ 10 ∷ [])
    ∷ (6 ∷ 15 ∷ 10 ∷ [])
    ∷ (6 ∷ 6 ∷ 6 ∷ [])
    ∷ (6 ∷ 15 ∷ 10 ∷ [])
    ∷ (6 ∷ 10 ∷ 10 ∷ [])
    ∷ []

pub survey : computed ≡ said
unfolding computed earliest_from latest_over forward_link backward_link forward_by on_latest backward_by least_from warm_last warm_at start_of end_of place_job moves_in range_from
survey = refl
