-- What holds of every well-formed table, said of its two lists, g and H.
use Rattle.std.specs.Prelude.{◌≡◌, List, ℕ, ◌+◌, ◌-◌, ◌*◌, ◌%◌, ◌≤◌, ◌<◌, get_or}
use Rattle.std.proofs.Common.{◌∙◌, mod-eq_of_lt, arith}
use Rattle.std.proofs.Math.Decide.{dec_lt}
use Rattle.table.specs.Anchors.{anchors, first_start}
use Rattle.table.specs.WellFormed.{next_start, WellFormed}
use Rattle.table.specs.Reading.{delay_at}
use Rattle.table.specs.Figures.{greatest, low}
use Rattle.table.specs.Segments.{Formed, delay_again}
use Rattle.table.specs.GreatestDelay.{GreatestFrom, greatest_delay}
use Rattle.table.specs.LowDelay.{Nears, low_delay}
use Rattle.table.specs.Places.{first_at, next_inner, next_last}
use Rattle.table.specs.BothWays.{well_formed_laws}
use Rattle.table.specs.Delays.{LastStart, rises, delay_place}

module _ (s v : List ℕ) (g H : ℕ) (w : WellFormed s v g H) where
  laws : Formed H (anchors s v g)
  laws = well_formed_laws s v g H w

  pub first_start_holds : first_start (anchors s v g) ≡ get_or s 0 0
  first_start_holds = first_at s v g w.fits (omega arith) w.some

  -- the delay repeats every H ticks
  pub repeats : (t k : ℕ) → get_or s 0 0 ≤ t → delay_at H (anchors s v g) (t + k * H) ≡ delay_at H (anchors s v g) t
  repeats = rw first_start_holds at (delay_again H (anchors s v g) laws)

  -- no next start lies past first start + H
  next_within : (i : ℕ) → i < g → next_start s g (get_or s 0 0 + H) i ≤ get_or s 0 0 + H
  next_within i h = elim (dec_lt (i + 1) g) [
    | yes k ↦ rw (next_inner s g (get_or s 0 0 + H) i k) (omega (arith, w.below (i + 1) k))
    | no k ↦ rw (next_last s g (get_or s 0 0 + H) i (omega arith)) (omega arith)
  ]

  -- the segment law by places: from the start at place i to the next start the delays fall by one from its latency
  pub falls : (i k : ℕ) → i < g → k < next_start s g (get_or s 0 0 + H) i - get_or s i 0 → delay_at H (anchors s v g) (get_or s i 0 + k) ≡ get_or v i 0 - k
  falls i k h d =
      let z : 0 + i ≡ i = omega arith in
      let f : get_or s 0 0 ≤ get_or s i 0 = rw z at (rises s v g H w i 0 (omega arith)) in
      let e : (get_or s i 0 + k - get_or s 0 0) % H ≡ get_or s i 0 + k - get_or s 0 0 = mod-eq_of_lt (omega (arith, next_within i h)) in
      let u : get_or s 0 0 + (get_or s i 0 + k - get_or s 0 0) % H ≡ get_or s i 0 + k = omega arith in
      delay_place s v g H w (get_or s i 0 + k) i (rw u here) ∙ omega arith
    where
      here : LastStart s g (get_or s i 0 + k) i
      here = record { inside = h; here = omega arith; next = λ n. omega (arith, next_inner s g (get_or s 0 0 + H) i n) }

  -- the greatest latency is the greatest delay of all time
  pub greatest_of_all : GreatestFrom (delay_at H (anchors s v g)) (get_or s 0 0) (greatest (anchors s v g))
  greatest_of_all = rw first_start_holds at (greatest_delay H (anchors s v g) laws)

  -- low is the limit that the delay nears and never reaches
  pub low_of_all : Nears (delay_at H (anchors s v g)) (get_or s 0 0) (low H (anchors s v g))
  low_of_all = rw first_start_holds at (low_delay H (anchors s v g) laws)
