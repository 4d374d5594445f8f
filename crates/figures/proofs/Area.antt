-- Mean by area: twice the sum of the delays at whole ticks, less H, is had tick by tick and anchor by anchor; and what keeps it small.
use Rattle.std.specs.Prelude.{◌≡◌, List, ℕ, zero, suc, ◌+◌, ◌-◌, ◌*◌, ◌≤◌, ◌<◌}
use Rattle.std.proofs.Common.{sym, ap, ◌∙◌, mul-le-mul_left, arith}
use Rattle.table.specs.Anchors.{Anchor, first_start}
use Rattle.table.specs.WellFormed.{latency_limit}
use Rattle.table.specs.Reading.{delay_at}
use Rattle.table.specs.Figures.{greatest}
use Rattle.table.specs.Segments.{Formed}
use Rattle.table.specs.GreatestDelay.{greatest_delay}
use Rattle.table.specs.LowDelay.{low_delay}
use Rattle.figures.specs.Area.{area, add_area}
use Rattle.figures.specs.Ticks.{ticks, total}
use Rattle.figures.specs.Figures.{delay_sum, doubled_area}
use Rattle.figures.specs.Folding.{adding, total_ticks}
use Rattle.figures.specs.ByAnchors.{segments, table_ticks}
use Rattle.figures.specs.Integral.{tick_area, tick_areas, falling}

-- ---- tick by tick

module _ (H : ℕ) (l : List Anchor) (f : Formed H l) where
  -- every delay is at least 1
  pub some_delay : (t : ℕ) → first_start l ≤ t → 1 ≤ delay_at H l t
  some_delay t k = omega (arith, (low_delay H l f).above t k)

  by_ticks : total (λ t. tick_area (delay_at H l t)) (first_start l) H + H ≡ 2 * delay_sum H l
  unfolding delay_sum
  by_ticks = tick_areas (delay_at H l) H (first_start l) (λ t k m. some_delay t k)

  pub area_ticks : doubled_area H l ≡ total (λ t. tick_area (delay_at H l t)) (first_start l) H
  unfolding doubled_area
  area_ticks = omega (arith, by_ticks)

  -- `less H` cuts nothing off
  pub area_whole : doubled_area H l + H ≡ 2 * delay_sum H l
  unfolding doubled_area
  area_whole = omega (arith, by_ticks)

-- ---- anchor by anchor

area_exact : (z d v : ℕ) → d < v → ticks (adding tick_area) (λ i. v - i) 0 d z ≡ add_area z d v
area_exact z d v h =
    let e : d * v ≡ d * (d + (v - d)) = ap (λ (x : ℕ). d * x) {x = v} {y = d + (v - d)} (omega arith) in
    total_ticks tick_area (λ i. v - i) d 0 z
    ∙ omega (arith, e, falling v d 0 (v - d) (omega arith), tick_areas (λ i. v - i) d 0 (λ i k l. omega arith))

-- Equation 26 of source 002: the sum over the anchors.
pub area_anchors : (H : ℕ) (l : List Anchor) → Formed H l → doubled_area H l ≡ segments add_area (first_start l + H) l 0
area_anchors H l f =
    area_ticks H l f ∙ sym (total_ticks tick_area (delay_at H l) H (first_start l) 0 ∙ omega arith)
    ∙ table_ticks (adding tick_area) add_area (λ z. Unit {0}) (λ z d v i. tt) (λ z d v i h. area_exact z d v h) H l f 0 tt

-- ---- no more than H times twice the greatest latency that may be

total_bound : (f : ℕ → ℕ) (b n s : ℕ) → ((t : ℕ) → s ≤ t → f t ≤ b) → total f s n ≤ n * b
unfolding total
total_bound f b zero s h = omega arith
total_bound f b (suc n) s h = omega (arith, h s (omega arith), total_bound f b n (suc s) (λ t k. h t (omega arith)))

pub area_bound : (H : ℕ) (l : List Anchor) → Formed H l → greatest l ≤ latency_limit → doubled_area H l ≤ H * (2 * latency_limit)
area_bound H l f k =
    rw (area_ticks H l f)
    (total_bound (λ t. tick_area (delay_at H l t)) (2 * latency_limit) H (first_start l) (λ t h. omega (arith, (greatest_delay H l f).bound t h)))

-- an anchor adds at most twice the latency's limit for each of its ticks
pub anchor_bound : (d v : ℕ) → d < v → v ≤ latency_limit → area d v ≤ d * (2 * latency_limit)
anchor_bound d v h k = mul-le-mul_left d (omega arith)
