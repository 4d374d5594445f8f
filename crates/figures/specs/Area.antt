-- Twice the area under the delay, anchor by anchor. That it is had so is said in proofs/Area.
use Rattle.std.specs.Prelude.{ℕ, ◌+◌, ◌-◌, ◌*◌}

-- Twice the area of an anchor with latency v over d ticks: source 002, equation 26.
abbrev pub area : ℕ → ℕ → ℕ
area d v = d * (v + (v - d))

abbrev pub add_area : ℕ → ℕ → ℕ → ℕ
add_area z d v = z + area d v
