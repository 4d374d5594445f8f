-- Order 8 of document 02: the chain that a seed and a number of places make.
use Rattle.std.specs.Prelude.{ℕ, zero, suc, ◌+◌, ◌/◌, ◌%◌, ◌^◌, cond, ◌&&◌, List, [], ◌∷◌, ◌==◌, bit_xor, nat_le, Ok, Err, Result}
use Rattle.refusal.specs.declared.Refusal.{Refusal}
use Rattle.refusal.specs.Refusals.{refusal}
use Rattle.task.specs.declared.Task.{Task}
use Rattle.chain.specs.declared.Chain.{Chain}
use Rattle.chain.specs.Chains.{zero_task}
use Rattle.schedule.specs.Schedules.{padded}
use Rattle.load.specs.declared.Draw.{Draw}
use Rattle.load.specs.declared.DrawnTask.{DrawnTask}

-- "Each draw sets s to s + 9E3779B97F4A7C15 (hexadecimal) modulo 2^64
abbrev pub step_of : ℕ → ℕ
step_of s = (s + 0x9E3779B97F4A7C15) % 2 ^ 64

-- and gives s xor (s shifted right by 31)." The seed itself is no draw.
abbrev pub mix_of : ℕ → ℕ
mix_of s = bit_xor s (s / 2 ^ 31)

unfoldable pub draw_of : ℕ → Draw
draw_of s = record { state = step_of s; value = mix_of (step_of s) }

-- "a first draw modulo 97 picks the period in µs: 0 is 2,500; 1 to 10 is 5,000; 11 to 43 is 10,000; 44 to 58 is 20,000; 59 to 81 is 40,000; 82 to 96 is 80,000."
unfoldable pub period_of : ℕ → ℕ
period_of x = cond (x == 0) 2500 (cond (nat_le x 10) 5000 (cond (nat_le x 43) 10000 (cond (nat_le x 58) 20000 (cond (nat_le x 81) 40000 80000))))

abbrev pub drawn_period : ℕ → ℕ
drawn_period s = period_of ((draw_of s).value % 97)

-- "A second draw modulo the period is the phase; duration equals period".
abbrev pub task_of : ℕ → Task
task_of s = record { period = drawn_period s; duration = drawn_period s; phase = (draw_of (draw_of s).state).value % drawn_period s }

unfoldable pub drawn_task : ℕ → DrawnTask
drawn_task s = record { task = task_of s; state = (draw_of (draw_of s).state).state }

-- "For each place": one s runs through the draws of all places.
unfoldable pub tasks_from : ℕ → ℕ → List Task
tasks_from s zero = []
tasks_from s (suc n) = (drawn_task s).task ∷ tasks_from (drawn_task s).state n

-- As an array of twelve: zeros past the places.
abbrev pub array_from : ℕ → ℕ → List Task
array_from seed places = padded 12 zero_task (tasks_from seed places)

-- "gap 0."
abbrev pub loaded : ℕ → ℕ → Chain
loaded seed places = record { tasks = array_from seed places; places = places; gap = 0 }

-- "Places outside 1 to 12 are 8."
unfoldable pub load_of : ℕ → ℕ → Result Chain Refusal
load_of seed places = cond (nat_le 1 places && nat_le places 12) (Ok (loaded seed places)) (Err (refusal 8 0))
