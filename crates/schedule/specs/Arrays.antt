-- The arrays of a schedule have their lengths, as every value of the type has.
use Rattle.std.specs.Prelude.{ℕ, ◌<◌, ◌≡◌, length, get_or}
use Rattle.schedule.specs.declared.Schedule.{Schedule}
use Rattle.schedule.specs.Schedules.{no_route}

pub record Arrays (s : Schedule) : Type 0 where
  pub tasks : length s.tasks ≡ 32
  pub routes : length s.routes ≡ 4
  pub places : (i : ℕ) → i < 4 → length (get_or s.routes i no_route).places ≡ 12
