-- Order 10 of document 02: how C makes a schedule with bounds. The calls on the state have the definitions of instrument/specs/Instrument.
use Rattle.std.specs.Prelude.{ℕ, List}
use Rattle.schedule.specs.declared.Schedule.{Schedule}
use Rattle.bounded.specs.declared.Bounded.{Bounded}

-- A schedule and the bound of each chain, in their order.
abbrev pub bounded_from : Schedule → List ℕ → Bounded
bounded_from s bounds = record { schedule = s; bounds = bounds }
