-- Document 01, "Refusals, call by call": a refusal gives its number and a place. Positions count from 1, byte offsets from 0,
-- and the place is 0 where document 01 names none.
use Rattle.std.specs.Prelude.{ℕ, ◌+◌, ◌*◌}
use Rattle.refusal.specs.declared.Refusal.{Refusal}

abbrev pub refusal : ℕ → ℕ → Refusal
refusal number place = record { number = number; place = place }

-- A success beside figures that document 01 has in one answer with the refusal: no number and no place.
abbrev pub none : Refusal
none = refusal 0 0

-- The refusal as one number: the number and 256 times the place.
abbrev pub code_of : Refusal → ℕ
code_of r = r.number + 256 * r.place
