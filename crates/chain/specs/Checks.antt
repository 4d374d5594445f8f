-- Document 01, "Refusals, call by call", with order 5 of document 02: the checks 8, 5 and 7 of a chain to be analysed. A chain is accepted where none of them refuses it.
use Rattle.std.specs.Prelude.{ℕ, zero, suc, ◌+◌, ◌≤◌, ◌<◌, ◌≡◌, cond, ◌&&◌, List, [], ◌∷◌, leb, length, Err, Ok, Result, None, Option, Some}
use Rattle.refusal.specs.declared.Refusal.{Refusal}
use Rattle.refusal.specs.Refusals.{refusal}
use Rattle.task.specs.declared.Task.{Task}
use Rattle.task.specs.declared.Place.{Place}
use Rattle.task.specs.Jobs.{within_limits, gap_limit, Limited}
use Rattle.chain.specs.declared.Chain.{Chain}
use Rattle.chain.specs.Chains.{given_of, placed, tasks_of, at}
use Rattle.chain.specs.Hyperperiod.{hyper_of}

-- The lowest position whose task has a value outside its limits, the first task of the list standing at position p; 0 where there is none.
unfoldable pub first_fault : ℕ → List Task → ℕ
first_fault p [] = 0
first_fault p (a ∷ l) = cond (within_limits a) (first_fault (p + 1) l) p

-- A position, or none where it is 0.
abbrev pub found : ℕ → Option ℕ
found zero = None
found (suc p) = Some (suc p)

-- 5 at that position, or else v.
abbrev pub after_fault : ℕ → Result ℕ Refusal → Result ℕ Refusal
after_fault zero v = v
after_fault (suc p) v = Err (refusal 5 (suc p))

-- 7 where H is above its limit, or else the chain is accepted.
unfoldable pub hyper_verdict : List Place → Result ℕ Refusal
hyper_verdict l = cond (leb (hyper_of l) 60000000) (Ok (hyper_of l)) (Err (refusal 7 0))

-- Order 5: a gap above 1,000 is refused as 5 at place 0, or else v.
unfoldable pub after_gap : ℕ → Result ℕ Refusal → Result ℕ Refusal
after_gap g v = cond (leb g gap_limit) v (Err (refusal 5 0))

-- 8, places not 1 to 12; 5, lowest position, and after the tasks the gap; 7, H above its limit. n is the number of places, g the gap, l holds the tasks at the places.
unfoldable pub verdict_for : ℕ → ℕ → List Task → Result ℕ Refusal
verdict_for n g l =
    cond (leb 1 n && leb n 12)
    (after_fault (first_fault 1 l) (after_gap g (hyper_verdict (placed g l))))
    (Err (refusal 8 0))

abbrev pub verdict_of : Chain → Result ℕ Refusal
verdict_of c = verdict_for c.places c.gap (given_of c)

-- The same of a gap and a list of tasks, one for each place.
abbrev pub verdict_in : ℕ → List Task → Result ℕ Refusal
verdict_in g l = verdict_for (length l) g l

-- What 8 and 5 leave of the tasks at the places, as facts.
pub record Sound (l : List Place) : Type 0 where
  pub some : 1 ≤ length l
  pub few : length l ≤ 12
  pub each : (p : ℕ) → p < length l → Limited (at l p)

-- The same of a chain, whose count is that of its list.
pub record Checked (c : Chain) : Type 0 where
  pub counted : length (tasks_of c) ≡ c.places
  pub sound : Sound (tasks_of c)
