-- Document 02, order 10: the instrument's state and what the calls on it answer. Each call is said of a schedule with bounds that has zeros past its counts (`cleared`, bounded/specs/Bounded); the contracts say that what is
-- given is taken so. What holds over all lists of calls is said in instrument_laws.
use Rattle.std.specs.Prelude.{ℕ, Bool, cond, eqb}
use Rattle.refusal.specs.declared.Refusal.{Refusal}
use Rattle.refusal.specs.Refusals.{refusal, none}
use Rattle.bounded.specs.declared.Bounded.{Bounded}
use Rattle.bounded.specs.Bounded.{zero_bounded, same_bounded}
use Rattle.promises.specs.Promises.{judged_of}
use Rattle.instrument.specs.declared.Side.{Side}
use Rattle.instrument.specs.declared.State.{State}
use Rattle.instrument.specs.declared.MadeState.{MadeState}
use Rattle.instrument.specs.declared.Asked.{Asked}
use Rattle.instrument.specs.declared.Committed.{Committed}

-- "The instrument's state holds the running schedule, its bound for each chain, and at most one proposal."

abbrev pub no_proposal : Side
no_proposal = record { proposal = zero_bounded; stands = 0 }

-- What runs, with no proposal.
abbrev pub runs : Bounded → State
runs b = record { running = b; firmware = no_proposal }

-- A proposal "in place of an earlier one".
abbrev pub proposes : State → Bounded → State
proposes s b = record { running = s.running; firmware = record { proposal = b; stands = 1 } }

abbrev pub zero_state : State
zero_state = runs zero_bounded

-- Nothing is refused of a schedule with bounds.
abbrev pub passes : Bounded → Bool
passes b = eqb (judged_of b).refusal.number 0

-- "Making a state takes a schedule with bounds and refuses what an ask would refuse, then handing back a state of zeros."
unfoldable pub make_of : Bounded → MadeState
make_of b = record { state = cond (passes b) (runs b) zero_state; refusal = (judged_of b).refusal }

-- "Ask takes a schedule with bounds, gives the greatest latencies, and keeps it as the proposal in place of an earlier one." What is refused is what the judge refuses; "A refused call alters neither."
unfoldable pub ask_of : State → Bounded → Asked
ask_of s b = record { state = cond (passes b) (proposes s b) s; refusal = (judged_of b).refusal; latencies = (judged_of b).latencies }

-- "commit makes no other checks than 22 if no proposal stands, and then 23 if schedule or bounds differ from it, faulty ones included."
unfoldable pub commit_refusal : State → Bounded → Refusal
commit_refusal s b = cond (eqb s.firmware.stands 0) (refusal 22 0) (cond (same_bounded b s.firmware.proposal) none (refusal 23 0))

-- "Commit names the schedule and bounds again and makes them run, clearing the proposal."
unfoldable pub commit_of : State → Bounded → Committed
commit_of s b = record { state = cond (eqb (commit_refusal s b).number 0) (runs b) s; refusal = commit_refusal s b }

abbrev pub commit_refused : State → ℕ → Committed
commit_refused s n = record { state = s; refusal = refusal n 0 }
