-- The calls of the instrument in lists, by their own definitions (ask_of, commit_of in instrument/specs/Instrument), and that they are those of the machine of Order10: a refusal is the same (`call_refusal`), and so is the state
-- that follows, seen as that machine's (`call_state`).
use Rattle.std.specs.Prelude.{ℕ, ◌≡◌, refl, Bool, true, false, cond, List, [], ◌∷◌, eqb}
use Rattle.std.proofs.Common.{sym, ap, ◌∙◌}
use Rattle.refusal.specs.declared.Refusal.{Refusal}
use Rattle.refusal.specs.Refusals.{refusal, none}
use Rattle.bounded.specs.declared.Bounded.{Bounded}
use Rattle.bounded.specs.Bounded.{cleared, same_bounded}
use Rattle.bounded.proofs.SameLaws.{same_equal, same_self}
use Rattle.promises.specs.Promises.{judged_of}
use Rattle.instrument.specs.declared.Side.{Side}
use Rattle.instrument.specs.declared.State.{State}
use Rattle.instrument.specs.Instrument.{runs, proposes, passes, ask_of, commit_refusal, commit_of}
use Rattle.instrument_laws.specs.Machine.{run}
use Rattle.instrument_laws.specs.Order10 as machine
use Rattle.instrument_laws.proofs.Order10 as laws
use Rattle.instrument_laws.specs.Order10.{Askable, Proposal, fine}
use Rattle.instrument_laws.specs.Order10.{nothing, standing, refused_for, commit_fault, after, next}

-- A call, with the schedule and bounds as the caller gives them.
pub data Call : Type 0 where
  ask : Bounded → Call
  commit : Bounded → Call

-- What it is refused for,
unfoldable pub refusal_of : State → Call → Refusal
refusal_of s (ask b) = (ask_of s (cleared b)).refusal
refusal_of s (commit b) = (commit_of s (cleared b)).refusal

-- and the state that it hands back.
unfoldable pub state_after : State → Call → State
state_after s (ask b) = (ask_of s (cleared b)).state
state_after s (commit b) = (commit_of s (cleared b)).state

-- What it answers beside the state: the refusal, and the latencies of an ask.
pub record Answer : Type 0 where
  pub refusal : Refusal
  pub latencies : List ℕ

unfoldable pub answer_of : State → Call → Answer
answer_of s (ask b) = record { refusal = (ask_of s (cleared b)).refusal; latencies = (ask_of s (cleared b)).latencies }
answer_of s (commit b) = record { refusal = (commit_of s (cleared b)).refusal; latencies = [] }

-- The state after a list of calls, each made with the state that the one before handed back.
abbrev pub after_all : State → List Call → State
after_all = run state_after

-- What the calls of a list are answered, in order.
unfoldable pub answers_of : State → List Call → List Answer
answers_of s [] = []
answers_of s (c ∷ l) = answer_of s c ∷ answers_of (state_after s c) l

-- What the commits of a list that are not refused name, in order.
unfoldable pub commits_of : State → List Call → List Bounded
commits_of s [] = []
commits_of s (ask b ∷ l) = commits_of (state_after s (ask b)) l
commits_of s (commit b ∷ l) = cond (fine (refusal_of s (commit b))) (cleared b ∷ commits_of (state_after s (commit b)) l) (commits_of (state_after s (commit b)) l)

-- What the last ask of a list that is not refused names, where no commit that is not refused follows it, and else nothing; q is what was asked for before.
unfoldable pub asked_of : Proposal Bounded → State → List Call → Proposal Bounded
asked_of q s [] = q
asked_of q s (ask b ∷ l) = asked_of (cond (fine (refusal_of s (ask b))) (standing (cleared b)) q) (state_after s (ask b)) l
asked_of q s (commit b ∷ l) = asked_of (cond (fine (refusal_of s (commit b))) nothing q) (state_after s (commit b)) l

-- ---- the instrument as the machine of Order10

abbrev pub askable : Askable
askable = record {
  P = Bounded;
  fault = λ (b : Bounded). (judged_of b).refusal;
  same = same_bounded;
  same_equal = same_equal;
  same_self = same_self;
}

-- A proposal, where one stands.
abbrev pub proposal_of : Side → Proposal Bounded
proposal_of d = cond (eqb d.stands 0) nothing (standing d.proposal)

abbrev pub view : State → machine.State Bounded
view s = record { running = s.running; proposal = proposal_of s.firmware }

abbrev pub call_of : Call → machine.Call Bounded
call_of (ask b) = machine.ask (cleared b)
call_of (commit b) = machine.commit (cleared b)

commit_fault_holds : (s : State) (p : Bounded) → commit_fault askable (proposal_of s.firmware) p ≡ commit_refusal s p
unfolding commit_fault commit_refusal
commit_fault_holds s p = go (eqb s.firmware.stands 0)
  where
    go : (b : Bool) → commit_fault askable (cond b nothing (standing s.firmware.proposal)) p ≡ cond b (refusal 22 0) (cond (same_bounded p s.firmware.proposal) none (refusal 23 0))
    go true = refl
    go false = refl

pub call_refusal : (s : State) (c : Call) → refused_for askable (view s) (call_of c) ≡ refusal_of s c
unfolding refused_for refusal_of ask_of commit_of
call_refusal s (ask b) = refl
call_refusal s (commit b) = commit_fault_holds s (cleared b)

pub call_state : (s : State) (c : Call) → view (state_after s c) ≡ next askable (view s) (call_of c)
unfolding next refused_for state_after ask_of commit_of
call_state s (ask b) = go (passes (cleared b))
  where
    go : (x : Bool) → view (cond x (proposes s (cleared b)) s) ≡ cond x (after askable (view s) (machine.ask (cleared b))) (view s)
    go true = refl
    go false = refl
call_state s (commit b) =
    go (fine (commit_refusal s (cleared b))) ∙ ap (λ (r : Refusal). cond (fine r) (after askable (view s) (machine.commit (cleared b))) (view s)) (sym (commit_fault_holds s (cleared b)))
  where
    go : (x : Bool) → view (cond x (runs (cleared b)) s) ≡ cond x (after askable (view s) (machine.commit (cleared b))) (view s)
    go true = refl
    go false = refl
