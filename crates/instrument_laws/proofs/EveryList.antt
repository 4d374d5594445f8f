-- Order 10 of document 02 in the customer's words, of the calls themselves. "For every list of asks and commits from a state so made, the running one is that of the last commit not refused, or the first" (`running_made`,
-- from any state `running_last`), "and meets its own bounds" (`running_meets`, `running_delay`). "needs two steps": a commit that is not refused names what was asked for last (`two_steps`). "A refused call alters neither."
-- (`refused_same`). Making "refuses what an ask would refuse" (`make_as_ask`), "then handing back a state of zeros" (`refused_zeros`). What stands past a count is never seen again (`past_unseen`, `zeros_past`).
use Rattle.std.specs.Prelude.{ℕ, zero, suc, ◌≤◌, ◌<◌, ◌≡◌, ◌↔◌, Bool, true, false, cond, List, [], ◌∷◌, map, eqb, length, get_or}
use Rattle.std.proofs.Common.{arith, ◌∙◌}
use Rattle.std.proofs.Math.Path.{refl, sym, ap, subst}
use borrow.Author.Tests.{eq-eqb, ne_eqb, eqb-false}
use Rattle.refusal.specs.declared.Refusal.{Refusal}
use Rattle.refusal.specs.Refusals.{refusal, none}
use Rattle.chain.specs.Chains.{tasks_of}
use Rattle.schedule.specs.Schedules.{chain_at, padded, no_route}
use Rattle.timing.specs.WarmUp.{warm_tick}
use Rattle.timing.specs.Delay.{delay_at}
use Rattle.bounded.specs.declared.Bounded.{Bounded}
use Rattle.bounded.specs.Bounded.{cleared, zero_bounded, same_bounded}
use Rattle.bounded.specs.Cleared.{BoundedArrays, cleared_twice, cleared_lengths, Agree, agree_cleared, agree_exactly}
use Rattle.bounded.proofs.SameLaws.{same_exactly}
use Rattle.promises.specs.Promises.{judged_of}
use Rattle.promises.proofs.EveryChain.{MeetsBounds, meets_exactly, meets_delay, bound_of}
use Rattle.instrument.specs.declared.State.{State}
use Rattle.instrument.specs.Instrument.{runs, zero_state, passes, make_of, ask_of, commit_refusal, commit_of}
use Rattle.instrument_laws.specs.Machine.{run, All, run_keeps_of, run_view, last_or, choice}
use Rattle.instrument_laws.specs.Order10 as machine
use Rattle.instrument_laws.proofs.Order10 as laws
use Rattle.instrument_laws.specs.Order10.{Proposal, fine}
use Rattle.instrument_laws.specs.Order10.{nothing, standing, refused_for, next}
use Rattle.instrument_laws.proofs.Calls.{Call, ask, commit, refusal_of, state_after, Answer, answer_of, after_all, answers_of, commits_of, asked_of, askable, proposal_of, view, call_of, call_refusal, call_state}

-- ---- making a state

module _ (b : Bounded) where
  -- Making refuses exactly what an ask refuses, with the same number and place, whatever the state is.
  pub make_as_ask : (s : State) → (make_of (cleared b)).refusal ≡ (ask_of s (cleared b)).refusal
  unfolding make_of ask_of
  make_as_ask s = refl

  pub refused_zeros : ((make_of (cleared b)).refusal.number ≡ 0 → ⊥) → (make_of (cleared b)).state ≡ zero_state
  unfolding make_of
  refused_zeros h = rw (ne_eqb (judged_of (cleared b)).refusal.number 0 h)

  -- Else it runs, and no proposal stands.
  pub made_runs : (make_of (cleared b)).refusal.number ≡ 0 → (make_of (cleared b)).state ≡ runs (cleared b)
  unfolding make_of
  made_runs h = rw (eq-eqb (judged_of (cleared b)).refusal.number 0 h)

-- ---- one call

pub refused_same : (s : State) (c : Call) → ((refusal_of s c).number ≡ 0 → ⊥) → state_after s c ≡ s
unfolding refusal_of state_after ask_of commit_of
refused_same s (ask b) h = rw (ne_eqb (judged_of (cleared b)).refusal.number 0 h)
refused_same s (commit b) h = rw (ne_eqb (commit_refusal s (cleared b)).number 0 h)

-- A commit that is not refused makes what it names run, and no proposal stands.
pub commit_runs : (s : State) (b : Bounded) → (refusal_of s (commit b)).number ≡ 0 → state_after s (commit b) ≡ runs (cleared b)
unfolding refusal_of state_after commit_of
commit_runs s b h = rw (eq-eqb (commit_refusal s (cleared b)).number 0 h)

-- An ask that is not refused can be committed at once.
pub ask_commit : (s : State) (b : Bounded) → (refusal_of s (ask b)).number ≡ 0 → refusal_of (state_after s (ask b)) (commit b) ≡ none
ask_commit s b h =
    sym (call_refusal (state_after s (ask b)) (commit b)) ∙ ap (λ (v : machine.State Bounded). refused_for askable v (call_of (commit b))) (call_state s (ask b))
    ∙ laws.ask_commit askable (view s) (cleared b) (ap fine (call_refusal s (ask b)) ∙ eq-eqb (refusal_of s (ask b)).number 0 h)

-- ---- what runs, and what is proposed

-- the state after a list, as the machine's
seen : (s : State) (l : List Call) → view (after_all s l) ≡ run (next askable) (view s) (map call_of l)
seen s l = run_view state_after (next askable) view call_of call_state s l

-- the commits that are not refused are those of the machine
commits_are : (s : State) (l : List Call) → machine.commits askable (view s) (map call_of l) ≡ commits_of s l
unfolding machine.commits commits_of
commits_are s [] = refl
commits_are s (ask b ∷ l) = ap (λ (v : machine.State Bounded). machine.commits askable v (map call_of l)) (sym (call_state s (ask b))) ∙ commits_are (state_after s (ask b)) l
commits_are s (commit b ∷ l) =
    ap (λ (r : Refusal). choose (fine r) (machine.commits askable (next askable (view s) (call_of (commit b))) (map call_of l))) (call_refusal s (commit b))
    ∙ ap (choose (fine (refusal_of s (commit b)))) (ap (λ (v : machine.State Bounded). machine.commits askable v (map call_of l)) (sym (call_state s (commit b))) ∙ commits_are (state_after s (commit b)) l)
  where
    choose : Bool → List Bounded → List Bounded
    choose t r = cond t (cleared b ∷ r) r

-- From any state what runs is what the last commit not refused names, or what ran at first.
pub running_last : (s : State) (l : List Call) → (after_all s l).running ≡ last_or s.running (commits_of s l)
running_last s l = ap (λ (v : machine.State Bounded). v.running) (seen s l) ∙ laws.running_last askable (view s) (map call_of l) ∙ ap (last_or s.running) (commits_are s l)

-- what a call leaves proposed
call_proposal : (s : State) (c : Call) → proposal_of (state_after s c).firmware ≡ cond (fine (refusal_of s c)) (machine.after askable (view s) (call_of c)).proposal (proposal_of s.firmware)
unfolding next
call_proposal s c = ap (λ (v : machine.State Bounded). v.proposal) (call_state s c) ∙ ap (λ (r : Refusal). (cond (fine r) (machine.after askable (view s) (call_of c)) (view s)).proposal) (call_refusal s c) ∙ go (fine (refusal_of s c))
  where
    go : (b : Bool) → (cond b (machine.after askable (view s) (call_of c)) (view s)).proposal ≡ cond b (machine.after askable (view s) (call_of c)).proposal (proposal_of s.firmware)
    go true = refl
    go false = refl

-- What is proposed is what the last ask not refused names, where no commit that was not refused follows it.
pub proposal_last : (s : State) (l : List Call) → proposal_of (after_all s l).firmware ≡ asked_of (proposal_of s.firmware) s l
unfolding run asked_of
proposal_last s [] = refl
proposal_last s (ask b ∷ l) = proposal_last (state_after s (ask b)) l ∙ ap (λ (q : Proposal Bounded). asked_of q (state_after s (ask b)) l) (call_proposal s (ask b))
proposal_last s (commit b ∷ l) = proposal_last (state_after s (commit b)) l ∙ ap (λ (q : Proposal Bounded). asked_of q (state_after s (commit b)) l) (call_proposal s (commit b))

-- ---- entries past the counts

-- Two calls of one kind that name what agrees in all that counts.
pub AgreeCall : Call → Call → Type 0
AgreeCall (ask a) (ask b) = Agree a b
AgreeCall (ask a) (commit b) = ⊥
AgreeCall (commit a) (ask b) = ⊥
AgreeCall (commit a) (commit b) = Agree a b

pub AgreeAll : List Call → List Call → Type 0
AgreeAll [] [] = Unit
AgreeAll [] (d ∷ k) = ⊥
AgreeAll (c ∷ l) [] = ⊥
AgreeAll (c ∷ l) (d ∷ k) = (AgreeCall c d) × (AgreeAll l k)

agree_call : (s : State) (c d : Call) → AgreeCall c d → (answer_of s c ≡ answer_of s d) × (state_after s c ≡ state_after s d)
unfolding AgreeCall answer_of state_after
agree_call s (ask a) (ask b) e =
    let w = agree_cleared a b e in
    (ap (λ (p : Bounded). record { refusal = (ask_of s p).refusal; latencies = (ask_of s p).latencies }) w, ap (λ (p : Bounded). (ask_of s p).state) w)
agree_call s (ask a) (commit b) e = absurd e
agree_call s (commit a) (ask b) e = absurd e
agree_call s (commit a) (commit b) e =
    let w = agree_cleared a b e in
    (ap (λ (p : Bounded). record { refusal = (commit_of s p).refusal; latencies = [] }) w, ap (λ (p : Bounded). (commit_of s p).state) w)

-- Two lists of calls that agree so, and may differ in every entry past a count, are answered alike and leave the same state.
pub past_unseen : (s : State) (l k : List Call) → AgreeAll l k → (answers_of s l ≡ answers_of s k) × (after_all s l ≡ after_all s k)
unfolding AgreeAll answers_of run
past_unseen s [] [] e = (refl, refl)
past_unseen s [] (d ∷ k) e = absurd e
past_unseen s (c ∷ l) [] e = absurd e
past_unseen s (c ∷ l) (d ∷ k) e =
    let w = agree_call s c d e.0 in
    let r = past_unseen (state_after s d) l k e.1 in (
      ap (λ (x : Answer). x ∷ answers_of (state_after s c) l) w.0 ∙ ap (λ (x : State). answer_of s d ∷ answers_of x l) w.1 ∙ ap (λ (x : List Answer). answer_of s d ∷ x) r.0,
      ap (λ (x : State). after_all x l) w.1 ∙ r.1,
    )

-- ---- from a made state

-- The arrays of what a call names have their lengths, as every value of the type has.
abbrev pub Given : Call → Type 0
Given (ask b) = BoundedArrays b
Given (commit b) = BoundedArrays b

-- zeros past the counts, and lengths
pub record Tidy (b : Bounded) : Type 0 where
  pub zeros : cleared b ≡ b
  pub lengths : BoundedArrays b

tidy : (b : Bounded) → BoundedArrays b → Tidy (cleared b)
tidy b a = record { zeros = cleared_twice b a; lengths = cleared_lengths b a }

zero_places : (i : ℕ) → i < 4 → length (get_or zero_bounded.schedule.routes i no_route).places ≡ 12
zero_places zero h = refl
zero_places (suc zero) h = refl
zero_places (suc (suc zero)) h = refl
zero_places (suc (suc (suc zero))) h = refl
zero_places (suc (suc (suc (suc i)))) h = absurd (omega arith)

zero_tidy : Tidy zero_bounded
unfolding padded
zero_tidy = record { zeros = refl; lengths = record { schedule = record { tasks = refl; routes = refl; places = zero_places }; bounds = refl } }

pub record TidyState (s : State) : Type 0 where
  pub running : Tidy s.running
  pub proposal : Tidy s.firmware.proposal

tidy_next : (s : State) (c : Call) → Given c → TidyState s → TidyState (state_after s c)
unfolding state_after ask_of commit_of
tidy_next s (ask b) a h = choice TidyState (passes (cleared b)) _ _ (λ u. record { running = h.running; proposal = tidy b a }) (λ u. h)
tidy_next s (commit b) a h = choice TidyState (fine (commit_refusal s (cleared b))) _ _ (λ u. record { running = tidy b a; proposal = zero_tidy }) (λ u. h)

-- "23 if schedule or bounds differ from it": where zeros stand past the counts of the proposal, a commit is not refused exactly where a proposal stands and what is named agrees with it in all that counts.
pub commit_exactly : (s : State) (b : Bounded) → Tidy s.firmware.proposal → BoundedArrays b
    → ((refusal_of s (commit b)).number ≡ 0) ↔ ((s.firmware.stands ≡ 0 → ⊥) × Agree b s.firmware.proposal)
unfolding refusal_of commit_of commit_refusal
commit_exactly s b t a = (
  go (eqb s.firmware.stands 0) refl (same_bounded (cleared b) p) refl,
  λ w. let e : same_bounded (cleared b) p ≡ true = (same_exactly (cleared b) p).1 ((agree_exactly b p a t.lengths).0 w.1 ∙ t.zeros) in rw (ne_eqb s.firmware.stands 0 w.0, e),
)
  where
    p : Bounded
    p = s.firmware.proposal

    go : (x : Bool) → eqb s.firmware.stands 0 ≡ x → (y : Bool) → same_bounded (cleared b) p ≡ y → (cond x (refusal 22 0) (cond y none (refusal 23 0))).number ≡ 0
        → (s.firmware.stands ≡ 0 → ⊥) × Agree b p
    go true e y f h = absurd (omega arith)
    go false e true f h = (eqb-false s.firmware.stands 0 e, (agree_exactly b p a t.lengths).1 ((same_exactly (cleared b) p).0 f ∙ sym t.zeros))
    go false e false f h = absurd (omega arith)

module _ (b : Bounded) (made : (make_of (cleared b)).refusal.number ≡ 0) (l : List Call) where
  abbrev first : State
  first = (make_of (cleared b)).state

  -- "that of the last commit not refused, or the first"
  pub running_made : (after_all first l).running ≡ last_or (cleared b) (commits_of first l)
  running_made = running_last first l ∙ ap (λ (s : State). last_or s.running (commits_of first l)) (made_runs b made)

  -- "two steps": a commit that is not refused names what the last ask not refused named, and no commit that was not refused came between.
  pub two_steps : (c : Bounded) → (refusal_of (after_all first l) (commit c)).number ≡ 0 → asked_of nothing first l ≡ standing (cleared c)
  unfolding machine.refused_for
  two_steps c h =
      ap (λ (s : State). asked_of (proposal_of s.firmware) first l) (sym (made_runs b made)) ∙ sym (proposal_last first l)
      ∙ laws.names_proposal askable (proposal_of (after_all first l).firmware) (cleared c) (ap fine (call_refusal (after_all first l) (commit c)) ∙ eq-eqb (refusal_of (after_all first l) (commit c)).number 0 h)

  -- the state after the list, as the machine's from what was made
  after_made : view (after_all first l) ≡ run (next askable) (record { running = cleared b; proposal = nothing }) (map call_of l)
  after_made = ap (λ (s : State). view (after_all s l)) (made_runs b made) ∙ seen (runs (cleared b)) l

  -- What runs passes an ask,
  pub running_passed : (judged_of (after_all first l).running).refusal.number ≡ 0
  unfolding make_of
  running_passed = subst (λ (v : machine.State Bounded). (judged_of v.running).refusal.number ≡ 0) (sym after_made) (laws.running_passed askable (cleared b) made (map call_of l))

  -- and so does what is proposed.
  pub proposal_passed : machine.PassedProposal askable (proposal_of (after_all first l).firmware)
  unfolding make_of
  proposal_passed = subst (λ (v : machine.State Bounded). machine.PassedProposal askable v.proposal) (sym after_made) (laws.proposal_passed askable (cleared b) made (map call_of l))

  module _ (a : BoundedArrays b) (given : All Given l) where
    -- No entry past a count is anything but 0, in what runs and in what is proposed.
    pub zeros_past : TidyState (after_all first l)
    zeros_past = run_keeps_of state_after Given TidyState tidy_next first l given (subst TidyState (sym (made_runs b made)) (record { running = tidy b a; proposal = zero_tidy }))

    -- "meets its own bounds": it passes every check, and no chain's greatest latency is above its bound,
    pub running_meets : MeetsBounds (after_all first l).running
    running_meets = (meets_exactly (after_all first l).running zeros_past.running.lengths).0 running_passed

    -- so no press by any of its chains, from that chain's warm-up tick on, waits longer than the chain's bound.
    pub running_delay : (n : ℕ) → 1 ≤ n → n ≤ (after_all first l).running.schedule.chains → (t : ℕ) → warm_tick (tasks_of (chain_at (after_all first l).running.schedule n)) ≤ t
        → delay_at (tasks_of (chain_at (after_all first l).running.schedule n)) t ≤ bound_of (after_all first l).running n
    running_delay n low high t h = meets_delay (after_all first l).running zeros_past.running.lengths running_meets n low high t h
