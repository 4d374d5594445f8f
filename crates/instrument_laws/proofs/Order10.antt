-- The laws of the machine of specs/Order10 over lists of its calls, proved here once; Calls carries them to the instrument's own.
use Rattle.std.specs.Prelude.{◌≡◌, Bool, cond, eqb}
use Rattle.std.proofs.Math.Path.{refl, ap, subst}
use Rattle.std.proofs.Common.{sym, ◌∙◌, true≢false}
use Rattle.std.proofs.Math.Bool.{true, false}
use mathlib.Core.List.{List, [], ◌∷◌}
use borrow.Author.Tests.{eqb-true}
use Rattle.refusal.specs.declared.Refusal.{Refusal}
use Rattle.refusal.specs.Refusals.{refusal, none}
use Rattle.instrument_laws.specs.Machine.{run, run_keeps, last_or, choice}
use Rattle.instrument_laws.specs.Order10.{Askable, Proposal, nothing, standing, State, Call, ask, commit, fine, commit_fault, refused_for, after, next, commits, Passed, PassedProposal, Holds}

module _ (a : Askable) where
  -- ---- laws

  -- "the running one is that of the last commit not refused, or the first"
  pub running_last : (s : State a.P) (l : List (Call a.P)) → (run (next a) s l).running ≡ last_or s.running ((commits a) s l)
  unfolding run commits last_or next
  running_last s [] = refl
  running_last s (ask p ∷ l) = running_last ((next a) s (ask p)) l ∙ ap (λ (x : a.P). last_or x ((commits a) ((next a) s (ask p)) l)) (stays (fine ((refused_for a) s (ask p))))
    where
      stays : (b : Bool) → (cond b ((after a) s (ask p)) s).running ≡ s.running
      stays true = refl
      stays false = refl
  running_last s (commit p ∷ l) = go (fine ((refused_for a) s (commit p))) (running_last ((next a) s (commit p)) l)
    where
      go : (b : Bool) → (run (next a) (cond b ((after a) s (commit p)) s) l).running ≡ last_or (cond b ((after a) s (commit p)) s).running ((commits a) (cond b ((after a) s (commit p)) s) l)
          → (run (next a) (cond b ((after a) s (commit p)) s) l).running
          ≡ last_or s.running (cond b (p ∷ (commits a) (cond b ((after a) s (commit p)) s) l) ((commits a) (cond b ((after a) s (commit p)) s) l))
      go true k = k
      go false k = k

  -- A commit that is not refused names the proposal.
  pub names_proposal : (q : Proposal a.P) (p : a.P) → fine ((commit_fault a) q p) ≡ true → q ≡ standing p
  unfolding commit_fault
  names_proposal nothing p h = absurd (true≢false (sym h))
  names_proposal (standing q) p h = go (a.same p q) refl h
    where
      go : (b : Bool) → a.same p q ≡ b → fine (cond b none (refusal 23 0)) ≡ true → standing q ≡ standing p
      go true e h = ap standing (sym (a.same_equal p q e))
      go false e h = absurd (true≢false (sym h))

  -- so what it names passed
  named : (q : Proposal a.P) (p : a.P) → fine ((commit_fault a) q p) ≡ true → (PassedProposal a) q → (Passed a) p
  unfolding PassedProposal
  named q p h k = subst (PassedProposal a) (names_proposal q p h) k

  holds_next : (s : State a.P) (c : Call a.P) → (Holds a) s → (Holds a) ((next a) s c)
  unfolding next refused_for PassedProposal
  holds_next s (ask p) h = choice (Holds a) (fine (a.fault p)) _ _ (λ u. record { running = h.running; proposal = eqb-true (a.fault p).number 0 u }) (λ u. h)
  holds_next s (commit p) h = choice (Holds a) (fine ((commit_fault a) s.proposal p)) _ _ (λ u. record { running = named s.proposal p u h.proposal; proposal = tt }) (λ u. h)

  -- "and meets its own bounds": after every list of calls from a state in which only what passes an ask runs, only such runs.
  pub running_passed : (p : a.P) → (Passed a) p → (l : List (Call a.P)) → (Passed a) (run (next a) (record { running = p; proposal = nothing }) l).running
  unfolding PassedProposal
  running_passed p h l = (run_keeps (next a) (Holds a) holds_next (record { running = p; proposal = nothing }) l (record { running = h; proposal = tt })).running

  -- The same of what is proposed.
  pub proposal_passed : (p : a.P) → (Passed a) p → (l : List (Call a.P)) → (PassedProposal a) (run (next a) (record { running = p; proposal = nothing }) l).proposal
  unfolding PassedProposal
  proposal_passed p h l = (run_keeps (next a) (Holds a) holds_next (record { running = p; proposal = nothing }) l (record { running = h; proposal = tt })).proposal

  -- An ask that is not refused can be committed at once.
  pub ask_commit : (s : State a.P) (p : a.P) → fine ((refused_for a) s (ask p)) ≡ true → (refused_for a) ((next a) s (ask p)) (commit p) ≡ none
  unfolding next refused_for commit_fault
  ask_commit s p h = rw (h, a.same_self p)
