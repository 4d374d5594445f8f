-- Order 10 of document 02 as a machine, of any things that can be asked for: one that runs, and at most one proposal. The laws over lists of its calls are proved here once; Calls carries them to the instrument's own.
use Rattle.std.specs.Prelude.{◌≡◌, Bool, cond, eqb}
use Rattle.std.proofs.Math.Path.{refl, ap, subst}
use Rattle.std.proofs.Common.{sym, ◌∙◌, true≢false}
use Rattle.std.proofs.Math.Bool.{true, false}
use mathlib.Core.List.{List, [], ◌∷◌}
use borrow.Author.Tests.{eqb-true}
use Rattle.refusal.specs.declared.Refusal.{Refusal}
use Rattle.refusal.specs.Refusals.{refusal, none}
use Rattle.instrument_laws.specs.Machine.{run, run_keeps, last_or, choice}

-- What can be asked for, P; what an ask refuses of it, number 0 where nothing; and when a commit names what was proposed.
pub record Askable : Type 1 where
  pub P : Type 0
  pub fault : P → Refusal
  pub same : P → P → Bool
  pub same_equal : (p q : P) → same p q ≡ true → p ≡ q
  pub same_self : (p : P) → same p p ≡ true

pub data Proposal (P : Type 0) : Type 0 where
  nothing : Proposal P
  standing : P → Proposal P

pub record State (P : Type 0) : Type 0 where
  pub running : P
  pub proposal : Proposal P

pub data Call (P : Type 0) : Type 0 where
  ask : P → Call P
  commit : P → Call P

-- No refusal: number 0.
abbrev pub fine : Refusal → Bool
fine r = eqb r.number 0

module _ (a : Askable) where
  -- 22 where no proposal stands, 23 where another one is named.
  unfoldable pub commit_fault : Proposal a.P → a.P → Refusal
  commit_fault nothing p = refusal 22 0
  commit_fault (standing q) p = cond (a.same p q) none (refusal 23 0)

  -- What a call is refused for.
  unfoldable pub refused_for : State a.P → Call a.P → Refusal
  refused_for s (ask p) = a.fault p
  refused_for s (commit p) = commit_fault s.proposal p

  -- What an unrefused call leaves: an ask keeps a proposal, a commit makes it run and clears it.
  abbrev pub after : State a.P → Call a.P → State a.P
  after s (ask p) = record { running = s.running; proposal = standing p }
  after s (commit p) = record { running = p; proposal = nothing }

  unfoldable pub next : State a.P → Call a.P → State a.P
  next s c = cond (fine (refused_for s c)) (after s c) s

  -- The commits of a list that are not refused, in order.
  unfoldable pub commits : State a.P → List (Call a.P) → List a.P
  commits s [] = []
  commits s (ask p ∷ l) = commits (next s (ask p)) l
  commits s (commit p ∷ l) = cond (fine (refused_for s (commit p))) (p ∷ commits (next s (commit p)) l) (commits (next s (commit p)) l)

  -- What runs, and what is proposed, passed an ask.
  abbrev pub Passed : a.P → Type 0
  Passed p = (a.fault p).number ≡ 0

  unfoldable pub PassedProposal : Proposal a.P → Type 0
  PassedProposal nothing = Unit
  PassedProposal (standing p) = Passed p

  pub record Holds (s : State a.P) : Type 0 where
    pub running : Passed s.running
    pub proposal : PassedProposal s.proposal
