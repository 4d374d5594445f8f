-- What the calls answer, one law for each return.
use Rattle.std.specs.Prelude.{ℕ, List, Ok, Err}
use mathlib.Core.Path.{◌≡◌, sym, ap, ◌∙◌}
use mathlib.Core.Bool.{Bool, true, false, cond}
use borrow.Author.Tests.{eq-eqb, ne_eqb}
use Rattle.refusal.specs.declared.Refusal.{Refusal}
use Rattle.refusal.specs.Refusals.{none}
use Rattle.bounded.specs.declared.Bounded.{Bounded}
use Rattle.bounded.specs.Bounded.{cleared, same_bounded}
use Rattle.promises.specs.Promises.{Judged, answered, refused_with, judged_of}
use Rattle.promises.proofs.Answered.{judged_kept, judged_refused}
use Rattle.instrument.specs.declared.State.{State}
use Rattle.instrument.specs.declared.MadeState.{MadeState}
use Rattle.instrument.specs.declared.Asked.{Asked}
use Rattle.instrument.specs.declared.Committed.{Committed}
use Rattle.instrument.specs.Instrument.{runs, proposes, zero_state, passes, make_of, ask_of, commit_refusal, commit_of, commit_refused}

-- ---- making and asking: p is what is judged

module _ (b p : Bounded) (is : p ≡ cleared b) where
  abbrev made : State → Judged → MadeState
  made x y = record { state = x; refusal = y.refusal }

  abbrev asked : State → Judged → Asked
  asked x y = record { state = x; refusal = y.refusal; latencies = y.latencies }

  module _ (r : Refusal) (judged : Err r ≡ answered (judged_of p)) where
    said : refused_with r ≡ judged_of p
    said = sym (judged_refused p r judged).0

    fails : passes p ≡ false
    fails = ne_eqb (judged_of p).refusal.number 0 (λ z. (judged_refused p r judged).1 (ap (λ (x : Judged). x.refusal.number) said ∙ z))

    pub make_refused : (x : State) → x ≡ zero_state → made x (refused_with r) ≡ make_of (cleared b)
    unfolding make_of
    make_refused x e = ap (λ (s : State). made s (refused_with r)) e ∙ ap (made zero_state) said ∙ ap (λ (t : Bool). made (cond t (runs p) zero_state) (judged_of p)) (sym fails) ∙ ap make_of is

    pub ask_refused : (s : State) → asked s (refused_with r) ≡ ask_of s (cleared b)
    unfolding ask_of
    ask_refused s = ap (asked s) said ∙ ap (λ (t : Bool). asked (cond t (proposes s p) s) (judged_of p)) (sym fails) ∙ ap (ask_of s) is

  module _ (l : List ℕ) (judged : Ok l ≡ answered (judged_of p)) where
    abbrev kept : Judged
    kept = record { refusal = none; latencies = l }

    told : kept ≡ judged_of p
    told = sym (judged_kept p l judged)

    passed : passes p ≡ true
    passed = eq-eqb (judged_of p).refusal.number 0 (ap (λ (x : Judged). x.refusal.number) (sym told))

    pub make_taken : (x : State) → x ≡ runs p → made x kept ≡ make_of (cleared b)
    unfolding make_of
    make_taken x e = ap (λ (s : State). made s kept) e ∙ ap (made (runs p)) told ∙ ap (λ (t : Bool). made (cond t (runs p) zero_state) (judged_of p)) (sym passed) ∙ ap make_of is

    pub ask_taken : (s x : State) → x ≡ proposes s p → asked x kept ≡ ask_of s (cleared b)
    unfolding ask_of
    ask_taken s x e = ap (λ (y : State). asked y kept) e ∙ ap (asked (proposes s p)) told ∙ ap (λ (t : Bool). asked (cond t (proposes s p) s) (judged_of p)) (sym passed) ∙ ap (ask_of s) is

-- ---- committing

module _ (s : State) (b : Bounded) where
  pub none_stands : (r : Committed) → r ≡ commit_refused s 22 → s.firmware.stands ≡ 0 → r ≡ commit_of s (cleared b)
  unfolding commit_of commit_refusal
  none_stands r e h = e ∙ rw (eq-eqb s.firmware.stands 0 h)

  module _ (h : s.firmware.stands ≡ 0 → ⊥) (p : Bounded) (is : p ≡ cleared b) (t : Bool) (test : t ≡ same_bounded p s.firmware.proposal) where
    refuses : t ≡ false → commit_refused s 23 ≡ commit_of s p
    unfolding commit_of commit_refusal
    refuses f = let w : same_bounded p s.firmware.proposal ≡ false = sym test ∙ f in rw (ne_eqb s.firmware.stands 0 h, w)

    pub other_named : t ≡ false → (r : Committed) → r ≡ commit_refused s 23 → r ≡ commit_of s (cleared b)
    other_named f r e = e ∙ refuses f ∙ ap (commit_of s) is

    takes : t ≡ true → record { state = runs p; refusal = none } ≡ commit_of s p
    unfolding commit_of commit_refusal
    takes f = let w : same_bounded p s.firmware.proposal ≡ true = sym test ∙ f in rw (ne_eqb s.firmware.stands 0 h, w)

    pub same_named : t ≡ true → (x : State) → x ≡ runs p → record { state = x; refusal = none } ≡ commit_of s (cleared b)
    same_named f x e = ap (λ (y : State). record { state = y; refusal = none }) e ∙ takes f ∙ ap (commit_of s) is
