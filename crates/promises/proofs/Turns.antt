-- The turns of the loops over the chains of a schedule, and the exits of the checks and of the judge.
use Rattle.std.specs.Prelude.{Err, Ok, Result}
use Prim.Native.Nat.{ℕ, suc, ◌+◌, ◌≤◌, ◌<◌}
use native.Mathlib.Omega.{arith}
use mathlib.Core.Path.{◌≡◌, sym, ap, ◌∙◌, subst}
use mathlib.Core.Bool.{Bool, true, false, cond}
use mathlib.Core.List.{List, ◌∷◌, map}
use lib.Dec.{leb}
use lib.ListN.{get_or, take, drop, set}
use borrow.Author.Tests.{eq-eqb, ne_eqb}
use Rattle.refusal.specs.declared.Refusal.{Refusal}
use Rattle.refusal.specs.Refusals.{refusal, none}
use Rattle.task.specs.declared.Place.{Place}
use Rattle.chain.specs.declared.Chain.{Chain}
use Rattle.chain.specs.Chains.{tasks_of}
use Rattle.chain.specs.Checks.{hyper_verdict, verdict_of}
use Rattle.chain.specs.Hyperperiod.{hyper_of}
use Rattle.chain.proofs.Front.{rest_cons, rest_end}
use Rattle.schedule.specs.declared.Schedule.{Schedule}
use Rattle.schedule.specs.Schedules.{tasks_in, no_route, chain_of, padded}
use Rattle.schedule.specs.Arrays.{Arrays}
use Rattle.schedule.specs.Padding.{store_more}
use Rattle.schedule_checks.specs.Checks.{fault_of, passed}
use Rattle.schedule_checks.proofs.Passed.{refused_passed}
use Rattle.schedule_checks.proofs.SoundSchedule.{SoundSchedule}
use Rattle.schedule_checks.proofs.SoundChain.{sound_chain}
use Rattle.latency.specs.Latency.{greatest_latency}
use Rattle.bounded.specs.declared.Bounded.{Bounded}
use Rattle.bounded.specs.Bounded.{pairwise}
use Rattle.bounded.specs.Cleared.{BoundedArrays}
use Rattle.promises.specs.Promises.{chains_of, hyper_refusal, checks_of, chain_latency, latencies_of, within_bounds, answered, refused_with, judged_of}
use Rattle.promises.proofs.EveryChain.{no_chain, chain_numbered, chain_there, chains_counted, checks_sound, checks_accepted, within_four}

-- ---- 7 chain by chain

is_seven : (l : List Place) (r : Refusal) → hyper_verdict l ≡ Err r → r ≡ refusal 7 0
unfolding hyper_verdict
is_seven l r e = go (leb (hyper_of l) 60000000) e
  where
    go : (t : Bool) → ◌≡◌ {A = Result ℕ Refusal} (cond t (Ok (hyper_of l)) (Err (refusal 7 0))) (Err r) → r ≡ refusal 7 0
    go true k = absurd cc
    go false k = cc

module _ (s : Schedule) (a : Arrays s) (k : SoundSchedule s) (i : ℕ) where
  abbrev cs : List Chain
  cs = chains_of s

  module _ (h : i < s.chains) (x : Chain) (here : x ≡ chain_of s.gap (tasks_in s) (get_or s.routes i no_route)) (v : Result ℕ Refusal) (is : v ≡ verdict_of x) where
    verdict_is_holds : v ≡ hyper_verdict (tasks_of (get_or cs i (no_chain s)))
    verdict_is_holds =
        is ∙ ap verdict_of (here ∙ chain_there s i h ∙ chain_numbered s i) ∙ sound_chain s a k (suc i) (omega arith) (omega arith)
        ∙ ap (λ (c : Chain). hyper_verdict (tasks_of c)) (sym (chain_numbered s i))

    rest : drop i cs ≡ get_or cs i (no_chain s) ∷ drop (i + 1) cs
    rest = rest_cons cs i (no_chain s) (omega (arith, chains_counted s a k.few_chains))

    pub turn_on : (n : ℕ) → v ≡ Ok n → hyper_refusal (drop i cs) ≡ hyper_refusal (drop (i + 1) cs)
    unfolding hyper_refusal
    turn_on n e = let w = sym verdict_is_holds ∙ e in rw (rest, w)

    turn_refused : (r : Refusal) → v ≡ Err r → hyper_refusal (drop i cs) ≡ r
    unfolding hyper_refusal
    turn_refused r e = let w = sym verdict_is_holds ∙ e in rw (rest, w)

    pub turn_off : (r : Refusal) → v ≡ Err r → Err r ≡ passed (hyper_refusal (drop i cs))
    turn_off r e =
        let z : r ≡ refusal 7 0 = is_seven (tasks_of (get_or cs i (no_chain s))) r (sym verdict_is_holds ∙ e) in
        let k : passed r ≡ Err r = rw z in
        sym k ∙ ap passed (sym (turn_refused r e))

  pub turn_end : s.chains ≤ i → hyper_refusal (drop i cs) ≡ none
  unfolding hyper_refusal
  turn_end h = rw (rest_end cs i (omega (arith, chains_counted s a k.few_chains)))

module _ (s : Schedule) where
  pub fault_first : (r : Refusal) → Err r ≡ passed (fault_of s) → Err r ≡ passed (checks_of s)
  unfolding checks_of
  fault_first r h =
      let p = refused_passed (fault_of s) r h in
      let same : fault_of s ≡ checks_of s = rw (ne_eqb (fault_of s).number 0 p.1) in
      h ∙ ap passed same

  pub then_hyper : (fault_of s).number ≡ 0 → passed (hyper_refusal (chains_of s)) ≡ passed (checks_of s)
  unfolding checks_of
  then_hyper h = rw (eq-eqb (fault_of s).number 0 h)

-- ---- the latencies

module _ (s : Schedule) (a : Arrays s) (fine : (checks_of s).number ≡ 0) (i : ℕ) where
  few : s.chains ≤ 4
  few = (checks_sound s fine).few_chains

  module _ (h : i < s.chains) (x : Chain) (here : x ≡ chain_of s.gap (tasks_in s) (get_or s.routes i no_route)) where
    pub chain_accepted : verdict_of x ≡ Ok (hyper_of (tasks_of x))
    chain_accepted =
        subst (λ (c : Chain). verdict_of c ≡ Ok (hyper_of (tasks_of c))) (sym (here ∙ chain_there s i h ∙ chain_numbered s i))
        (checks_accepted s a fine (suc i) (omega arith) (omega arith))

    pub latency_stored : (l : List ℕ) (n : ℕ) → l ≡ padded 4 0 (map chain_latency (take i (chains_of s))) → n ≡ greatest_latency (tasks_of x)
        → set l i n ≡ padded 4 0 (map chain_latency (take (i + 1) (chains_of s)))
    latency_stored l n e w =
        ap (λ (y : List ℕ). set y i n) e
        ∙ ap (set (padded 4 0 (map chain_latency (take i (chains_of s)))) i) (w ∙ ap chain_latency (here ∙ chain_there s i h))
        ∙ store_more chain_latency (no_chain s) 0 4 (chains_of s) i (omega (arith, chains_counted s a few)) (omega (arith, few))

-- ---- the judge

module _ (b : Bounded) where
  pub checks_first : (r : Refusal) → Err r ≡ passed (checks_of b.schedule) → Err r ≡ answered (judged_of b)
  unfolding judged_of
  checks_first r h =
      let p = refused_passed (checks_of b.schedule) r h in
      let said : refused_with (checks_of b.schedule) ≡ judged_of b = rw (ne_eqb (checks_of b.schedule).number 0 p.1) in
      let told : Err (checks_of b.schedule) ≡ answered (refused_with (checks_of b.schedule)) = rw (ne_eqb (checks_of b.schedule).number 0 p.1) in
      ap (λ (x : Refusal). Err x) p.0 ∙ told ∙ ap answered said

  module _ (a : BoundedArrays b) (fine : (checks_of b.schedule).number ≡ 0) (l : List ℕ) (are : l ≡ latencies_of b.schedule) (t : Bool) (test : t ≡ pairwise leb l b.bounds) where
    within_is : within_bounds b ≡ t
    within_is =
        sym (within_four b a (checks_sound b.schedule fine).few_chains) ∙ ap (λ (x : List ℕ). pairwise leb x b.bounds) (sym are) ∙ sym test

    pub all_kept : t ≡ true → Ok l ≡ answered (judged_of b)
    unfolding judged_of
    all_kept e = let w = within_is ∙ e in rw (eq-eqb (checks_of b.schedule).number 0 fine, w) (ap (λ (x : List ℕ). Ok x) are)

    pub one_above : t ≡ false → Err (refusal 21 0) ≡ answered (judged_of b)
    unfolding judged_of
    one_above e = let w = within_is ∙ e in rw (eq-eqb (checks_of b.schedule).number 0 fine, w)
