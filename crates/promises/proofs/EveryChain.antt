-- What the judge says of each chain. A schedule with bounds is judged with no refusal exactly where it is sound, every hyperperiod is within its limit and every greatest latency within its bound (`meets_exactly`); then
-- no press by any of its chains, from that chain's warm-up tick on, waits longer than the chain's bound (`meets_delay`), and the latencies are those of the chains (`judged_latency`, `judged_past`).
use Prim.Native.Nat.{ℕ, zero, suc, ◌-◌, ◌≤◌, ◌<◌}
use native.Mathlib.Omega.{arith}
use Rattle.std.specs.Prelude.{◌≡◌, ◌↔◌, Bool, cond, List, [], ◌∷◌, get_or, take, Err, Ok}
use Rattle.std.proofs.Math.Path.{refl, ap}
use Rattle.std.proofs.Common.{sym, ◌∙◌, get_or-take, length-take-le}
use Rattle.std.proofs.Math.Bool.{true, false}
use Rattle.std.proofs.Math.Dec.{leb, eqb}
use Rattle.std.proofs.Math.ListN.{length, get_or-map, get_or-eq_default}
use Rattle.std.proofs.lemmas.List.{length-map}
use borrow.Author.Tests.{le-leb, leb-true, eqb-true, eqb-false}
use Rattle.refusal.specs.declared.Refusal.{Refusal}
use Rattle.refusal.specs.Refusals.{refusal, none}
use Rattle.chain.specs.declared.Chain.{Chain}
use Rattle.chain.specs.Chains.{tasks_of}
use Rattle.chain.specs.Checks.{hyper_verdict, verdict_of}
use Rattle.chain.specs.Hyperperiod.{hyper_of}
use Rattle.chain.proofs.CheckLaws.{Facts, accepted}
use Rattle.schedule.specs.declared.Schedule.{Schedule}
use Rattle.schedule.specs.Schedules.{tasks_in, routes_in, chain_of, chain_at, no_route, route_numbered, padded}
use Rattle.schedule.specs.Arrays.{Arrays}
use Rattle.schedule.specs.Padding.{map_at, padded_at}
use Rattle.schedule_checks.specs.Checks.{fault_of}
use Rattle.schedule_checks.proofs.SoundSchedule.{SoundSchedule, sound, no_refusal}
use Rattle.schedule_checks.proofs.SoundChain.{sound_chain, sound_twelve}
use Rattle.timing.specs.WarmUp.{warm_tick}
use Rattle.timing.specs.Delay.{delay_at}
use Rattle.latency.specs.Latency.{greatest_latency}
use Rattle.latency.specs.GreatestDelay.{greatest_latency_is}
use Rattle.bounded.specs.declared.Bounded.{Bounded}
use Rattle.bounded.specs.Bounded.{bounds_in, pairwise}
use Rattle.bounded.specs.Cleared.{BoundedArrays}
use Rattle.promises.specs.Promises.{Judged, chains_of, after_verdict, hyper_refusal, checks_of, chain_latency, greatest_in, latencies_of, within_bounds, refused_with, judged_of}

-- ---- the chains of a schedule

-- what stands for a chain past the last, where nothing looks
abbrev pub no_chain : Schedule → Chain
no_chain s = chain_of s.gap (tasks_in s) no_route

-- entry i is the chain with the number i + 1,
pub chain_numbered : (s : Schedule) (i : ℕ) → get_or (chains_of s) i (no_chain s) ≡ chain_at s (suc i)
unfolding route_numbered
chain_numbered s i = get_or-map (chain_of s.gap (tasks_in s)) (routes_in s) i no_route

-- which is that of entry i of the array.
pub chain_there : (s : Schedule) (i : ℕ) → i < s.chains → chain_of s.gap (tasks_in s) (get_or s.routes i no_route) ≡ get_or (chains_of s) i (no_chain s)
chain_there s i h =
    ap (chain_of s.gap (tasks_in s)) (sym (get_or-take s.chains s.routes i no_route h))
    ∙ sym (get_or-map (chain_of s.gap (tasks_in s)) (routes_in s) i no_route)

pub chains_counted : (s : Schedule) → Arrays s → s.chains ≤ 4 → length (chains_of s) ≡ s.chains
chains_counted s a few = length-map (routes_in s) (chain_of s.gap (tasks_in s)) ∙ length-take-le s.chains s.routes (omega (arith, a.routes))

-- ---- 7 chain by chain

none_refused : (cs : List Chain) (d : Chain) → (hyper_refusal cs).number ≡ 0 → (i : ℕ) → i < length cs → hyper_of (tasks_of (get_or cs i d)) ≤ 60000000
unfolding hyper_refusal hyper_verdict
none_refused [] d h i g = absurd (omega arith)
none_refused (c ∷ cs) d h i g = go (leb (hyper_of (tasks_of c)) 60000000) refl h i g (none_refused cs d)
  where
    go : (b : Bool) → leb (hyper_of (tasks_of c)) 60000000 ≡ b
        → (after_verdict (cond b (Ok (hyper_of (tasks_of c))) (Err (refusal 7 0))) (hyper_refusal cs)).number ≡ 0
        → (i : ℕ) → i < length (c ∷ cs) → ((hyper_refusal cs).number ≡ 0 → (k : ℕ) → k < length cs → hyper_of (tasks_of (get_or cs k d)) ≤ 60000000)
        → hyper_of (tasks_of (get_or (c ∷ cs) i d)) ≤ 60000000
    go true e h zero g r = leb-true (hyper_of (tasks_of c)) 60000000 e
    go true e h (suc i) g r = r h i (omega arith)
    go false e h i g r = absurd (omega arith)

all_accepted : (cs : List Chain) (d : Chain) → ((i : ℕ) → i < length cs → hyper_of (tasks_of (get_or cs i d)) ≤ 60000000) → hyper_refusal cs ≡ none
unfolding hyper_refusal hyper_verdict
all_accepted [] d h = refl
all_accepted (c ∷ cs) d h = rw (le-leb (hyper_of (tasks_of c)) 60000000 (h 0 (omega arith))) (all_accepted cs d (λ i g. h (suc i) (omega arith)))

-- what the checks leave
checks_parts : (s : Schedule) → (checks_of s).number ≡ 0 → ((fault_of s).number ≡ 0) × ((hyper_refusal (chains_of s)).number ≡ 0)
unfolding checks_of
checks_parts s = go (eqb (fault_of s).number 0) refl
  where
    go : (b : Bool) → eqb (fault_of s).number 0 ≡ b → (cond b (hyper_refusal (chains_of s)) (fault_of s)).number ≡ 0 → ((fault_of s).number ≡ 0) × ((hyper_refusal (chains_of s)).number ≡ 0)
    go true e h = (eqb-true (fault_of s).number 0 e, h)
    go false e h = absurd (eqb-false (fault_of s).number 0 e h)

pub checks_sound : (s : Schedule) → (checks_of s).number ≡ 0 → SoundSchedule s
checks_sound s h = sound s (checks_parts s h).0

module _ (s : Schedule) (a : Arrays s) (fine : (checks_of s).number ≡ 0) (n : ℕ) (low : 1 ≤ n) (high : n ≤ s.chains) where
  -- the hyperperiod of each chain is within its limit,
  pub checks_hyper : hyper_of (tasks_of (chain_at s n)) ≤ 60000000
  checks_hyper =
      let k = checks_sound s fine in
      let m : suc (n - 1) ≡ n = omega arith in
      rw (chain_numbered s (n - 1), m) at (none_refused (chains_of s) (no_chain s) (checks_parts s fine).1 (n - 1) (omega (arith, chains_counted s a k.few_chains)))

  -- so each chain is accepted.
  pub checks_accepted : verdict_of (chain_at s n) ≡ Ok (hyper_of (tasks_of (chain_at s n)))
  unfolding hyper_verdict
  checks_accepted =
      sound_chain s a (checks_sound s fine) n low high ∙ rw (le-leb (hyper_of (tasks_of (chain_at s n))) 60000000 checks_hyper)

  pub checks_facts : Facts (chain_at s n) (hyper_of (tasks_of (chain_at s n)))
  checks_facts = accepted (chain_at s n) (hyper_of (tasks_of (chain_at s n))) (sound_twelve s a (checks_sound s fine) n low high) checks_accepted

-- ---- 21

-- Past the chains the latency is 0, so the bounds there have no part in the test.
padded_within : (n : ℕ) (l bs : List ℕ) → length l ≤ n → length bs ≡ n → pairwise leb (padded n 0 l) bs ≡ pairwise leb l (take (length l) bs)
unfolding padded pairwise
padded_within zero [] [] h e = refl
padded_within zero [] (b ∷ bs) h e = absurd (omega arith)
padded_within zero (x ∷ l) bs h e = absurd (omega arith)
padded_within (suc n) l [] h e = absurd (omega arith)
padded_within (suc n) [] (b ∷ bs) h e = rw (le-leb 0 b (omega arith)) (padded_within n [] bs (omega arith) (omega arith))
padded_within (suc n) (x ∷ l) (b ∷ bs) h e = ap (λ (t : Bool). cond (leb x b) t false) (padded_within n l bs (omega arith) (omega arith))

pub within_four : (b : Bounded) → BoundedArrays b → b.schedule.chains ≤ 4 → pairwise leb (latencies_of b.schedule) b.bounds ≡ within_bounds b
within_four b a few =
    let n : length (greatest_in b.schedule) ≡ b.schedule.chains = length-map (chains_of b.schedule) chain_latency ∙ chains_counted b.schedule a.schedule few in
    padded_within 4 (greatest_in b.schedule) b.bounds (omega arith) a.bounds
    ∙ ap (λ (k : ℕ). pairwise leb (greatest_in b.schedule) (take k b.bounds)) n

-- what passes two by two, passes at each entry,
pairs_at : (f : ℕ → ℕ → Bool) (a b : List ℕ) → pairwise f a b ≡ true → (i : ℕ) → i < length a → f (get_or a i 0) (get_or b i 0) ≡ true
unfolding pairwise
pairs_at f [] b h i g = absurd (omega arith)
pairs_at f (x ∷ a) [] h i g = absurd (let z : ◌≡◌ {A = ℕ} 0 1 = cc in omega arith)
pairs_at f (x ∷ a) (y ∷ b) h i g = go (f x y) refl h i g (pairs_at f a b)
  where
    go : (t : Bool) → f x y ≡ t → cond t (pairwise f a b) false ≡ true → (i : ℕ) → i < length (x ∷ a)
        → (pairwise f a b ≡ true → (k : ℕ) → k < length a → f (get_or a k 0) (get_or b k 0) ≡ true) → f (get_or (x ∷ a) i 0) (get_or (y ∷ b) i 0) ≡ true
    go true e h zero g r = e
    go true e h (suc i) g r = r h i (omega arith)
    go false e h i g r = absurd (let z : ◌≡◌ {A = ℕ} 0 1 = cc in omega arith)

-- and the other way round.
at_pairs : (f : ℕ → ℕ → Bool) (a b : List ℕ) → length a ≡ length b → ((i : ℕ) → i < length a → f (get_or a i 0) (get_or b i 0) ≡ true) → pairwise f a b ≡ true
unfolding pairwise
at_pairs f [] [] e h = refl
at_pairs f [] (y ∷ b) e h = absurd (omega arith)
at_pairs f (x ∷ a) [] e h = absurd (omega arith)
at_pairs f (x ∷ a) (y ∷ b) e h = rw (h 0 (omega arith)) (at_pairs f a b (omega arith) (λ i g. h (suc i) (omega arith)))

-- ---- all of it

-- The bound of chain n, counted from 1.
abbrev pub bound_of : Bounded → ℕ → ℕ
bound_of b n = get_or b.bounds (n - 1) 0

-- A schedule "meets its own bounds": the checks pass, and no chain's greatest latency is above its bound.
pub record MeetsBounds (b : Bounded) : Type 0 where
  pub sound : SoundSchedule b.schedule
  pub hyper : (n : ℕ) → 1 ≤ n → n ≤ b.schedule.chains → hyper_of (tasks_of (chain_at b.schedule n)) ≤ 60000000
  pub latency : (n : ℕ) → 1 ≤ n → n ≤ b.schedule.chains → greatest_latency (tasks_of (chain_at b.schedule n)) ≤ bound_of b n

module _ (b : Bounded) (a : BoundedArrays b) where
  abbrev s : Schedule
  s = b.schedule

  -- the latency and the bound of a chain, by their entries
  latency_at : (i : ℕ) → i < s.chains → s.chains ≤ 4 → get_or (greatest_in s) i 0 ≡ greatest_latency (tasks_of (chain_at s (suc i)))
  latency_at i h few = map_at chain_latency (chains_of s) i (no_chain s) 0 (omega (arith, chains_counted s a.schedule few)) ∙ ap chain_latency (chain_numbered s i)

  bound_at : (i : ℕ) → i < s.chains → get_or (bounds_in b) i 0 ≡ get_or b.bounds i 0
  bound_at i h = get_or-take s.chains b.bounds i 0 h

  counted : s.chains ≤ 4 → length (greatest_in s) ≡ s.chains
  counted few = length-map (chains_of s) chain_latency ∙ chains_counted s a.schedule few

  judged_meets : (judged_of b).refusal.number ≡ 0 → MeetsBounds b
  unfolding judged_of
  judged_meets = go (eqb (checks_of s).number 0) refl (within_bounds b) refl
    where
      go : (x : Bool) → eqb (checks_of s).number 0 ≡ x → (y : Bool) → within_bounds b ≡ y
          → (cond x (cond y (record { refusal = none; latencies = latencies_of s }) (refused_with (refusal 21 0))) (refused_with (checks_of s))).refusal.number ≡ 0 → MeetsBounds b
      go true e true f h =
          let fine = eqb-true (checks_of s).number 0 e in
          let few = (checks_sound s fine).few_chains in
          record {
            sound = checks_sound s fine;
            hyper = checks_hyper s a.schedule fine;
            latency = λ n low high.
                let m : suc (n - 1) ≡ n = omega arith in
                omega (
                  arith,
                  leb-true (get_or (greatest_in s) (n - 1) 0) (get_or (bounds_in b) (n - 1) 0) (pairs_at leb (greatest_in s) (bounds_in b) f (n - 1) (omega (arith, counted few))),
                  latency_at (n - 1) (omega arith) few ∙ ap (λ (k : ℕ). greatest_latency (tasks_of (chain_at s k))) m,
                  bound_at (n - 1) (omega arith),
                );
          }
      go true e false f h = absurd (omega arith)
      go false e y f h = absurd (eqb-false (checks_of s).number 0 e h)

  meets_checks : MeetsBounds b → checks_of s ≡ none
  unfolding checks_of
  meets_checks k = rw (no_refusal s k.sound) (all_accepted (chains_of s) (no_chain s) each)
    where
      each : (i : ℕ) → i < length (chains_of s) → hyper_of (tasks_of (get_or (chains_of s) i (no_chain s))) ≤ 60000000
      each i g = rw (chain_numbered s i) (k.hyper (suc i) (omega arith) (omega (arith, chains_counted s a.schedule k.sound.few_chains)))

  meets_within : MeetsBounds b → within_bounds b ≡ true
  meets_within k = at_pairs leb (greatest_in s) (bounds_in b) (counted few ∙ sym (length-take-le s.chains b.bounds (omega (arith, a.bounds)))) each
    where
      few : s.chains ≤ 4
      few = k.sound.few_chains

      each : (i : ℕ) → i < length (greatest_in s) → leb (get_or (greatest_in s) i 0) (get_or (bounds_in b) i 0) ≡ true
      each i g =
          let h : i < s.chains = omega (arith, counted few) in
          let z : suc i - 1 ≡ i = omega arith in
          le-leb (get_or (greatest_in s) i 0) (get_or (bounds_in b) i 0) (omega (arith, latency_at i h few, bound_at i h, k.latency (suc i) (omega arith) (omega arith), ap (λ (k : ℕ). get_or b.bounds k 0) z))

  meets_judged : MeetsBounds b → judged_of b ≡ record { refusal = none; latencies = latencies_of s }
  unfolding judged_of
  meets_judged k = rw (meets_checks k, meets_within k)

  -- Nothing is refused exactly where the schedule keeps its bounds; and a success is number 0 at place 0.
  pub meets_exactly : ((judged_of b).refusal.number ≡ 0) ↔ MeetsBounds b
  meets_exactly = (judged_meets, λ k. ap (λ (j : Judged). j.refusal.number) (meets_judged k))

  pub judged_none : (judged_of b).refusal.number ≡ 0 → judged_of b ≡ record { refusal = none; latencies = latencies_of s }
  judged_none h = meets_judged (judged_meets h)

  -- The latency that is given for chain n is that chain's greatest, and 0 stands past the chains.
  pub judged_latency : (judged_of b).refusal.number ≡ 0 → (n : ℕ) → 1 ≤ n → n ≤ s.chains → get_or (judged_of b).latencies (n - 1) 0 ≡ greatest_latency (tasks_of (chain_at s n))
  judged_latency h n low high =
      let few = (judged_meets h).sound.few_chains in
      let m : suc (n - 1) ≡ n = omega arith in
      ap (λ (j : Judged). get_or j.latencies (n - 1) 0) (judged_none h) ∙ padded_at 0 4 (greatest_in s) (n - 1) 0 (omega arith)
      ∙ latency_at (n - 1) (omega arith) few ∙ ap (λ (k : ℕ). greatest_latency (tasks_of (chain_at s k))) m

  pub judged_past : (judged_of b).refusal.number ≡ 0 → (i : ℕ) → s.chains ≤ i → i < 4 → get_or (judged_of b).latencies i 0 ≡ 0
  judged_past h i past four =
      ap (λ (j : Judged). get_or j.latencies i 0) (judged_none h) ∙ padded_at 0 4 (greatest_in s) i 0 four
      ∙ get_or-eq_default (greatest_in s) 0 (omega (arith, counted (judged_meets h).sound.few_chains))

  -- No press from a chain's warm-up tick on waits longer than its bound.
  pub meets_delay : MeetsBounds b → (n : ℕ) → 1 ≤ n → n ≤ s.chains → (t : ℕ) → warm_tick (tasks_of (chain_at s n)) ≤ t → delay_at (tasks_of (chain_at s n)) t ≤ bound_of b n
  meets_delay k n low high t h =
      let fine = ap (λ (r : Refusal). r.number) (meets_checks k) in
      let f = checks_facts s a.schedule fine n low high in
      omega (arith, (greatest_latency_is (tasks_of (chain_at s n)) f.passes.sound).bound t h, k.latency n low high)
