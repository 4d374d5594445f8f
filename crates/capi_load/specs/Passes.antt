-- mo_load: what C gets with code 0 and hands to the other calls, with the same places and a gap of 0, is the chain that was made (`load_for_c`), and it passes 8, 5 and 7 with a hyperperiod that
-- divides 80,000 (`passes_for_c`) and is its longest period (`longest_for_c`); and the code is 0 for 1 to 12 places exactly (`places_for_c`, `code_for_c`).
use Rattle.std.specs.Prelude.{ℕ, ◌≤◌, ◌<◌, ◌≡◌, List, length, refl, Ok, Err, Result}
use Rattle.std.specs.Int.{◌∣◌}
use Rattle.std.proofs.Common.{arith, sym, ap, ◌∙◌}
use Rattle.refusal.specs.declared.Refusal.{Refusal}
use Rattle.chain.specs.declared.Chain.{Chain}
use Rattle.chain.specs.Chains.{tasks_of, at}
use Rattle.chain.specs.Checks.{verdict_of}
use Rattle.chain.specs.Hyperperiod.{hyper_of}
use Rattle.capi_chain.specs.FlatChain.{chain_from}
use Rattle.capi_chain.specs.Front.{chain_given_back}
use Rattle.load.specs.Load.{loaded, load_of}
use Rattle.load.proofs.Passes.{refused_outside, not_refused, made, twelve_tasks, passes, hyper_divides, hyper_longest}
use Rattle.capi_load.specs.Calls.{load_code, load_numbers, GivesLoad}

module _ (seed places code : ℕ) (tasks : List ℕ) (gives : GivesLoad seed places code tasks) where
  pub code_for_c : 1 ≤ places → places ≤ 12 → code ≡ 0
  code_for_c low high = gives.answers ∙ ap load_code (made seed places low high)

  module _ (fine : code ≡ 0) where
    pub places_for_c : (1 ≤ places) × (places ≤ 12)
    places_for_c = go (load_of seed places) refl
      where
        go : (m : Result Chain Refusal) → m ≡ load_of seed places → (1 ≤ places) × (places ≤ 12)
        go (Ok c) e = let k = not_refused seed places c e in (k.0, k.1)
        go (Err r) e = absurd (omega (arith, gives.answers ∙ sym (ap load_code e), ap (λ (q : Refusal). q.number) (refused_outside seed places r e).0))

    -- the chain of the seed
    pub chain_for_c : chain_from tasks places 0 ≡ loaded seed places
    chain_for_c =
        ap (λ (l : List ℕ). chain_from l places 0) (gives.gives_tasks ∙ ap load_numbers (made seed places places_for_c.0 places_for_c.1))
        ∙ chain_given_back (loaded seed places) (twelve_tasks seed places places_for_c.0 places_for_c.1) places_for_c.1

    pub load_for_c : load_of seed places ≡ Ok (chain_from tasks places 0)
    load_for_c = made seed places places_for_c.0 places_for_c.1 ∙ sym (ap (λ (c : Chain). Ok c) chain_for_c)

    pub passes_for_c : (verdict_of (chain_from tasks places 0) ≡ Ok (hyper_of (tasks_of (chain_from tasks places 0)))) × (hyper_of (tasks_of (chain_from tasks places 0)) ∣ 80000)
    passes_for_c = rw chain_for_c (passes seed places places_for_c.0 places_for_c.1, hyper_divides seed places places_for_c.0 places_for_c.1)

    -- The hyperperiod is the longest period, at whichever place q, counted from 0, that stands.
    pub longest_for_c : (q : ℕ) → q < length (tasks_of (chain_from tasks places 0)) → ((p : ℕ) → p < length (tasks_of (chain_from tasks places 0)) → (at (tasks_of (chain_from tasks places 0)) p).period ≤ (at (tasks_of (chain_from tasks places 0)) q).period)
        → hyper_of (tasks_of (chain_from tasks places 0)) ≡ (at (tasks_of (chain_from tasks places 0)) q).period
    longest_for_c = rw chain_for_c (hyper_longest seed places places_for_c.0 places_for_c.1)
