-- mo_windows: code 0 gives the mark of the chain's bad stretch (`bad_stretch_for_c`), which is the only one (`one_stretch` in windows/specs/EveryWindow).
use Rattle.std.specs.Prelude.{ℕ, ◌≡◌, List, [], ◌∷◌, get_or, Err, Ok, Result}
use Rattle.std.proofs.Common.{arith, ap}
use Rattle.refusal.specs.declared.Refusal.{Refusal}
use Rattle.refusal.specs.Refusals.{code_of}
use Rattle.chain.specs.declared.Chain.{Chain}
use Rattle.chain.specs.Chains.{tasks_of}
use Rattle.chain.specs.Checks.{verdict_of}
use Rattle.chain.proofs.CheckLaws.{SmallVerdict, verdict_small}
use Rattle.windows.specs.Windows.{most_misses, earliest_job, after_limits, windows_after, windows_of, most_from}
use Rattle.windows.proofs.EveryWindow.{BadStretch}
use Rattle.windows.proofs.Answered.{windows_answered}
use Rattle.capi_chain.specs.FlatChain.{chain_from}
use Rattle.capi_chain.specs.Front.{chain_twelve}
use Rattle.capi_windows.specs.Calls.{window_numbers, GivesWindows}
use Rattle.capi_windows.proofs.Gives.{after_small}

-- Code 0 is no refusal.
windows_zero : (c : Chain) (B k code m j : ℕ) → GivesWindows c B k code m j → code ≡ 0 → windows_of c B k ≡ most_from m (record { 0 = j })
unfolding windows_after
windows_zero c B k code m j gives fine = go (after_limits (verdict_of c) k) (after_small (verdict_of c) (verdict_small c) k) gives
  where
    go : (v : Result ℕ Refusal) → SmallVerdict v → (code ∷ m ∷ j ∷ []) ≡ window_numbers (windows_after (tasks_of c) B k v) → windows_after (tasks_of c) B k v ≡ most_from m (record { 0 = j })
    go (Err r) s e = absurd (let z : code ≡ code_of r = ap (λ (l : List ℕ). get_or l 0 0) e in omega (arith, s.2))
    go (Ok h) s e =
        let x : m ≡ most_misses (tasks_of c) B k = ap (λ (l : List ℕ). get_or l 1 0) e in
        let y : j ≡ earliest_job (tasks_of c) B k = ap (λ (l : List ℕ). get_or l 2 0) e in
        rw (x, y)

pub bad_stretch_for_c : (tasks : List ℕ) (places gap B k code misses first : ℕ) → GivesWindows (chain_from tasks places gap) B k code misses first → code ≡ 0
    → BadStretch (tasks_of (chain_from tasks places gap)) B k misses first
bad_stretch_for_c tasks places gap B k code misses first gives fine =
    windows_answered (chain_from tasks places gap) (chain_twelve tasks places gap) B k misses (record { 0 = first }) (windows_zero (chain_from tasks places gap) B k code misses first gives fine)
