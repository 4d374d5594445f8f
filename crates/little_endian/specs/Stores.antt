-- Runs of stores: one run after the other, and a run from the front.
use Rattle.std.specs.Prelude.{ℕ, suc, ◌+◌, ◌≤◌, ◌≡◌, List, [], ◌∷◌, ◌++◌, length, set, drop}
use Rattle.std.proofs.Common.{arith}
use Rattle.std.proofs.lemmas.List.Edits.{sets, sets-eq}

pub sets_append : (l : List ℕ) (at : ℕ) (a b : List ℕ) → sets l at (a ++ b) ≡ sets (sets l at a) (at + length a) b
sets_append l at [] b = let e : at + 0 ≡ at = omega arith in rw e
sets_append l at (x ∷ a) b =
    let e : suc at + length a ≡ at + suc (length a) = omega arith in
    let h = sets_append (set l at x) (suc at) a b in
    rw e at h

pub sets_front : (l vs : List ℕ) → length vs ≤ length l → sets l 0 vs ≡ vs ++ drop (length vs) l
sets_front l vs h =
    let e : 0 + length vs ≡ length vs = omega arith in
    let f = sets-eq vs l 0 (rw e h) in
    rw e at f
