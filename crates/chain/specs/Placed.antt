-- A list of tasks at the places of a chain with a gap: at each place stands its task. (That there are as many places is `length-map`.)
use Rattle.std.specs.Prelude.{ℕ, zero, suc, ◌<◌, ◌≡◌, refl, List, [], ◌∷◌, length, get_or}
use Rattle.std.proofs.Common.{arith}
use Rattle.task.specs.declared.Task.{Task}
use Rattle.task.specs.Jobs.{place_of}
use Rattle.chain.specs.Chains.{placed, zero_task, at}

pub at_placed : (g : ℕ) (l : List Task) (p : ℕ) → p < length l → at (placed g l) p ≡ place_of g (get_or l p zero_task)
at_placed g [] p h = absurd (omega arith)
at_placed g (a ∷ l) zero h = refl
at_placed g (a ∷ l) (suc p) h = at_placed g l p (omega arith)
