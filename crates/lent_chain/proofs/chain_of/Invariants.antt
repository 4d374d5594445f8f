use Rattle.std.proofs.Common.{◌≡◌}
use Rattle.lent_chain.proofs.Copying.{copied}
use Rattle.lent_chain.proofs.chain_of.Given as goal

-- i tasks are copied
abbrev pub invariant-loop-i : goal.invariant-loop-i
invariant-loop-i l = l.first ≡ copied l.i l.tasks
