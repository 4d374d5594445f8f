use Rattle.std.proofs.Common.{◌≡◌, drop}
use Rattle.promises.specs.Promises.{chains_of, hyper_refusal}
use Rattle.promises.proofs.check_hyperperiods.Given as goal

abbrev pub invariant-loop-i : goal.invariant-loop-i
invariant-loop-i l = hyper_refusal (chains_of l.s) ≡ hyper_refusal (drop l.i (chains_of l.s))
