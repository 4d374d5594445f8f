-- The greatest latency of a chain is its greatest delay from the warm-up tick on, without an upper tick: none is above it, and one tick has it. And it is what the figure says of every completed table of the chain.
use Rattle.std.specs.Prelude.{ℕ, ◌≤◌, ◌≡◌, List, length, Ok}
use Rattle.std.proofs.Common.{arith, sym, ◌∙◌, subst}
use Rattle.std.proofs.Math.Path.{ap}
use Rattle.task.specs.declared.Place.{Place}
use Rattle.chain.specs.declared.Chain.{Chain}
use Rattle.chain.specs.Chains.{tasks_of}
use Rattle.chain.specs.Checks.{Sound}
use Rattle.chain.specs.Hyperperiod.{hyper_of}
use Rattle.timing.specs.WarmUp.{warm_tick}
use Rattle.timing.specs.Delay.{delay_at}
use Rattle.table.specs.Figures.{greatest}
use Rattle.table.specs.GreatestDelay.{GreatestFrom}
use Rattle.partition.proofs.CutFree.{canonical, cut_canonical}
use Rattle.figures.specs.Figures.{greatest_of}
use Rattle.maker.specs.declared.Figures.{Figures}
use Rattle.maker.specs.Making.{Makes}
use Rattle.agreement.specs.GreatestAge.{greatest_of_all, top_fits}
use Rattle.agreement.specs.Agreement.{held, greatest_answered}
use Rattle.latency.specs.Latency.{greatest_latency}

module _ (l : List Place) (ok : Sound l) where
  same : greatest_latency l ≡ greatest (canonical l (hyper_of l))
  unfolding greatest_latency
  same = ap greatest (cut_canonical l ok 0 ok.some)

  pub greatest_latency_is : GreatestFrom (delay_at l) (warm_tick l) (greatest_latency l)
  greatest_latency_is = subst (GreatestFrom (delay_at l) (warm_tick l)) (sym same) (greatest_of_all l ok)

  -- It is within the limit that order 5 of document 02 gives to latencies.
  pub greatest_fits : greatest_latency l ≤ 60011000
  greatest_fits = omega (arith, same, top_fits l ok)

pub table_greatest : (c : Chain) → length c.tasks ≡ 12 → (p : ℕ) (starts latencies starts' latencies' : List ℕ) (f : Figures) → Makes c p starts latencies starts' latencies' (Ok f)
    → greatest_of starts' latencies' f.anchors f.hyperperiod ≡ Ok (greatest_latency (tasks_of c))
table_greatest c twelve p s v s' v' f makes =
    greatest_answered c twelve p s v s' v' f makes ∙ ap Ok (sym (same (tasks_of c) (held c twelve p s v s' v' f makes).sound))
