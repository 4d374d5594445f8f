-- Order 7 of document 02, "how often each delay occurs", of every completed table: what the call counts are the delays of the walk at the ticks of a hyperperiod, whichever it is from
-- the warm-up tick on.
use Rattle.std.specs.Prelude.{ℕ, ◌≤◌, ◌≡◌, List, length, get_or, Ok, Result}
use Rattle.std.proofs.Common.{arith, sym, ◌∙◌}
use Rattle.refusal.specs.declared.Refusal.{Refusal}
use Rattle.maker.specs.declared.Unmade.{Unmade}
use Rattle.chain.specs.declared.Chain.{Chain}
use Rattle.chain.specs.Chains.{tasks_of}
use Rattle.timing.specs.Delay.{delay_at}
use Rattle.table.specs.WellFormed.{WellFormed}
use Rattle.table.specs.BothWays.{well_formed_iff}
use Rattle.table.specs.EveryTable.{first_start_holds}
use Rattle.histogram.specs.Histogram.{Gives}
use Rattle.histogram.proofs.EveryHyperperiod.{CountsDelays, every_hyperperiod}
use Rattle.maker.specs.declared.Figures.{Figures}
use Rattle.maker.specs.Making.{figures_of, Makes}
use Rattle.agreement.specs.MadeTable.{made_well_formed}
use Rattle.agreement.specs.Agreement.{made_first_start, made_as_walk}
use Rattle.agreement.specs.EveryChain.{Asked, anchor_count, every_chain}

module _ (c : Chain) (twelve : length c.tasks ≡ 12) (p : ℕ) (s v s' v' : List ℕ) where
  module _ (f : Figures) (makes : Makes c p s v s' v' (Ok f)) where
    -- What the call leaves in a list and answers, of that table and a width from 1 on.
    pub counts_walks : (width : ℕ) (counts list : List ℕ) (r : Result ℕ Refusal) → Gives s' v' f.anchors f.hyperperiod width counts list r → 1 ≤ width
        → CountsDelays (delay_at (tasks_of c)) f.tick.0 f.hyperperiod width counts list r
    counts_walks width counts list r gives some =
        let w : WellFormed s' v' f.anchors f.hyperperiod = (well_formed_iff s' v' f.anchors f.hyperperiod).0 (made_well_formed c twelve p s v s' v' f makes) in
        let e = first_start_holds s' v' f.anchors f.hyperperiod w in
        let start : get_or s' 0 0 ≡ f.tick.0 = sym e ∙ made_first_start c twelve p s v s' v' f makes in
        rw start at
        (every_hyperperiod s' v' f.anchors f.hyperperiod width counts list r gives w some (delay_at (tasks_of c)) (λ t h. made_as_walk c twelve p s v s' v' f makes t (omega (arith, e))))

  -- Of every accepted chain, every place of it and every two lists that hold its anchors.
  pub every_count : (h : ℕ) (made : Result Figures Unmade) → Asked c p h (length s) (length v) → anchor_count c p h ≤ length s → Makes c p s v s' v' made
      → (width : ℕ) (counts list : List ℕ) (r : Result ℕ Refusal) → Gives s' v' (figures_of c p h).anchors (figures_of c p h).hyperperiod width counts list r → 1 ≤ width
      → CountsDelays (delay_at (tasks_of c)) (figures_of c p h).tick.0 (figures_of c p h).hyperperiod width counts list r
  every_count h made asked enough makes =
      let whole : made ≡ Ok (figures_of c p h) = (every_chain c twelve h p s v s' v' made asked enough makes).completed in
      counts_walks (figures_of c p h) (rw whole at makes)
