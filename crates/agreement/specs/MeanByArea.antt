-- Order 3 of document 02, "mean by area", of every completed table: its two numbers give the mean of the walk's delay at every time of a hyperperiod,
-- the published integral divided by H, and not only of the delays at whole ticks. The hyperperiod may begin at any tick from the warm-up tick on.
use Rattle.std.specs.Prelude.{ℕ, ◌*◌, ◌≤◌, ◌≡◌, List, length, Ok, Result}
use Rattle.std.proofs.Common.{arith}
use Rattle.maker.specs.declared.Unmade.{Unmade}
use Rattle.chain.specs.declared.Chain.{Chain}
use Rattle.chain.specs.Chains.{tasks_of}
use Rattle.timing.specs.Delay.{delay_at}
use Rattle.timing.specs.FinerClock.{delay_timed, delay_falls}
use Rattle.table.specs.Anchors.{Anchor, anchors}
use Rattle.table.specs.Segments.{Formed}
use Rattle.table.specs.BothWays.{well_formed_iff, well_formed_laws}
use Rattle.figures.specs.Figures.{doubled_area, mean_of, mean_by}
use Rattle.figures.specs.Integral.{Integral}
use Rattle.figures.proofs.FinerTable.{area_integral}
use Rattle.maker.specs.declared.Figures.{Figures}
use Rattle.maker.specs.Making.{figures_of, Makes}
use Rattle.agreement.specs.MadeTable.{made_well_formed}
use Rattle.agreement.specs.Agreement.{held, made_first_start, made_as_walk}
use Rattle.agreement.specs.EveryChain.{Asked, anchor_count, every_chain}

-- The call answers twice the integral of the walk's delay over a hyperperiod, whichever it is from the warm-up tick on, and twice H.
pub record MeanIsIntegral (c : Chain) (starts latencies : List ℕ) (f : Figures) : Type 0 where
  pub doubled : ℕ
  pub answered : mean_of starts latencies f.anchors f.hyperperiod ≡ mean_by doubled (2 * f.hyperperiod)
  pub integral : (t : ℕ) → f.tick.0 ≤ t → Integral (delay_timed (tasks_of c)) (delay_at (tasks_of c)) t f.hyperperiod doubled

module _ (c : Chain) (twelve : length c.tasks ≡ 12) (p : ℕ) (s v s' v' : List ℕ) where
  module _ (f : Figures) (makes : Makes c p s v s' v' (Ok f)) where
    abbrev made : List Anchor
    made = anchors s' v' f.anchors

    formed : Formed f.hyperperiod made
    formed =
        let w = (well_formed_iff s' v' f.anchors f.hyperperiod).0 (made_well_formed c twelve p s v s' v' f makes) in
        well_formed_laws s' v' f.anchors f.hyperperiod w

    pub mean_is_integral : MeanIsIntegral c s' v' f
    unfolding mean_of
    mean_is_integral =
        let falls = delay_falls (tasks_of c) (held c twelve p s v s' v' f makes).sound in
        record {
          doubled = doubled_area f.hyperperiod made;
          answered = rw (made_well_formed c twelve p s v s' v' f makes);
          integral = λ t h. area_integral f.hyperperiod made formed (delay_timed (tasks_of c)) (delay_at (tasks_of c)) (λ n u i a b. falls n u i b) (made_as_walk c twelve p s v s' v' f makes) t (omega (arith, made_first_start c twelve p s v s' v' f makes));
        }

  -- Of every accepted chain, every place of it and every two lists that hold its anchors.
  pub every_mean : (h : ℕ) (r : Result Figures Unmade) → Asked c p h (length s) (length v) → anchor_count c p h ≤ length s → Makes c p s v s' v' r → MeanIsIntegral c s' v' (figures_of c p h)
  every_mean h r asked enough makes =
      let whole : r ≡ Ok (figures_of c p h) = (every_chain c twelve h p s v s' v' r asked enough makes).completed in
      mean_is_integral (figures_of c p h) (rw whole at makes)
