-- "Table and walk must agree chain by chain" (order 1 of document 02): the third demand of every chain of every schedule with any permitted gap (order 5), of the analyses from a schedule.
-- The table that making gives of chain n is read at every tick as walking chain n gives it (`table_is_walk_from`); its greatest latency is the greatest delay of walking and 1 + the greatest age of ageing chain n
-- (`greatest_from_holds`); two cuts give the same anchors (`cuts_agree_from`); its mean by area is that of walking chain n at every time of a hyperperiod (`mean_from`), and its histogram counts the delays of walking chain n (`counts_from`). With no premise on what making answers: `every_chain_from`, `every_two_cuts_from`.
use Rattle.std.specs.Prelude.{ℕ, suc, ◌≤◌, ◌≡◌, List, length, Err, Ok, Result}
use Rattle.std.proofs.Common.{arith, ◌∙◌}
use Rattle.std.proofs.Math.Decide.{dec_lt}
use Rattle.refusal.specs.declared.Refusal.{Refusal}
use Rattle.maker.specs.declared.Unmade.{Unmade}
use Rattle.chain.specs.declared.Chain.{Chain}
use Rattle.chain.specs.Chains.{tasks_of}
use Rattle.schedule.specs.declared.Schedule.{Schedule}
use Rattle.schedule.specs.Schedules.{chain_at}
use Rattle.schedule.specs.Arrays.{Arrays}
use Rattle.schedule_checks.specs.Checks.{choice_of}
use Rattle.schedule_checks.proofs.ChosenChain.{chosen_twelve, choice_answers}
use Rattle.timing.specs.WarmUp.{warm_tick}
use Rattle.timing.specs.Delay.{delay_at, first_aged, age_at}
use Rattle.timing.specs.Answers.{upper_tick, delay_of, age_of}
use Rattle.table.specs.Reading.{reading}
use Rattle.figures.specs.Figures.{greatest_of}
use Rattle.maker.specs.declared.Figures.{Figures}
use Rattle.maker.specs.Making.{figures_of, Makes}
use Rattle.histogram.specs.Histogram.{Gives}
use Rattle.histogram.proofs.EveryHyperperiod.{CountsDelays}
use Rattle.agreement.specs.GreatestAge.{GreatestWithin}
use Rattle.agreement.specs.Agreement.{SameTicks, SameAnchors, SameGreatest, table_is_walk, cuts_agree, greatest_is_delay_and_age}
use Rattle.agreement.specs.MeanByArea.{MeanIsIntegral, mean_is_integral}
use Rattle.agreement.specs.DelayCounts.{counts_walks}
use Rattle.agreement.specs.EveryChain.{Asked, anchor_count, every_chain, every_two_cuts}
use Rattle.from_schedule.specs.Answers.{delay_from, age_from, MakesFrom}

-- Greatest latency = greatest delay = 1 + greatest age, as the analyses of chain n answer them.
pub record SameGreatestFrom (s : Schedule) (n : ℕ) (starts latencies : List ℕ) (f : Figures) : Type 0 where
  pub latency : ℕ
  pub answered : greatest_of starts latencies f.anchors f.hyperperiod ≡ Ok latency
  pub walked : (t : ℕ) → f.tick.0 ≤ t → t ≤ upper_tick → delay_from s n t ≡ Ok (delay_at (tasks_of (chain_at s n)) t)
  pub aged : (z : ℕ) → first_aged (tasks_of (chain_at s n)) ≤ z → z ≤ upper_tick → age_from s n z ≡ Ok (age_at (tasks_of (chain_at s n)) z)
  pub greatest_delay : GreatestWithin (delay_at (tasks_of (chain_at s n))) f.tick.0 upper_tick latency
  pub greatest_age : GreatestWithin (λ z. suc (age_at (tasks_of (chain_at s n)) z)) (first_aged (tasks_of (chain_at s n))) upper_tick latency

-- What the third demand says of one table of chain n.
pub record AgreedFrom (s : Schedule) (n : ℕ) (starts latencies : List ℕ) (r : Result Figures Unmade) (f : Figures) : Type 0 where
  pub completed : r ≡ Ok f
  pub from : f.tick.0 ≡ warm_tick (tasks_of (chain_at s n))
  pub delays : (t : ℕ) → warm_tick (tasks_of (chain_at s n)) ≤ t → t ≤ upper_tick → SameTicks (delay_from s n t) (reading starts latencies f.anchors f.hyperperiod t)
  pub greatest : SameGreatestFrom s n starts latencies f

module _ (s : Schedule) (a : Arrays s) (n : ℕ) where
  -- of a chain that was chosen
  module _ (chosen : (choice_of s n).number ≡ 0) where
    -- the analyses from the schedule are those of the chain
    pub delay_chosen : (t : ℕ) → delay_from s n t ≡ delay_of (chain_at s n) t
    delay_chosen t = choice_answers s n Err (λ (c : Chain). delay_of c t) chosen

    pub age_chosen : (z : ℕ) → age_from s n z ≡ age_of (chain_at s n) z
    age_chosen z = choice_answers s n Err (λ (c : Chain). age_of c z) chosen

    same_from : (starts latencies : List ℕ) (f : Figures) → SameGreatest (chain_at s n) starts latencies f → SameGreatestFrom s n starts latencies f
    same_from starts latencies f k = record {
      latency = k.latency;
      answered = k.answered;
      walked = λ t low high. delay_chosen t ∙ k.walked t low high;
      aged = λ z low high. age_chosen z ∙ k.aged z low high;
      greatest_delay = k.greatest_delay;
      greatest_age = k.greatest_age;
    }

    -- For every accepted chain of a sound schedule, every place of it and every two lists that hold its anchors,
    pub every_chain_from : (h p : ℕ) (starts latencies starts' latencies' : List ℕ) (r : Result Figures Unmade) → Asked (chain_at s n) p h (length starts) (length latencies)
        → anchor_count (chain_at s n) p h ≤ length starts → MakesFrom s n p starts latencies starts' latencies' r → AgreedFrom s n starts' latencies' r (figures_of (chain_at s n) p h)
    every_chain_from h p starts latencies starts' latencies' r asked enough makes =
        let k = every_chain (chain_at s n) (chosen_twelve s n a chosen) h p starts latencies starts' latencies' r asked enough (makes.answered chosen) in
        record {
          completed = k.completed;
          from = k.from;
          delays = λ t low high. rw (delay_chosen t) (k.delays t low high);
          greatest = same_from starts' latencies' (figures_of (chain_at s n) p h) k.greatest;
        }

    -- and every two places of it.
    pub every_two_cuts_from : (h p q : ℕ) (starts latencies starts' latencies' x y x' y' : List ℕ) (r t : Result Figures Unmade)
        → Asked (chain_at s n) p h (length starts) (length latencies) → anchor_count (chain_at s n) p h ≤ length starts → MakesFrom s n p starts latencies starts' latencies' r
        → Asked (chain_at s n) q h (length x) (length y) → anchor_count (chain_at s n) q h ≤ length x → MakesFrom s n q x y x' y' t
        → SameAnchors starts' latencies' x' y' (figures_of (chain_at s n) p h) (figures_of (chain_at s n) q h)
    every_two_cuts_from h p q starts latencies starts' latencies' x y x' y' r t k e m l f o =
        every_two_cuts (chain_at s n) (chosen_twelve s n a chosen) h p q starts latencies starts' latencies' x y x' y' r t k e (m.answered chosen) l f (o.answered chosen)

  -- of a table that was completed
  module _ (p : ℕ) (starts latencies starts' latencies' : List ℕ) (f : Figures) (makes : MakesFrom s n p starts latencies starts' latencies' (Ok f)) where
    pub completed_chosen : (choice_of s n).number ≡ 0
    completed_chosen = elim (dec_lt (choice_of s n).number 1) [
      | yes e ↦ omega arith
      | no e ↦ absurd (let q = (makes.refused (λ z. omega arith)).0 in let z : ◌≡◌ {A = ℕ} 0 1 = cc in omega arith)
    ]

    pub made : Makes (chain_at s n) p starts latencies starts' latencies' (Ok f)
    made = makes.answered completed_chosen

    pub table_is_walk_from : (t : ℕ) → f.tick.0 ≤ t → t ≤ upper_tick → SameTicks (delay_from s n t) (reading starts' latencies' f.anchors f.hyperperiod t)
    table_is_walk_from t low high = rw (delay_chosen completed_chosen t) (table_is_walk (chain_at s n) (chosen_twelve s n a completed_chosen) p starts latencies starts' latencies' f made t low high)

    pub greatest_from_holds : SameGreatestFrom s n starts' latencies' f
    greatest_from_holds = same_from completed_chosen starts' latencies' f (greatest_is_delay_and_age (chain_at s n) (chosen_twelve s n a completed_chosen) p starts latencies starts' latencies' f made)

    -- The mean by area, of the walk's delay at every time of a hyperperiod.
    pub mean_from : MeanIsIntegral (chain_at s n) starts' latencies' f
    mean_from = mean_is_integral (chain_at s n) (chosen_twelve s n a completed_chosen) p starts latencies starts' latencies' f made

    -- How often each delay occurs, of the walk's delays at the ticks of a hyperperiod.
    pub counts_from : (width : ℕ) (counts list : List ℕ) (r : Result ℕ Refusal) → Gives starts' latencies' f.anchors f.hyperperiod width counts list r → 1 ≤ width
        → CountsDelays (delay_at (tasks_of (chain_at s n))) f.tick.0 f.hyperperiod width counts list r
    counts_from = counts_walks (chain_at s n) (chosen_twelve s n a completed_chosen) p starts latencies starts' latencies' f made

  pub cuts_agree_from : (p q : ℕ) (starts latencies starts' latencies' : List ℕ) (f : Figures) → MakesFrom s n p starts latencies starts' latencies' (Ok f)
      → (x y x' y' : List ℕ) (g : Figures) → MakesFrom s n q x y x' y' (Ok g) → SameAnchors starts' latencies' x' y' f g
  cuts_agree_from p q starts latencies starts' latencies' f makes x y x' y' g other =
      cuts_agree (chain_at s n) (chosen_twelve s n a (completed_chosen p starts latencies starts' latencies' f makes)) p q starts latencies starts' latencies' f (made p starts latencies starts' latencies' f makes) x y x' y' g (made q x y x' y' g other)
