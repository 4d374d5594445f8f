-- "For every accepted chain", with any permitted gap (order 5), with no premise on what making answers: a chain that 8, 5 and 7 accept, cut at one of its places, has its table completed
-- in any two lists of equal length that hold its g anchors (`completes`). Lists of H / T entries do, T being the period at any place (`room_enough`); the least of these numbers is that of the longest period.
use Rattle.std.specs.Prelude.{ℕ, ◌-◌, ◌/◌, ◌≤◌, ◌<◌, ◌≡◌, refl, List, length, Ok, Result}
use Rattle.std.proofs.Common.{arith, ◌∙◌}
use Rattle.std.proofs.Math.Path.{ap}
use borrow.Author.Tests.{le-leb, eq-eqb}
use Rattle.maker.specs.declared.Unmade.{Unmade}
use Rattle.chain.specs.declared.Chain.{Chain}
use Rattle.chain.specs.Chains.{tasks_of, at}
use Rattle.chain.specs.Checks.{verdict_of}
use Rattle.chain.specs.Hyperperiod.{hyper_of}
use Rattle.chain.proofs.CheckLaws.{Facts, accepted}
use Rattle.timing.specs.WarmUp.{warm_at, warm_tick}
use Rattle.timing.specs.Answers.{upper_tick}
use Rattle.partition.specs.Partitions.{anchors_of}
use Rattle.partition.specs.Selections.{range_length}
use Rattle.partition.proofs.FewAnchors.{few_anchors}
use Rattle.maker.specs.declared.Figures.{Figures}
use Rattle.maker.specs.Making.{judged, figures_of, made_after, made_of, Makes}
use Rattle.agreement.specs.Agreement.{SameDelay, SameAnchors, SameGreatest, table_is_walk, cuts_agree, greatest_is_delay_and_age}

-- A chain that none of 8, 5 and 7 refuses, h being its hyperperiod; a place of it; and lists of equal length, a and b entries long.
pub record Asked (c : Chain) (p h a b : ℕ) : Type 0 where
  pub accepted : verdict_of c ≡ Ok h
  pub low : 1 ≤ p
  pub high : p ≤ c.places
  pub equal : a ≡ b

-- The number of anchors, g, of a chain cut at p.
abbrev pub anchor_count : Chain → ℕ → ℕ → ℕ
anchor_count c p h = length (anchors_of (tasks_of c) (p - 1) h)

module _ (c : Chain) (p h a b : ℕ) (asked : Asked c p h a b) where
  judges : judged c p a b ≡ Ok h
  unfolding judged
  judges = rw (asked.accepted, le-leb 1 p asked.low, le-leb p c.places asked.high, eq-eqb a b asked.equal)

  -- Lists of at least g entries: the table is whole.
  pub completes : anchor_count c p h ≤ a → made_of c p a b ≡ Ok (figures_of c p h)
  unfolding made_after
  completes enough = ap (made_after c p a) judges ∙ rw (le-leb (anchor_count c p h) a enough)

  -- g is at most the number of partitions walked at any place i, counted from 0,
  pub count_few : length c.tasks ≡ 12 → (i : ℕ) → i < c.places → anchor_count c p h ≤ h / (at (tasks_of c) i).period
  count_few twelve i l =
      let k : Facts c h = accepted c h twelve asked.accepted in
      let n : length (tasks_of c) ≡ c.places = k.passes.counted in
      let few = few_anchors (tasks_of c) k.passes.sound (p - 1) i (omega (arith, asked.low, asked.high)) (omega arith) in
      let own : h ≡ hyper_of (tasks_of c) = k.hyper in
      rw own (omega (arith, range_length (warm_at (tasks_of c) i) (hyper_of (tasks_of c) / (at (tasks_of c) i).period)))

  -- so lists of that many entries are enough.
  pub room_enough : length c.tasks ≡ 12 → (i : ℕ) → i < c.places → h / (at (tasks_of c) i).period ≤ a → made_of c p a b ≡ Ok (figures_of c p h)
  room_enough twelve i l room = completes (omega (arith, count_few twelve i l))

-- What the third demand says of one table: it is completed, and what is read from it at every tick and its greatest latency are as the walk and the age have it.
pub record Agreed (c : Chain) (starts latencies : List ℕ) (r : Result Figures Unmade) (f : Figures) : Type 0 where
  pub completed : r ≡ Ok f
  pub from : f.tick.0 ≡ warm_tick (tasks_of c)
  pub delays : (t : ℕ) → warm_tick (tasks_of c) ≤ t → t ≤ upper_tick → SameDelay c starts latencies f t
  pub greatest : SameGreatest c starts latencies f

module _ (c : Chain) (twelve : length c.tasks ≡ 12) (h : ℕ) where
  module _ (p : ℕ) (s v s' v' : List ℕ) (r : Result Figures Unmade) (asked : Asked c p h (length s) (length v)) (enough : anchor_count c p h ≤ length s) (makes : Makes c p s v s' v' r) where
    whole : r ≡ Ok (figures_of c p h)
    whole = makes.answer ∙ completes c p h (length s) (length v) asked enough

    made : Makes c p s v s' v' (Ok (figures_of c p h))
    made = rw whole at makes

    -- Demand 3 for every accepted chain, every place of it and every two lists that hold its anchors.
    pub every_chain : Agreed c s' v' r (figures_of c p h)
    every_chain = record {
      completed = whole;
      from = refl;
      delays = table_is_walk c twelve p s v s' v' (figures_of c p h) made;
      greatest = greatest_is_delay_and_age c twelve p s v s' v' (figures_of c p h) made;
    }

  -- And for every two places of it.
  pub every_two_cuts : (p q : ℕ) (s v s' v' x y x' y' : List ℕ) (r t : Result Figures Unmade)
      → Asked c p h (length s) (length v) → anchor_count c p h ≤ length s → Makes c p s v s' v' r
      → Asked c q h (length x) (length y) → anchor_count c q h ≤ length x → Makes c q x y x' y' t
      → SameAnchors s' v' x' y' (figures_of c p h) (figures_of c q h)
  every_two_cuts p q s v s' v' x y x' y' r t a e m b f n =
      cuts_agree c twelve p q s v s' v' (figures_of c p h) (made p s v s' v' r a e m) x y x' y' (figures_of c q h) (made q x y x' y' t b f n)
