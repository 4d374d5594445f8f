-- What the functions of this crate answer: what each call gave, by the definition of that call, and beside it that these values agree.
use Rattle.std.specs.Prelude.{ℕ, suc, ◌+◌, ◌-◌, ◌≤◌, ◌<◌, ◌≡◌, cond, ◌&&◌, List, leb, get_or, Ok, Result}
use Rattle.refusal.specs.declared.Refusal.{Refusal}
use Rattle.maker.specs.declared.Unmade.{Unmade}
use Rattle.chain.specs.declared.Chain.{Chain}
use Rattle.timing.specs.Answers.{upper_tick, delay_of, age_of}
use Rattle.table.specs.Reading.{reading}
use Rattle.figures.specs.Figures.{greatest_of}
use Rattle.maker.specs.declared.Figures.{Figures}
use Rattle.maker.specs.Making.{told, Makes}
use Rattle.agreement.specs.declared.Delays.{Delays}
use Rattle.agreement.specs.declared.Cuts.{Cuts}
use Rattle.agreement.specs.declared.Bounds.{Bounds}
use Rattle.agreement.specs.declared.Peak.{Peak}
use Rattle.agreement.specs.Agreement.{SameTicks, SameAnchors}

-- The delay read from a table that making left, with the g and H that it told, and the greatest latency of that table.
abbrev pub read_from : Result Figures Unmade → List ℕ → List ℕ → ℕ → Result ℕ Refusal
read_from m starts latencies t = reading starts latencies (told m).anchors (told m).hyperperiod t

abbrev pub greatest_from : Result Figures Unmade → List ℕ → List ℕ → Result ℕ Refusal
greatest_from m starts latencies = greatest_of starts latencies (told m).anchors (told m).hyperperiod

-- `table_is_walk`: making, reading and walking; at every tick from x0 to the upper tick a completed table gives what the walk gives.
pub record ReadAndWalked (c : Chain) (p t : ℕ) (starts latencies starts' latencies' : List ℕ) (r : Delays) : Type 0 where
  pub makes : Makes c p starts latencies starts' latencies' r.made
  pub reads : r.read ≡ read_from r.made starts' latencies' t
  pub walks : r.walked ≡ delay_of c t
  pub agree : (f : Figures) → r.made ≡ Ok f → f.tick.0 ≤ t → t ≤ upper_tick → SameTicks r.walked r.read

-- `cuts_agree`: making twice; two completed tables have the same anchors, whatever stands from g on.
pub record CutTwice (c : Chain) (p q : ℕ) (starts latencies starts' latencies' others delays others' delays' : List ℕ) (r : Cuts) : Type 0 where
  pub makes : Makes c p starts latencies starts' latencies' r.first
  pub makes_other : Makes c q others delays others' delays' r.second
  pub agree : (f g : Figures) → r.first ≡ Ok f → r.second ≡ Ok g → SameAnchors starts' latencies' others' delays' f g

-- The greatest latency is answered; no delay is above it, and 1 + an age is not either.
pub record Bounded (greatest : Result ℕ Refusal) (delay age : Result ℕ Refusal) : Type 0 where
  pub latency : ℕ
  pub is_greatest : greatest ≡ Ok latency
  pub delay_within : (n : ℕ) → delay ≡ Ok n → n ≤ latency
  pub age_within : (n : ℕ) → age ≡ Ok n → suc n ≤ latency

-- `greatest_not_exceeded`: making, the greatest latency, walking and ageing; a completed table's greatest latency is exceeded at no tick.
pub record NotExceeded (c : Chain) (p t z : ℕ) (starts latencies starts' latencies' : List ℕ) (r : Bounds) : Type 0 where
  pub makes : Makes c p starts latencies starts' latencies' r.made
  pub greatest : r.greatest ≡ greatest_from r.made starts' latencies'
  pub walks : r.delay ≡ delay_of c t
  pub ages : r.age ≡ age_of c z
  pub agree : (f : Figures) → r.made ≡ Ok f → Bounded r.greatest r.delay r.age

-- The last tick before the write at start + latency; 0 where there is none, or that write lies above the upper tick.
abbrev pub last_before : ℕ → ℕ → ℕ
last_before start latency = cond (leb 1 latency && leb (start + latency) upper_tick) (start + latency - 1) 0

-- `greatest_reached`: making, the greatest latency, and at anchor i, counted from 0, walking at its start and ageing just before the write;
-- where anchor i of a completed table has the greatest latency, that is the delay there and 1 + the age.
pub record ReachedThere (c : Chain) (p i : ℕ) (starts latencies starts' latencies' : List ℕ) (r : Peak) : Type 0 where
  pub makes : Makes c p starts latencies starts' latencies' r.made
  pub greatest : r.greatest ≡ greatest_from r.made starts' latencies'
  pub starts_at : r.start ≡ get_or starts' i 0
  pub lasts : r.latency ≡ get_or latencies' i 0
  pub walks : r.delay ≡ delay_of c r.start
  pub ages : r.age ≡ age_of c (last_before r.start r.latency)
  pub agree : (f : Figures) → r.made ≡ Ok f → i < f.anchors → r.greatest ≡ Ok r.latency
      → (r.delay ≡ Ok r.latency) × (r.age ≡ Ok (r.latency - 1)) × (1 ≤ r.latency)
