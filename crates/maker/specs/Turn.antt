-- One turn of the loop over the partitions, and what the loop leaves.
use Rattle.std.specs.Prelude.{ℕ, ◌+◌, ◌-◌, ◌/◌, ◌≤◌, ◌<◌, ◌≡◌, Bool, true, false, not, cond, ◌&&◌, List, [], ◌∷◌, eqb, length}
use Rattle.std.proofs.lemmas.List.Edits.{sets}
use Rattle.task.specs.declared.Place.{Place}
use Rattle.chain.specs.Chains.{at}
use Rattle.chain.specs.Hyperperiod.{hyper_of}
use Rattle.table.specs.Anchors.{Anchor, anchor}
use Rattle.partition.specs.declared.Partition.{Partition}
use Rattle.partition.specs.Lists.{range_from}
use Rattle.partition.specs.Partitions.{anchors_from, start_of, IsPartition}
use Rattle.stepping.specs.OnePlace.{job_at}
use Rattle.stepping.specs.Standing.{Standing}
use Rattle.outset.specs.Range.{Range}
use Rattle.maker.specs.declared.Count.{Count}
use Rattle.maker.specs.Making.{starts_of, latencies_of, overlay}

-- Whether partition x is an anchor, y being the start of the next one and q the end of the kept one before.
unfoldable pub is_anchor : Partition → ℕ → ℕ → Bool
is_anchor x y q = not (eqb y x.start.0) && not (eqb x.end.0 q)

abbrev pub anchor_at : Partition → Anchor
anchor_at x = anchor x.start.0 (x.end.0 - x.start.0)

abbrev pub one : Bool → Anchor → List Anchor
one true a = a ∷ []
one false a = []

-- The anchor that the turn adds, or none.
abbrev pub added : Partition → ℕ → ℕ → List Anchor
added x y q = one (is_anchor x y q) (anchor_at x)

-- The end of the kept partition before the one that starts at y.
unfoldable pub last_end : Partition → ℕ → ℕ → ℕ
last_end x y q = cond (eqb y x.start.0) q x.end.0

pub record Added (x : Partition) (y q g : ℕ) (s l s' l' : List ℕ) (r : ℕ) : Type 0 where
  pub count : r ≡ g + length (added x y q)
  pub first : s' ≡ sets s g (starts_of (added x y q))
  pub second : l' ≡ sets l g (latencies_of (added x y q))

-- The n partitions from m on, at most a whole range of them, and the start of the one after them.
pub record Fills (t : List Place) (places p m n after : ℕ) : Type 0 where
  pub range : Range t places p m n
  pub round : n ≤ hyper_of t / (at t p).period
  pub later : after ≡ start_of t p (m + n)

-- What the loop over the n partitions from m on leaves.
pub record Filled (t : List Place) (p m n : ℕ) (s l s' l' : List ℕ) (r : Count) : Type 0 where
  pub anchors : r.anchors ≡ length (anchors_from t p m n)
  pub walked : r.walked ≡ length (range_from m n)
  pub first : s' ≡ overlay (starts_of (anchors_from t p m n)) s
  pub second : l' ≡ overlay (latencies_of (anchors_from t p m n)) l

-- What the walk over the n partitions from x on begins with: their first one, the start of the one after them, and the state.
pub record Begins (t : List Place) (places p n : ℕ) (x : Partition) (after : ℕ) (state : List ℕ) : Type 0 where
  pub fills : Fills t places p x.job.0 n after
  pub is : IsPartition t p x.job.0 x
  pub stands : Standing t p x.job.0 state

-- What the walk leaves of the state: it stands n − 1 steps on, and no place's job gained more than H / T on the way (order 4 of document 02).
pub record Walked (t : List Place) (p m n : ℕ) (old new : List ℕ) : Type 0 where
  pub stands : Standing t p (m + (n - 1)) new
  pub gains : (i : ℕ) → i < length t → job_at new i ≤ job_at old i + hyper_of t / (at t i).period
