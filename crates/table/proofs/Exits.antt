-- Exit laws over plain lists and numbers: what each turn and each return of the loops and entry points shows.
use mathlib.Core.Path.{◌≡◌, refl, sym, ◌∙◌}
use mathlib.Core.Bool.{Bool, true, false}
use mathlib.Core.List.{List}
use Prim.Native.Nat.{ℕ, ◌+◌, ◌-◌, ◌%◌, ◌≤◌, ◌<◌}
use native.Mathlib.Omega.{arith}
use Rattle.std.specs.Prelude.{leb, Err, Ok}
use Rattle.std.specs.List.Sorted.{IsPartitionedBy, IsPartitionPoint}
use Rattle.std.proofs.lemmas.Bool.{false≢true}
use Rattle.std.proofs.lemmas.List.{get_or-take, length-take-le}
use Rattle.std.proofs.lemmas.List.Sorted.{IsNonDecreasingBy-from_default, IsPartitionedBy-leb}
use lib.ListN.{length, get_or, take, drop}
use Rattle.std.proofs.Math.Decide.{dec_lt}
use borrow.Author.Tests.{le-leb, lt-leb, lt-ltb, le-ltb, leb-true, leb-false}
use Rattle.table.specs.Anchors.{anchors, first_start}
use Rattle.table.specs.WellFormed.{first_start_limit, ◌and◌, fitting, spaced, measured, well_formed, WellFormed}
use Rattle.table.specs.BothWays.{measured_true, checked_true, checked_well, checked_refused}
use Rattle.refusal.specs.declared.Refusal.{Refusal}
use Rattle.refusal.specs.Refusals.{refusal}
use Rattle.table.specs.Reading.{upper_tick, checked, reading}
use Rattle.table.specs.Delays.{LastStart, rises, delay_place, delay_least}
use Rattle.table.specs.Places.{first_at, spaced_at, spaced_end, next_inner, next_last}

and_true : (b : Bool) → (b and true) ≡ b
and_true true = refl
and_true false = refl

-- the test of the anchors from place i on
module _ (s v : List ℕ) (g end i : ℕ) (x : Bool) (p : g ≤ length s) (q : length s ≡ length v) (inv : x ≡ spaced end (drop i (anchors s v g))) where
  spaced_inner : i + 1 < g → x ≡ (fitting (get_or s i 0) (get_or s (i + 1) 0) (get_or v i 0) and spaced end (drop (i + 1) (anchors s v g)))
  spaced_inner h = rw (next_inner s g end i h) at (inv ∙ spaced_at s v g p (omega arith) end i (omega arith))

  pub spaced_stop : i + 1 < g → (r : Bool) → r ≡ fitting (get_or s i 0) (get_or s (i + 1) 0) (get_or v i 0) → r ≡ false → false ≡ x
  spaced_stop h r e k = sym (spaced_inner h ∙ rw (← e, k))

  pub spaced_on : i + 1 < g → (r : Bool) → r ≡ fitting (get_or s i 0) (get_or s (i + 1) 0) (get_or v i 0) → r ≡ true → x ≡ spaced end (drop (i + 1) (anchors s v g))
  spaced_on h r e k = spaced_inner h ∙ rw (← e, k)

  pub spaced_last : i + 1 ≡ g → (r : Bool) → r ≡ fitting (get_or s i 0) end (get_or v i 0) → r ≡ x
  unfolding spaced
  spaced_last h r e =
      let w : x ≡ (fitting (get_or s i 0) end (get_or v i 0) and spaced end (drop (i + 1) (anchors s v g)))
      = rw (next_last s g end i h) at (inv ∙ spaced_at s v g p (omega arith) end i (omega arith)) in
      e ∙ sym (w ∙ rw (spaced_end s v g end (i + 1) h) (and_true (fitting (get_or s i 0) end (get_or v i 0))))

-- the whole test
module _ (s v : List ℕ) (g H : ℕ) (m : Bool) (e : m ≡ measured (length s) (length v) g H) where
  pub formed_sizes : m ≡ false → false ≡ well_formed s v g H
  unfolding well_formed
  formed_sizes k = rw (← e, k)

  pub formed_late : m ≡ true → first_start_limit < get_or s 0 0 → false ≡ well_formed s v g H
  unfolding well_formed
  formed_late k h =
      let a = measured_true (length s) (length v) g H (sym e ∙ k) in
      rw (← e, k, first_at s v g a.2 (omega arith) a.1, lt-leb (get_or s 0 0) first_start_limit h)

  pub formed_rest : m ≡ true → get_or s 0 0 ≤ first_start_limit → (r : Bool) → r ≡ spaced (get_or s 0 0 + H) (anchors s v g) → r ≡ well_formed s v g H
  unfolding well_formed
  formed_rest k h r d =
      let a = measured_true (length s) (length v) g H (sym e ∙ k) in
      rw (← e, k, first_at s v g a.2 (omega arith) a.1, le-leb (get_or s 0 0) first_start_limit h) d

-- the starts of a well-formed table at most u come before those above u, and the place before the first above u holds the last at most u
module _ (s v : List ℕ) (g H u : ℕ) (w : WellFormed s v g H) where
  pub starts_parted : IsPartitionedBy (λ y. leb y u) (take g s)
  starts_parted =
      let e : length (take g s) ≡ g = length-take-le g s w.fits in
      IsPartitionedBy-leb (λ y. y) (take g s) u
      (IsNonDecreasingBy-from_default (λ y. y) (take g s) 0 (λ i j p q.
      let d : i + (j - i) ≡ j = omega arith in
      rw (get_or-take g s i 0 (omega arith), get_or-take g s j 0 (omega arith)) (rw d at (rises s v g H w (j - i) i (omega arith)))))

  module _ (k : ℕ) (h : get_or s 0 0 ≤ u) (a : IsPartitionPoint (λ y. leb y u ≡ true) (λ y. leb y u ≡ false) (take g s) k) (b : k ≤ length (take g s)) where
    pub some_start : 1 ≤ k
    some_start = elim (dec_lt 0 k) [
      | yes p ↦ omega arith
      | no n ↦
          let t : k ≤ 0 = omega arith in
          let f = a.1 0 0 t (omega (arith, length-take-le g s w.fits, w.some)) in
          absurd (false≢true (sym (rw (get_or-take g s 0 0 w.some) at f) ∙ le-leb _ u h))
    ]

    above : k < g → u < get_or s k 0
    above m = leb-false _ u (rw (get_or-take g s k 0 m) at (a.1 k 0 (omega arith) (omega (arith, length-take-le g s w.fits))))

    pub last_start : LastStart s g u (k - 1)
    last_start =
        let l : length (take g s) ≡ g = length-take-le g s w.fits in
        let p = some_start in
        let q : k - 1 + 1 ≡ k = omega arith in
        record {
          inside = omega arith;
          here = leb-true _ u (rw (get_or-take g s (k - 1) 0 (omega arith)) at (a.0 (k - 1) 0 (omega arith) (omega arith)));
          next = λ m. rw q (above (rw q at m));
        }

-- reading at t
module _ (s v : List ℕ) (g H t : ℕ) where
  pub read_unformed : (r : Refusal) → Err r ≡ checked s v g H → Err r ≡ reading s v g H t
  unfolding reading
  read_unformed r e = checked_refused s v g H r e _

  module _ (u : Unit {0}) (e : Ok u ≡ checked s v g H) where
    first : first_start (anchors s v g) ≡ get_or s 0 0
    first = let f = checked_well s v g H u e in first_at s v g f.fits (omega arith) f.some

    pub read_early : t < get_or s 0 0 → Err (refusal 12 0) ≡ reading s v g H t
    unfolding reading
    read_early h = rw (checked_true s v g H u e, first, lt-ltb t (get_or s 0 0) h)

    pub read_late : get_or s 0 0 ≤ t → upper_tick < t → Err (refusal 13 0) ≡ reading s v g H t
    unfolding reading
    read_late h l = rw (checked_true s v g H u e, first, le-ltb t (get_or s 0 0) h, lt-ltb upper_tick t l)

    module _ (h : get_or s 0 0 ≤ t) (i : ℕ) (l : LastStart s g (get_or s 0 0 + (t - get_or s 0 0) % H) i) where
      -- the delay is above 0, so the subtraction is exact
      pub read_room : get_or s 0 0 + (t - get_or s 0 0) % H - get_or s i 0 ≤ get_or v i 0
      read_room =
          let f = checked_well s v g H u e in
          omega (arith, delay_place s v g H f t i l, delay_least s v g H f t (rw first h))

      pub read_delay : t ≤ upper_tick → Ok (get_or v i 0 - (get_or s 0 0 + (t - get_or s 0 0) % H - get_or s i 0)) ≡ reading s v g H t
      unfolding reading
      read_delay b =
          rw (checked_true s v g H u e, first, le-ltb t (get_or s 0 0) h, le-ltb upper_tick t b, delay_place s v g H (checked_well s v g H u e) t i l)
