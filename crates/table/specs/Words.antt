-- The answer for C is read without doubt: a number below 2^32 is a delay, and 2^32 + number a refusal, whose number is at most 14.
use Rattle.std.specs.Prelude.{◌≡◌, refl, Bool, true, false, cond, List, ℕ, ◌≤◌, ◌<◌, ltb, Err, Ok, Result}
use Rattle.std.proofs.Common.{ap, arith, ltb-false}
use Rattle.refusal.specs.declared.Refusal.{Refusal}
use Rattle.refusal.specs.Refusals.{refusal}
use Rattle.table.specs.Anchors.{anchors, first_start}
use Rattle.table.specs.WellFormed.{well_formed}
use Rattle.table.specs.Reading.{delay_at, upper_tick, reading}
use Rattle.table.specs.BothWays.{well_formed_iff}
use Rattle.table.specs.Delays.{delay_small}

-- the refusal's number, 0 for a delay; the delay, 0 for a refusal
abbrev number_of : Result ℕ Refusal → ℕ
number_of (Ok d) = 0
number_of (Err r) = r.number

abbrev delay_of : Result ℕ Refusal → ℕ
delay_of (Ok d) = d
delay_of (Err r) = 0

-- reading, by the answers of its three tests
abbrev by : Bool → Bool → Bool → ℕ → Result ℕ Refusal
by w early late d = cond w (cond early (Err (refusal 12 0)) (cond late (Err (refusal 13 0)) (Ok d))) (Err (refusal 14 0))

pub number_small : (s v : List ℕ) (g H t : ℕ) (r : Refusal) → reading s v g H t ≡ Err r → r.number ≤ 14
unfolding reading
number_small s v g H t r e =
    rw (ap number_of e) at (go (well_formed s v g H) (ltb t (first_start (anchors s v g))) (ltb upper_tick t) (delay_at H (anchors s v g) t))
  where
    go : (w early late : Bool) (d : ℕ) → number_of (by w early late d) ≤ 14
    go true true late d = omega arith
    go true false true d = omega arith
    go true false false d = omega arith
    go false early late d = omega arith

pub word_small : (s v : List ℕ) (g H t d : ℕ) → reading s v g H t ≡ Ok d → d < 4294967296
unfolding reading
word_small s v g H t d e =
    rw (ap delay_of e) at (go (well_formed s v g H) (ltb t (first_start (anchors s v g))) (ltb upper_tick t) refl refl)
  where
    go : (w early late : Bool) → well_formed s v g H ≡ w → ltb t (first_start (anchors s v g)) ≡ early
        → delay_of (by w early late (delay_at H (anchors s v g) t)) < 4294967296
    go true true late k h = omega arith
    go true false true k h = omega arith
    go true false false k h = delay_small s v g H ((well_formed_iff s v g H).0 k) t (ltb-false t (first_start (anchors s v g)) h)
    go false early late k h = omega arith
