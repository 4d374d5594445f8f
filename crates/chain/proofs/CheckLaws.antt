-- What the checks 8, 5 and 7 say of a chain, and the steps of the loops that make them.
use Rattle.std.specs.Prelude.{Err, Ok, Result, Some}
use Prim.Native.Nat.{ℕ, zero, suc, ◌+◌, ◌-◌, ◌≤◌, ◌<◌}
use native.Mathlib.Omega.{arith}
use mathlib.Core.Path.{◌≡◌, refl, sym, ◌∙◌}
use mathlib.Core.Bool.{Bool, true, false, cond, ◌&&◌}
use mathlib.Core.List.{List, [], ◌∷◌}
use lib.Dec.{leb}
use lib.ListN.{length, get_or, drop, length-drop, length-take, length-map}
use lib.Seq.{get_or-drop, length-take-le}
use borrow.Author.Tests.{le-leb, lt-leb, leb-true}
use Rattle.refusal.specs.declared.Refusal.{Refusal}
use Rattle.refusal.specs.Refusals.{refusal}
use Rattle.task.specs.declared.Task.{Task}
use Rattle.task.specs.declared.Place.{Place}
use Rattle.task.specs.Jobs.{place_of, within_limits, Within, gap_limit}
use Rattle.task.proofs.LinkLaws.{limits, limits_placed}
use Rattle.euclid.specs.Divisor.{lcm_of}
use Rattle.chain.specs.declared.Chain.{Chain}
use Rattle.chain.specs.Chains.{given_of, placed, tasks_of, at, zero_task, zero_place}
use Rattle.chain.specs.Placed.{at_placed}
use Rattle.chain.specs.Hyperperiod.{hyper_from, hyper_of}
use Rattle.chain.specs.Checks.{found, first_fault, after_fault, hyper_verdict, after_gap, verdict_for, verdict_of, verdict_in, Sound, Checked}
use Rattle.chain.specs.StandsFor.{eight}
use Rattle.chain.proofs.Found.{found_some}

-- ---- 5

pub fault_past : (p : ℕ) (a : Task) (l : List Task) → within_limits a ≡ true → first_fault p (a ∷ l) ≡ first_fault (p + 1) l
unfolding first_fault
fault_past p a l h = rw h

pub fault_here : (p : ℕ) (a : Task) (l : List Task) → within_limits a ≡ false → first_fault p (a ∷ l) ≡ p
unfolding first_fault
fault_here p a l h = rw h

pub fault_none : (p : ℕ) → first_fault p [] ≡ 0
unfolding first_fault
fault_none p = refl

-- of a list with no fault every task is within its limits
fault_each : (l : List Task) (p i : ℕ) → 1 ≤ p → first_fault p l ≡ 0 → i < length l → Within (get_or l i zero_task)
unfolding first_fault
fault_each [] p i pos f h = absurd (omega arith)
fault_each (a ∷ l) p i pos f h = go (within_limits a) refl f (λ g k. fault_each l (p + 1) k (omega arith) g) i h
  where
    go : (t : Bool) → within_limits a ≡ t → cond t (first_fault (p + 1) l) p ≡ 0
        → (first_fault (p + 1) l ≡ 0 → (k : ℕ) → k < length l → Within (get_or l k zero_task)) → (i : ℕ) → i < length (a ∷ l) → Within (get_or (a ∷ l) i zero_task)
    go true e f ih zero h = limits a e
    go true e f ih (suc i) h = ih f i (omega arith)
    go false e f ih i h = absurd (omega arith)

-- a list and a gap that pass 8 and 5
pub sound : (g : ℕ) (l : List Task) → 1 ≤ length l → length l ≤ 12 → first_fault 1 l ≡ 0 → g ≤ gap_limit → Sound (placed g l)
sound g l low high f small =
    let n : length (placed g l) ≡ length l = length-map l (place_of g) in
    record { some = omega arith; few = omega arith; each = λ p h. rw (at_placed g l p (omega arith)) (limits_placed g _ (fault_each l 1 p (omega arith) f (omega arith)) small) }

-- ---- 7

pub hyper_cons : (h : ℕ) (a : Place) (l : List Place) → hyper_from h (a ∷ l) ≡ hyper_from (lcm_of h a.period) l
unfolding hyper_from
hyper_cons h a l = refl

pub hyper_nil : (h : ℕ) → hyper_from h [] ≡ h
unfolding hyper_from
hyper_nil h = refl

pub hyper_accepted : (l : List Place) (h : ℕ) → hyper_of l ≡ h → h ≤ 60000000 → Ok h ≡ hyper_verdict l
unfolding hyper_verdict
hyper_accepted l h e g = rw (e, le-leb h 60000000 g)

pub hyper_above : (l : List Place) → 60000000 < hyper_of l → Err (refusal 7 0) ≡ hyper_verdict l
unfolding hyper_verdict
hyper_above l g = rw (lt-leb (hyper_of l) 60000000 g)

-- ---- all three

module _ (n g : ℕ) (l : List Task) where
  pub check_places : (1 ≤ n → 12 < n) → Err (refusal 8 0) ≡ verdict_for n g l
  check_places h = sym (eight n g l h)

  module _ (low : 1 ≤ n) (high : n ≤ 12) where
    pub check_fault : (p : ℕ) → Some p ≡ found (first_fault 1 l) → Err (refusal 5 p) ≡ verdict_for n g l
    unfolding verdict_for
    check_fault zero e = absurd (omega (arith, (found_some _ _ e).1))
    check_fault (suc p) e = rw (le-leb 1 n low, le-leb n 12 high, (found_some _ _ e).0)

    pub check_gap : 0 ≡ first_fault 1 l → gap_limit < g → Err (refusal 5 0) ≡ verdict_for n g l
    unfolding verdict_for after_gap
    check_gap e k = rw (le-leb 1 n low, le-leb n 12 high, sym e, lt-leb g gap_limit k)

    pub check_hyper : 0 ≡ first_fault 1 l → g ≤ gap_limit → hyper_verdict (placed g l) ≡ verdict_for n g l
    unfolding verdict_for after_gap
    check_hyper e k = rw (le-leb 1 n low, le-leb n 12 high, sym e, le-leb g gap_limit k)

  -- what is known where the checks accept
  record Passed (h : ℕ) : Type 0 where
    low : 1 ≤ n
    high : n ≤ 12
    no_fault : first_fault 1 l ≡ 0
    permitted : g ≤ gap_limit
    hyper : h ≡ hyper_of (placed g l)
    small : h ≤ 60000000

  passed : (h : ℕ) → verdict_for n g l ≡ Ok h → Passed h
  unfolding verdict_for after_gap hyper_verdict
  passed h e = go (leb 1 n) (leb n 12) (first_fault 1 l) (leb g gap_limit) (leb (hyper_of (placed g l)) 60000000) refl refl refl refl refl e
    where
      go : (a b : Bool) (f : ℕ) (s d : Bool) → leb 1 n ≡ a → leb n 12 ≡ b → first_fault 1 l ≡ f → leb g gap_limit ≡ s → leb (hyper_of (placed g l)) 60000000 ≡ d
          → cond (a && b) (after_fault f (cond s (cond d (Ok (hyper_of (placed g l))) (Err (refusal 7 0))) (Err (refusal 5 0)))) (Err (refusal 8 0)) ≡ Ok h → Passed h
      go true true zero true true x y f s d k =
          let z : hyper_of (placed g l) ≡ h = cc in
          record { low = leb-true _ _ x; high = leb-true _ _ y; no_fault = f; permitted = leb-true _ _ s; hyper = sym z; small = omega (arith, leb-true (hyper_of (placed g l)) 60000000 d) }
      go true true zero true false x y f s d k = absurd (let z : ◌≡◌ {A = ℕ} 0 1 = cc in omega arith)
      go true true zero false b x y f s d k = absurd (let z : ◌≡◌ {A = ℕ} 0 1 = cc in omega arith)
      go true true (suc p) a b x y f s d k = absurd (let z : ◌≡◌ {A = ℕ} 0 1 = cc in omega arith)
      go true false p a b x y f s d k = absurd (let z : ◌≡◌ {A = ℕ} 0 1 = cc in omega arith)
      go false t p a b x y f s d k = absurd (let z : ◌≡◌ {A = ℕ} 0 1 = cc in omega arith)

-- what an accepted list of tasks has
pub record FactsIn (l : List Place) (h : ℕ) : Type 0 where
  pub sound : Sound l
  pub hyper : h ≡ hyper_of l
  pub small : h ≤ 60000000

pub accepted_in : (g : ℕ) (l : List Task) (h : ℕ) → verdict_in g l ≡ Ok h → FactsIn (placed g l) h
accepted_in g l h e = let k = passed (length l) g l h e in record { sound = sound g l k.low k.high k.no_fault k.permitted; hyper = k.hyper; small = k.small }

-- and an accepted chain
pub record Facts (c : Chain) (h : ℕ) : Type 0 where
  pub passes : Checked c
  pub hyper : h ≡ hyper_of (tasks_of c)
  pub small : h ≤ 60000000

pub accepted : (c : Chain) (h : ℕ) → length c.tasks ≡ 12 → verdict_of c ≡ Ok h → Facts c h
accepted c h twelve e =
    let k = passed c.places c.gap (given_of c) h e in
    let n : length (given_of c) ≡ c.places = length-take-le c.places c.tasks (omega (arith, k.high)) in
    record { passes = record { counted = length-map (given_of c) (place_of c.gap) ∙ n; sound = sound c.gap (given_of c) (omega (arith, k.low)) (omega (arith, k.high)) k.no_fault k.permitted }; hyper = k.hyper; small = k.small }

-- the periods of what is left of the tasks
pub rest_periods : (l : List Place) → Sound l → (i p : ℕ) → p < length (drop i l) → 1 ≤ (at (drop i l) p).period
rest_periods l ok i p h =
    let e : length (drop i l) ≡ length l - i = length-drop i l in
    rw (get_or-drop i l p zero_place) (ok.each (i + p) (omega arith)).period_pos

-- ---- a refusal has a number, and its number and place are small

-- a fault's position is one of the list's
fault_small : (l : List Task) (p : ℕ) → first_fault p l ≤ p + length l
unfolding first_fault
fault_small [] p = omega arith
fault_small (a ∷ l) p = go (within_limits a) (fault_small l (p + 1))
  where
    go : (t : Bool) → first_fault (p + 1) l ≤ p + 1 + length l → cond t (first_fault (p + 1) l) p ≤ p + suc (length l)
    go true ih = omega arith
    go false ih = omega arith

abbrev pub SmallVerdict : Result ℕ Refusal → Type 0
SmallVerdict (Ok h) = Unit {0}
SmallVerdict (Err r) = (r.number < 256) × (r.place ≤ 100) × (1 ≤ r.number)

pub verdict_small : (c : Chain) → SmallVerdict (verdict_of c)
unfolding verdict_for after_gap hyper_verdict
verdict_small c = go (leb 1 c.places) (leb c.places 12) (first_fault 1 (given_of c)) (leb c.gap gap_limit) (leb (hyper_of (tasks_of c)) 60000000) refl (fault_small (given_of c) 1)
  where
    go : (a b : Bool) (f : ℕ) (s d : Bool) → leb c.places 12 ≡ b → f ≤ 1 + length (given_of c)
        → SmallVerdict (cond (a && b) (after_fault f (cond s (cond d (Ok (hyper_of (tasks_of c))) (Err (refusal 7 0))) (Err (refusal 5 0)))) (Err (refusal 8 0)))
    go true true zero true true e h = tt
    go true true zero true false e h = (omega arith, omega arith, omega arith)
    go true true zero false d e h = (omega arith, omega arith, omega arith)
    go true true (suc p) s d e h =
        let n : c.places ≤ 12 = leb-true c.places 12 e in
        (omega arith, omega (arith, length-take c.places c.tasks), omega arith)
    go true false f s d e h = (omega arith, omega arith, omega arith)
    go false b f s d e h = (omega arith, omega arith, omega arith)
