-- What holds at each return of `judge` and `make_table`, and what an accepted making has.
use Rattle.std.specs.Prelude.{Err, Ok, Result}
use Prim.Native.Nat.{ℕ, ◌+◌, ◌-◌, ◌/◌, ◌≤◌, ◌<◌}
use native.Mathlib.Omega.{arith}
use mathlib.Core.Path.{◌≡◌, refl, sym, ap, ◌∙◌}
use mathlib.Core.Bool.{Bool, true, false, cond, ◌&&◌}
use mathlib.Core.List.{List, []}
use mathlib.Core.Logic.{◌⊎◌, inl, inr}
use lib.Dec.{leb, eqb}
use lib.ListN.{length, length-map}
use borrow.Author.Tests.{le-leb, lt-leb, leb-true, eq-eqb, eqb-true, ne_eqb}
use Rattle.maker.specs.declared.Unmade.TheVariants.{Refused, Short}
use Rattle.maker.specs.declared.Unmade.{Unmade}
use Rattle.refusal.specs.declared.Refusal.{Refusal}
use Rattle.refusal.specs.Refusals.{refusal}
use Rattle.task.specs.declared.Task.{Task}
use Rattle.task.specs.declared.Place.{Place}
use Rattle.task.specs.declared.Tick.{Tick}
use Rattle.task.specs.Jobs.{place_of}
use Rattle.chain.specs.declared.Chain.{Chain}
use Rattle.chain.specs.Chains.{placed, tasks_of, at}
use Rattle.chain.specs.Checks.{verdict_of, verdict_in, Sound}
use Rattle.chain.specs.Flat.{given_in, in_count}
use Rattle.chain.specs.StandsFor.{StandsFor}
use Rattle.chain.proofs.CheckLaws.{FactsIn}
use Rattle.timing.specs.WarmUp.{warm_at, warm_tick}
use Rattle.timing.specs.WarmRanges.{warm_range}
use Rattle.partition.specs.Partitions.{start_of, anchors_of}
use Rattle.stepping.specs.Moves.{starts_again}
use Rattle.outset.specs.Range.{whole_range}
use Rattle.maker.specs.declared.Count.{Count}
use Rattle.maker.specs.declared.Figures.{Figures}
use Rattle.maker.specs.Turn.{Filled, Fills}
use Rattle.maker.specs.Making.{after_checks, judged, figures_of, made_after, written_after, told, told_with, told_after, starts_of, latencies_of, overlay, Makes, MakesFor}
use Rattle.maker.proofs.Lists.{sets_overlay}

module _ (h places p a b : ℕ) where
  pub judge_place : (p < 1) ⊎ ((1 ≤ p) × (places < p)) → Err (refusal 9 0) ≡ after_checks (Ok h) places p a b
  judge_place (inl l) = rw (lt-leb 1 p l)
  judge_place (inr (l, k)) = rw (le-leb 1 p l, lt-leb p places k)

  pub judge_lists : 1 ≤ p → p ≤ places → (a ≡ b → ⊥) → Err (refusal 10 0) ≡ after_checks (Ok h) places p a b
  judge_lists l k n = rw (le-leb 1 p l, le-leb p places k, ne_eqb a b n)

  pub judge_well : 1 ≤ p → p ≤ places → a ≡ b → Ok h ≡ after_checks (Ok h) places p a b
  judge_well l k n = rw (le-leb 1 p l, le-leb p places k, eq-eqb a b n)

-- the checks of making, the tests made
abbrev after : Result ℕ Refusal → Bool → Bool → Bool → Result ℕ Refusal
after (Err r) x y z = Err r
after (Ok h) x y z = cond (x && y) (cond z (Ok h) (Err (refusal 10 0))) (Err (refusal 9 0))

after_same : (v : Result ℕ Refusal) (places p a b : ℕ) → after_checks v places p a b ≡ after v (leb 1 p) (leb p places) (eqb a b)
after_same (Err r) places p a b = refl
after_same (Ok h) places p a b = refl

-- what the checks say of a gap and a list of tasks
abbrev pub judged_in : ℕ → List Task → ℕ → ℕ → ℕ → Result ℕ Refusal
judged_in d t p a b = after_checks (verdict_in d t) (length (placed d t)) p a b

-- of a flat list, v being what the chain's own checks say
pub judge_in : (d : ℕ) (list : List ℕ) (v : Result ℕ Refusal) → v ≡ verdict_in d (given_in list) → (p a b : ℕ) → after_checks v (length list / 3) p a b ≡ judged_in d (given_in list) p a b
judge_in d list v e p a b = rw (e, in_count d list)

-- they say it of the chain that the list stands for
judged_stands : (d : ℕ) (t : List Task) (c : Chain) → StandsFor d t c → (p a b : ℕ) → judged_in d t p a b ≡ judged c p a b
unfolding judged
judged_stands d t c st p a b = ap (λ (v : Result ℕ Refusal). after_checks v (length (placed d t)) p a b) st.verdict ∙ go (verdict_of c) refl
  where
    go : (v : Result ℕ Refusal) → verdict_of c ≡ v → after_checks v (length (placed d t)) p a b ≡ after_checks v c.places p a b
    go (Ok h) e = ap (λ (n : ℕ). after_checks (Ok h) n p a b) (length-map t (place_of d) ∙ st.places h e)
    go (Err r) e = refl

-- what is known of a making that is accepted, v being what the chain's own checks say and n the number of places
pub record Well (v : Result ℕ Refusal) (n p a b h : ℕ) : Type 0 where
  pub whole : v ≡ Ok h
  pub low : 1 ≤ p
  pub high : p ≤ n
  pub equal : a ≡ b

pub well : (v : Result ℕ Refusal) (n p a b h : ℕ) → after_checks v n p a b ≡ Ok h → Well v n p a b h
well v n p a b h r = go v (leb 1 p) (leb p n) (eqb a b) refl refl refl refl (sym (after_same v n p a b) ∙ r)
  where
    go : (w : Result ℕ Refusal) (x y z : Bool) → v ≡ w → leb 1 p ≡ x → leb p n ≡ y → eqb a b ≡ z
        → after w x y z ≡ Ok h → Well v n p a b h
    go (Ok k) true true true e l t m q = let u : k ≡ h = cc in record { whole = e ∙ ap Ok u; low = leb-true _ _ l; high = leb-true _ _ t; equal = eqb-true a b m }
    go (Ok k) true true false e l t m q = absurd (let u : ◌≡◌ {A = ℕ} 0 1 = cc in omega arith)
    go (Ok k) true false z e l t m q = absurd (let u : ◌≡◌ {A = ℕ} 0 1 = cc in omega arith)
    go (Ok k) false y z e l t m q = absurd (let u : ◌≡◌ {A = ℕ} 0 1 = cc in omega arith)
    go (Err f) x y z e l t m q = absurd (let u : ◌≡◌ {A = ℕ} 0 1 = cc in omega arith)

pub warm_tick_small : (l : List Place) → Sound l → warm_tick l ≤ 60011000
unfolding warm_tick
warm_tick_small l ok = warm_range l ok 0 ok.some

-- and `fill` has what it needs: the start after the range is a hyperperiod after the warm-up tick
pub range_fills : (l : List Place) (h places p m n after : ℕ) → FactsIn l h → places ≡ length l → p < length l → m ≡ warm_at l p → n ≡ h / (at l p).period → after ≡ warm_tick l + h → Fills l places p m n after
range_fills l h places p m n after f pl g w u a = rw (w, u, a) record {
  range = whole_range l h places p (warm_at l p) (h / (at l p).period) f pl g refl refl;
  round = rw f.hyper (omega arith);
  later = sym (ap (λ (x : ℕ). start_of l p (warm_at l p + x / (at l p).period)) f.hyper ∙ starts_again l f.sound p g ∙ ap (λ (x : ℕ). warm_tick l + x) (sym f.hyper));
}

-- an answer tells its number, place and figures
pub tells_so : (c : Chain) (p a : ℕ) (v : Result ℕ Refusal) (r : Result Figures Unmade) → r ≡ made_after c p a v → told r ≡ told_after c p a v
unfolding made_after told_after
tells_so c p a (Err x) r e = ap told e
tells_so c p a (Ok h) r e = ap told e ∙ go (leb (length (anchors_of (tasks_of c) (p - 1) h)) a)
  where
    go : (t : Bool) → told (cond t (Ok (figures_of c p h)) (Err (Short (figures_of c p h)))) ≡ told_with (cond t 0 11) (figures_of c p h)
    go true = refl
    go false = refl

module _ (c : Chain) (p : ℕ) (s l : List ℕ) where
  -- the contract from the verdict
  finish : (v : Result ℕ Refusal) (r : Result Figures Unmade) (s' l' : List ℕ) → judged c p (length s) (length l) ≡ v → r ≡ made_after c p (length s) v
      → s' ≡ overlay (starts_of (written_after c p v)) s → l' ≡ overlay (latencies_of (written_after c p v)) l → Makes c p s l s' l' r
  finish v r s' l' e a f g = record { answer = rw e a; tells = rw e (tells_so c p (length s) v r a); leaves_starts = rw e f; leaves_latencies = rw e g }

  refused : (r : Refusal) → judged c p (length s) (length l) ≡ Err r → Makes c p s l s l (Err (Refused r))
  unfolding made_after written_after
  refused r e = finish (Err r) (Err (Refused r)) s l e refl (sets_overlay [] s) (sets_overlay [] l)

  -- t holds the tasks at the chain's places
  module _ (h m n : ℕ) (x : Tick) (s' l' : List ℕ) (f : Count) (e : judged c p (length s) (length l) ≡ Ok h) (t : List Place) (same : t ≡ tasks_of c) (w : m ≡ warm_at t (p - 1)) (k : x.0 ≡ warm_tick t)
      (u : n ≡ h / (at t (p - 1)).period) (all : Filled t (p - 1) m n s l s' l' f) where
    filled : Filled (tasks_of c) (p - 1) (warm_at (tasks_of c) (p - 1)) (h / (at (tasks_of c) (p - 1)).period) s l s' l' f
    filled = rw (w, u, same) at all

    made : ℕ → ℕ → ℕ → Figures
    made g y i = record { anchors = g; tick = record { 0 = y }; hyperperiod = h; walked = i }

    figures : ◌≡◌ {A = Figures} (record { anchors = f.anchors; tick = x; hyperperiod = h; walked = f.walked }) (figures_of c p h)
    unfolding made
    figures =
        ap (λ (g : ℕ). made g x.0 f.walked) filled.anchors ∙ ap (λ (y : ℕ). made (length (anchors_of (tasks_of c) (p - 1) h)) y f.walked) (k ∙ ap warm_tick same)
        ∙ ap (λ (i : ℕ). made (length (anchors_of (tasks_of c) (p - 1) h)) (warm_tick (tasks_of c)) i) filled.walked

    whole : f.anchors ≤ length s → Makes c p s l s' l' (Ok (record { anchors = f.anchors; tick = x; hyperperiod = h; walked = f.walked }))
    unfolding made_after written_after
    whole g =
        finish (Ok h) _ s' l' e (rw (le-leb (length (anchors_of (tasks_of c) (p - 1) h)) (length s) (omega (arith, filled.anchors))) (ap Ok figures)) filled.first filled.second

    short : length s < f.anchors → Makes c p s l s' l' (Err (Short (record { anchors = f.anchors; tick = x; hyperperiod = h; walked = f.walked })))
    unfolding made_after written_after
    short g =
        finish (Ok h) _ s' l' e (rw (lt-leb (length (anchors_of (tasks_of c) (p - 1) h)) (length s) (omega (arith, filled.anchors))) (ap (λ (x : Figures). Err (Short x)) figures)) filled.first filled.second

-- the same for every chain that a gap and a list of tasks stand for
module _ (d : ℕ) (t : List Task) (p : ℕ) (s l : List ℕ) where
  pub made_refused : (r : Refusal) → judged_in d t p (length s) (length l) ≡ Err r → MakesFor d t p s l s l (Err (Refused r))
  made_refused r e c st = refused c p s l r (sym (judged_stands d t c st p (length s) (length l)) ∙ e)

  module _ (h m n : ℕ) (x : Tick) (s' l' : List ℕ) (f : Count) (e : judged_in d t p (length s) (length l) ≡ Ok h) (w : m ≡ warm_at (placed d t) (p - 1)) (k : x.0 ≡ warm_tick (placed d t))
      (u : n ≡ h / (at (placed d t) (p - 1)).period) (all : Filled (placed d t) (p - 1) m n s l s' l' f) where
    so : (c : Chain) → StandsFor d t c → judged c p (length s) (length l) ≡ Ok h
    so c st = sym (judged_stands d t c st p (length s) (length l)) ∙ e

    same : (c : Chain) → StandsFor d t c → placed d t ≡ tasks_of c
    same c st = st.tasks h (sym st.verdict ∙ (well (verdict_in d t) (length (placed d t)) p (length s) (length l) h e).whole)

    pub made_whole : f.anchors ≤ length s → MakesFor d t p s l s' l' (Ok (record { anchors = f.anchors; tick = x; hyperperiod = h; walked = f.walked }))
    made_whole g c st = whole c p s l h m n x s' l' f (so c st) (placed d t) (same c st) w k u all g

    pub made_short : length s < f.anchors → MakesFor d t p s l s' l' (Err (Short (record { anchors = f.anchors; tick = x; hyperperiod = h; walked = f.walked })))
    made_short g c st = short c p s l h m n x s' l' f (so c st) (placed d t) (same c st) w k u all g
