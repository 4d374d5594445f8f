-- What holds at each return of the entry points.
use Rattle.std.specs.Prelude.{Err, Ok, Result}
use Prim.Native.Nat.{ℕ, ◌≤◌, ◌<◌}
use mathlib.Core.Path.{◌≡◌, refl, ap, ◌∙◌}
use mathlib.Core.Bool.{Bool, true, false, cond}
use lib.Dec.{ltb}
use borrow.Author.Tests.{lt-ltb, le-ltb, ltb-false}
use Rattle.refusal.specs.declared.Refusal.{Refusal}
use Rattle.refusal.specs.Refusals.{refusal}
use mathlib.Core.List.{List}
use lib.ListN.{length, get_or}
use native.Mathlib.Omega.{arith}
use Rattle.task.specs.declared.Place.{Place}
use Rattle.task.specs.declared.Job.{Job}
use Rattle.task.specs.declared.Tick.{Tick}
use Rattle.timing.specs.declared.WarmUp.{WarmUp}
use Rattle.ranges.specs.Entries.{entries_at}
use Rattle.chain.specs.Checks.{Sound}
use Rattle.timing.specs.WarmUp.{warm_at, warm_tick}
use Rattle.timing.specs.Answers.{upper_tick, warm_entry, warm_entries, warm_up_after, tick_checked, span_after}
use Rattle.timing.proofs.Entries.{no_job}

-- a tick t that is asked for, where answers are known from `from` on
module _ (t from : ℕ) where
  pub tick_early : t < from → Err (refusal 12 0) ≡ tick_checked t from
  tick_early h = rw (lt-ltb t from h)

  pub tick_late : from ≤ t → 1000000000000 < t → Err (refusal 13 0) ≡ tick_checked t from
  tick_late h g = rw (le-ltb t from h, lt-ltb 1000000000000 t g)

  pub tick_known : from ≤ t → t ≤ 1000000000000 → Ok tt ≡ tick_checked t from
  tick_known h g = rw (le-ltb t from h, le-ltb 1000000000000 t g)

  -- the check that the code makes with x for `from` passes
  pub in_range : (u : Unit {0}) (x : ℕ) → Ok u ≡ tick_checked t x → x ≡ from → (from ≤ t) × (t ≤ 1000000000000)
  in_range u x passed known = go (ltb t from) (ltb 1000000000000 t) refl refl (passed ∙ ap (tick_checked t) known)
    where
      go : (p q : Bool) → ltb t from ≡ p → ltb 1000000000000 t ≡ q → Ok u ≡ cond p (Err (refusal 12 0)) (cond q (Err (refusal 13 0)) (Ok tt)) → (from ≤ t) × (t ≤ 1000000000000)
      go true q early late e = absurd cc
      go false true early late e = absurd cc
      go false false early late e = (ltb-false t from early, ltb-false 1000000000000 t late)

-- a delay or an age, asked for at t and known from `from` on
module _ (v : Result ℕ Refusal) (from t span : ℕ) where
  pub span_refused : (r : Refusal) → v ≡ Err r → Err r ≡ span_after v from t span
  unfolding span_after
  span_refused r e = rw e

  module _ (h : ℕ) (e : v ≡ Ok h) (x : ℕ) (known : x ≡ from) where
    pub span_tick : (r : Refusal) → Err r ≡ tick_checked t x → Err r ≡ span_after v from t span
    unfolding span_after
    span_tick r refused = rw e (go (ltb t from) (ltb upper_tick t) (refused ∙ ap (tick_checked t) known))
      where
        go : (x y : Bool) → ◌≡◌ {A = Result (Unit {0}) Refusal} (Err r) (cond x (Err (refusal 12 0)) (cond y (Err (refusal 13 0)) (Ok tt))) → Err r ≡ cond x (Err (refusal 12 0)) (cond y (Err (refusal 13 0)) (Ok span))
        go true y q = let i : r ≡ refusal 12 0 = cc in ap Err i
        go false true q = let i : r ≡ refusal 13 0 = cc in ap Err i
        go false false q = absurd cc

    pub span_known : (u : Unit {0}) → Ok u ≡ tick_checked t x → (s : ℕ) → s ≡ span → Ok s ≡ span_after v from t span
    unfolding span_after
    span_known u passed s k =
        let r = in_range t from u x passed known in
        rw (e, le-ltb t from r.0, le-ltb 1000000000000 t r.1, k)

-- warm-up
module _ (l : List Place) (v : Result ℕ Refusal) where
  pub warm_refused : (r : Refusal) → v ≡ Err r → Err r ≡ warm_up_after l v
  unfolding warm_up_after
  warm_refused r e = rw e

  pub warm_known : (h : ℕ) → v ≡ Ok h → (jobs : List Job) → jobs ≡ warm_entries l → (t : Tick) → t.0 ≡ warm_tick l
      → ◌≡◌ {A = Result WarmUp Refusal} (Ok (record { jobs = jobs; tick = t; hyperperiod = h })) (warm_up_after l v)
  unfolding warm_up_after
  warm_known h e jobs j t q = rw (e, j) (ap (λ (x : ℕ). made x) q)
    where
      made : ℕ → Result WarmUp Refusal
      made x = Ok (record { jobs = warm_entries l; tick = record { 0 = x }; hyperperiod = h })

-- the array's entry at a place is the warm-up job there
pub entry_job : (l : List Place) → Sound l → (jobs : List Job) → jobs ≡ warm_entries l → (p : ℕ) → p < length l → (get_or jobs p no_job).0 ≡ warm_at l p
entry_job l ok jobs e p h =
    ap (λ (x : List Job). (get_or x p no_job).0) e ∙ ap (λ (x : Job). x.0) (entries_at (warm_entry l) no_job 12 p (omega (arith, ok.few))) ∙ rw (lt-ltb p (length l) h)
