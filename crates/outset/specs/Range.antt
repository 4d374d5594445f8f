-- The partitions that a walk goes through, and what each of its steps needs.
use Rattle.std.specs.Prelude.{ℕ, ◌+◌, ◌*◌, ◌/◌, ◌≤◌, ◌<◌, ◌≡◌, List, length}
use Rattle.std.proofs.Common.{arith, div-mul-le_self, div-le_self, ◌∙◌}
use Rattle.task.specs.declared.Place.{Place}
use Rattle.task.specs.Jobs.{write_of}
use Rattle.task.proofs.LinkLaws.{read_mono}
use Rattle.chain.specs.Chains.{at}
use Rattle.chain.specs.Checks.{Sound}
use Rattle.chain.specs.Multiples.{some_jobs}
use Rattle.chain.proofs.CheckLaws.{FactsIn}
use Rattle.timing.specs.WarmUp.{warm_at}
use Rattle.timing.specs.WarmRanges.{warm_range}
use Rattle.stepping.specs.OnePlace.{job_at}
use Rattle.stepping.specs.Standing.{Standing, Steps, Reciprocals}
use Rattle.stepping.specs.Onward.{back_self}
use Rattle.outset.specs.Outset.{Cut}

-- The n partitions from job m of the cut p on, from the warm-up job on; no tick is large.
pub record Range (t : List Place) (places p m n : ℕ) : Type 0 where
  pub sound : Sound t
  pub places_are : places ≡ length t
  pub inside : p < places
  pub warm : warm_at t p ≤ m
  pub some : 1 ≤ n
  pub few : n ≤ 60000000
  pub top : write_of (at t p) (m + n + 1) ≤ 1000000000000

-- a state that stands at a job of the cut has that job there
pub stands_at : (t : List Place) (p j : ℕ) (state : List ℕ) → Standing t p j state → job_at state p ≡ j
stands_at t p j state st = st.all.back_jobs p (omega arith) (omega arith) ∙ back_self t p j

module _ (t : List Place) (places p m n : ℕ) (w : Range t places p m n) where
  pub range_in : p < length t
  range_in = omega (arith, w.inside, w.places_are)

  -- what the first partition needs
  pub range_cut : (Cut t p m) × (places ≡ length t) × (2 * places ≤ 24)
  range_cut = (
    record { sound = w.sound; inside = range_in; warm = w.warm; top = omega (arith, w.top, read_mono (at t p) (m + 1) (m + n + 1) (omega arith)) },
    w.places_are,
    omega (arith, w.places_are, w.sound.few),
  )

  -- and the step from partition k, counted from 0, to the next one
  pub range_steps : (k : ℕ) → k + 1 < n → (r state : List ℕ) → Reciprocals t r → Standing t p (m + k) state → Steps t places p r state
  range_steps k more r state rs st =
      let e = stands_at t p (m + k) state st in
      record {
        at_job = record {
          sound = w.sound;
          places = w.places_are;
          inside = w.inside;
          warm = rw e (omega (arith, w.warm));
          stands = rw e st;
          top = rw e (omega (arith, w.top, read_mono (at t p) (m + k + 1) (m + n + 1) (omega arith)));
        };
        constants = rs;
        top = rw e (omega (arith, w.top, read_mono (at t p) (m + k + 1 + 1) (m + n + 1) (omega arith)));
      }

-- The whole range of an accepted chain, h being its hyperperiod: Wp to Wp + H/Tp − 1.
pub whole_range : (l : List Place) (h places p m n : ℕ) → FactsIn l h → places ≡ length l → p < length l → m ≡ warm_at l p → n ≡ h / (at l p).period → Range l places p m n
whole_range l h places p m n f pl g w u = rw (w, u) record {
  sound = f.sound;
  places_are = pl;
  inside = omega (arith, pl);
  warm = omega arith;
  some = rw f.hyper (some_jobs l f.sound p g);
  few = omega (arith, div-le_self h (at l p).period, f.small);
  top = let k = f.sound.each p g in omega (arith, warm_range l f.sound p g, div-mul-le_self h (at l p).period, k.period_max, k.duration_max, f.small);
}
