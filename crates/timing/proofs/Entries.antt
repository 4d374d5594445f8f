-- The array of warm-up jobs, entry by entry.
use Prim.Native.Nat.{ℕ, zero, suc, ◌+◌, ◌≤◌, ◌<◌}
use native.Mathlib.Omega.{arith}
use native.Mathlib.Decide.{dec_lt}
use mathlib.Core.Path.{◌≡◌, refl, sym, ap, ◌∙◌}
use mathlib.Core.List.{List}
use lib.ListN.{length, get_or, set, length-set, replicate}
use lib.Seq.{get_or-set_same, get_or-set_other}
use borrow.Author.Tests.{lt-ltb, le-ltb}
use Rattle.task.specs.declared.Place.{Place}
use Rattle.task.specs.declared.Job.{Job}
use Rattle.ranges.specs.Entries.{entries_are}
use Rattle.timing.specs.WarmUp.{warm_at}
use Rattle.timing.specs.Answers.{warm_entry, warm_entries}

abbrev pub no_job : Job
no_job = record { 0 = 0 }

-- from entry i on the array holds what it should
pub record From (l : List Place) (i : ℕ) (jobs : List Job) : Type 0 where
  pub whole : length jobs ≡ 12
  pub each : (x : ℕ) → i ≤ x → x < 12 → get_or jobs x no_job ≡ warm_entry l x

module _ (l : List Place) (few : length l ≤ 12) where
  pub from_store : (i : ℕ) (jobs : List Job) (k : Job) → i < length l → From l (i + 1) jobs → k.0 ≡ warm_at l i → From l i (set jobs i k)
  from_store i jobs k h from e = record {
    whole = length-set jobs i k ∙ from.whole;
    each = λ x g t. elim (dec_lt i x) [
      | yes u ↦ get_or-set_other jobs i x k no_job (λ q. omega arith) ∙ from.each x (omega arith) t
      | no u ↦
          let q : i ≡ x = omega arith in
          ap (λ (y : ℕ). get_or (set jobs i k) y no_job) (sym q) ∙ get_or-set_same jobs i k no_job (omega (arith, from.whole))
          ∙ ap (λ (y : ℕ). record { 0 = y }) e ∙ same x q
    ];
  }
    where
      same : (x : ℕ) → i ≡ x → ◌≡◌ {A = Job} (record { 0 = warm_at l i }) (warm_entry l x)
      same x q = rw (← q, lt-ltb i (length l) h)

  -- past the places there is no job
  pub from_zeros : (i : ℕ) (jobs : List Job) → length l ≤ i → length jobs ≡ 12 → ((x : ℕ) → x < 12 → get_or jobs x no_job ≡ no_job) → From l i jobs
  from_zeros i jobs h whole all = record { whole = whole; each = λ x g t. all x t ∙ past x (omega arith) }
    where
      past : (x : ℕ) → length l ≤ x → no_job ≡ warm_entry l x
      past x g = rw (le-ltb x (length l) g)

  pub from_all : (jobs : List Job) → From l 0 jobs → jobs ≡ warm_entries l
  from_all jobs from = sym (entries_are (warm_entry l) no_job jobs 12 from.whole (λ x h. sym (from.each x (omega arith) h)))

pub zeros_at : (n x : ℕ) → get_or (replicate n no_job) x no_job ≡ no_job
zeros_at zero x = refl
zeros_at (suc n) zero = refl
zeros_at (suc n) (suc x) = zeros_at n x
