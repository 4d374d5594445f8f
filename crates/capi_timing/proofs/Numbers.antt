-- The numbers of a list of jobs, entry by entry.
use Prim.Native.Nat.{ℕ, ◌<◌}
use native.Mathlib.Omega.{arith}
use mathlib.Core.Path.{◌≡◌, sym, ◌∙◌}
use mathlib.Core.List.{List, map}
use lib.ListN.{length, get_or, length-map, get_or-map}
use lib.Seq.{ext_get_or}
use Rattle.task.specs.declared.Job.{Job}
use Rattle.capi_timing.specs.Calls.{job_number}

abbrev pub no_job : Job
no_job = record { 0 = 0 }

-- a list of as many numbers, each of its job
pub numbers_are : (n : ℕ) (all : List Job) (numbers : List ℕ) → length all ≡ n → length numbers ≡ n → ((x : ℕ) → x < n → get_or numbers x 0 ≡ job_number (get_or all x no_job)) → numbers ≡ map job_number all
numbers_are n all numbers e long each =
    ext_get_or 0 numbers (map job_number all) (long ∙ sym e ∙ sym (length-map all job_number)) (λ x h. each x (omega arith) ∙ sym (get_or-map job_number all x no_job))
