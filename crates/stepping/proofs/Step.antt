-- One step of all places, as the code makes it.
use Prim.Native.Nat.{ℕ, ◌+◌, ◌-◌, ◌*◌, ◌≤◌}
use native.Mathlib.Omega.{arith}
use mathlib.Core.Path.{◌≡◌, ◌∙◌}
use mathlib.Core.List.{List}
use lib.ListN.{length, set, length-set}
use Rattle.task.specs.declared.Place.{Place}
use Rattle.task.proofs.LinkLaws.{read_mono}
use Rattle.chain.specs.Chains.{at}
use Rattle.partition.specs.declared.Partition.{Partition}
use Rattle.partition.specs.Partitions.{IsPartition}
use Rattle.partition.proofs.Bounds.{job_fits}
use Rattle.stepping.specs.OnePlace.{job_at}
use Rattle.stepping.specs.Went.{Went, Ready}
use Rattle.stepping.specs.Standing.{Standing, Stands, cut_in, Steps, Stepped}
use Rattle.stepping.specs.Onward.{back_self, back_ready, on_ready, stands_on}

module _ (l : List Place) (n p : ℕ) (r s : List ℕ) (k : Steps l n p r s) where
  pub job_fits_on : job_at s p + 1 ≤ 1000000000000
  job_fits_on = omega (arith, job_fits l k.at_job.sound p (cut_in l n p s k.at_job) (job_at s p + 1 + 1), k.top)

  module _ (cutJob : ℕ) where
    pub back_fit : Ready r p (set s (2 * p) cutJob) 0 p
    back_fit =
        back_ready l k.at_job.sound p (cut_in l n p s k.at_job) (job_at s p) k.at_job.warm r k.constants s k.at_job.stands cutJob
        (omega (arith, k.at_job.top, read_mono (at l p) (job_at s p) (job_at s p + 1) (omega arith)))

    module _ (s₂ : List ℕ) (back : Went r p (λ x. x + 1) 0 p (set s (2 * p) cutJob) s₂) where
      pub on_fit : Ready r p s₂ (p + 1) n
      on_fit = rw k.at_job.places (on_ready l k.at_job.sound p (cut_in l n p s k.at_job) (job_at s p) k.at_job.warm r k.constants s k.at_job.stands cutJob s₂ back k.at_job.top)

      module _ (s₃ : List ℕ) (on : Went r p (λ x. x - 1) (p + 1) n s₂ s₃) where
        pub same_long : length s₃ ≡ length s
        same_long = on.long ∙ back.long ∙ length-set s (2 * p) cutJob

        module _ (is : cutJob ≡ job_at s p + 1) where
          stands_next : Standing l p (job_at s p + 1) s₃
          stands_next = stands_on l k.at_job.sound p (cut_in l n p s k.at_job) (job_at s p) k.at_job.warm r k.constants s k.at_job.stands cutJob s₂ back s₃ (rw k.at_job.places at on) is

          job_next : job_at s₃ p ≡ job_at s p + 1
          job_next = stands_next.all.back_jobs p (omega arith) (omega arith) ∙ back_self l p (job_at s p + 1)

          pub here_fit : Stands l n p s₃
          here_fit = record {
            sound = k.at_job.sound;
            places = k.at_job.places;
            inside = k.at_job.inside;
            warm = omega (arith, k.at_job.warm, job_next);
            stands = rw job_next stands_next;
            top = rw job_next k.top;
          }

          pub stepped : (x : Partition) → IsPartition l p (job_at s₃ p) x → Stepped l p s s₃ x
          stepped x i = record { stands = stands_next; partition = rw job_next at i }
