-- What warm-up, walking and ageing answer of a gap and a list of tasks that stand for a chain is what they answer of the chain.
use Rattle.std.specs.Prelude.{ℕ, ◌≡◌, refl, Result}
use mathlib.Core.List.{List}
use Rattle.refusal.specs.declared.Refusal.{Refusal}
use Rattle.task.specs.declared.Task.{Task}
use Rattle.task.specs.declared.Place.{Place}
use Rattle.chain.specs.declared.Chain.{Chain}
use Rattle.chain.specs.StandsFor.{StandsFor, stands_answer}
use Rattle.timing.specs.WarmUp.{warm_tick}
use Rattle.timing.specs.Delay.{delay_at, first_aged, age_at}
use Rattle.timing.specs.Answers.{warm_up_after, warm_up_of, warm_up_in, span_after, delay_of, delay_in, age_of, age_in}

module _ (g : ℕ) (l : List Task) (c : Chain) (st : StandsFor g l c) where
  pub warm_up_stands : warm_up_in g l ≡ warm_up_of c
  unfolding warm_up_after
  warm_up_stands = stands_answer warm_up_after (λ r x y. refl) g l c st

  pub delay_stands : (t : ℕ) → delay_in g l t ≡ delay_of c t
  unfolding span_after
  delay_stands t = stands_answer (λ (x : List Place) (v : Result ℕ Refusal). span_after v (warm_tick x) t (delay_at x t)) (λ r x y. refl) g l c st

  pub age_stands : (z : ℕ) → age_in g l z ≡ age_of c z
  unfolding span_after
  age_stands z = stands_answer (λ (x : List Place) (v : Result ℕ Refusal). span_after v (first_aged x) z (age_at x z)) (λ r x y. refl) g l c st
