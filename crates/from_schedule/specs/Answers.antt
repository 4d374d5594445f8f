-- Order 1 of document 02: "Every analysis from a schedule takes a chain number." What each answers: the refusal of the choice, 8, 5, 6 or 16, with lent
-- lists as they were, or else what the analysis answers of the chain with that number.
use Rattle.std.specs.Prelude.{ℕ, ◌≡◌, List, Err, Result}
use Rattle.maker.specs.declared.Unmade.TheVariants.{Refused}
use Rattle.windows.specs.declared.Windows.{Windows}
use Rattle.maker.specs.declared.Unmade.{Unmade}
use Rattle.maker.specs.declared.Figures.{Figures}
use Rattle.bookings.specs.declared.Bookings.{Bookings}
use Rattle.refusal.specs.declared.Refusal.{Refusal}
use Rattle.chain.specs.declared.Chain.{Chain}
use Rattle.schedule.specs.declared.Schedule.{Schedule}
use Rattle.schedule.specs.Schedules.{chain_at}
use Rattle.schedule_checks.specs.Checks.{choice_of, after_choice}
use Rattle.timing.specs.declared.WarmUp.{WarmUp}
use Rattle.timing.specs.Answers.{warm_up_of, delay_of, age_of}
use Rattle.maker.specs.Making.{Makes}
use Rattle.windows.specs.Windows.{windows_of}
use Rattle.sections.specs.declared.Sections.{Sections}
use Rattle.sections.specs.Sections.{sections_answer}
use Rattle.bookings.specs.Bookings.{bookings_of}

-- Warm-up,
abbrev pub warm_up_from : Schedule → ℕ → Result WarmUp Refusal
warm_up_from s n = after_choice s n Err warm_up_of

-- walking,
abbrev pub delay_from : Schedule → ℕ → ℕ → Result ℕ Refusal
delay_from s n t = after_choice s n Err (λ (c : Chain). delay_of c t)

-- ageing,
abbrev pub age_from : Schedule → ℕ → ℕ → Result ℕ Refusal
age_from s n z = after_choice s n Err (λ (c : Chain). age_of c z)

-- windows of k jobs.
abbrev pub windows_from : Schedule → ℕ → ℕ → ℕ → Result Windows Refusal
windows_from s n B k = after_choice s n Err (λ (c : Chain). windows_of c B k)

-- Sections of a chain that is cut (order 6).
abbrev pub sections_from : Schedule → ℕ → List ℕ → Result Sections Refusal
sections_from s n cuts = after_choice s n Err (λ (c : Chain). sections_answer c cuts)

-- Two chains: 16 for either number, then as of the two chains.
abbrev pub bookings_from : Schedule → ℕ → ℕ → ℕ → Result Bookings Refusal
bookings_from s first second t = after_choice s first Err (λ (c : Chain). after_choice s second Err (λ (d : Chain). bookings_of c d t))

-- Where an analysis says more than one value: what holds in a refusal of the choice, and what holds of the chain that was chosen.
pub record HoldsAfter (s : Schedule) (n : ℕ) (Refused : Refusal → Type 0) (Answered : Chain → Type 0) : Type 0 where
  pub refused : ((choice_of s n).number ≡ 0 → ⊥) → Refused (choice_of s n)
  pub answered : (choice_of s n).number ≡ 0 → Answered (chain_at s n)

-- Making, given the lists' contents before and after: a refusal of the choice leaves them as they were.
abbrev pub MakesFrom : Schedule → ℕ → ℕ → List ℕ → List ℕ → List ℕ → List ℕ → Result Figures Unmade → Type 0
MakesFrom s n p starts latencies starts' latencies' r =
    HoldsAfter s n
    (λ (q : Refusal). (r ≡ Err (Refused q)) × (starts' ≡ starts) × (latencies' ≡ latencies))
    (λ (c : Chain). Makes c p starts latencies starts' latencies' r)
