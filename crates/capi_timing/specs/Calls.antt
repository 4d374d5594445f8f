-- How the calls for C give answers and refusals as plain numbers.
use Rattle.std.specs.Prelude.{ℕ, ◌≤◌, ◌<◌, ◌≡◌, List, map, replicate, Err, Ok, Result}
use Rattle.refusal.specs.declared.Refusal.{Refusal}
use Rattle.refusal.specs.Refusals.{code_of}
use Rattle.task.specs.declared.Job.{Job}
use Rattle.chain.specs.declared.Chain.{Chain}
use Rattle.chain.specs.Checks.{verdict_of}
use Rattle.timing.specs.Answers.{delay_of, age_of}
use Rattle.timing.specs.declared.WarmUp.{WarmUp}

-- Each answer as its code, 0 for a success, and its value, 0 for a refusal.
abbrev pub verdict_code : Result ℕ Refusal → ℕ
verdict_code (Ok h) = 0
verdict_code (Err r) = code_of r

abbrev pub verdict_hyper : Result ℕ Refusal → ℕ
verdict_hyper (Ok h) = h
verdict_hyper (Err r) = 0

abbrev pub span_code : Result ℕ Refusal → ℕ
span_code (Ok s) = 0
span_code (Err r) = code_of r

abbrev pub span_ticks : Result ℕ Refusal → ℕ
span_ticks (Ok s) = s
span_ticks (Err r) = 0

abbrev pub job_number : Job → ℕ
job_number j = j.0

-- The checks as C gets them: the code and H; walking and ageing: the code and the ticks.
abbrev pub GivesCheck : Chain → ℕ → ℕ → Type 0
GivesCheck c code hyperperiod = (code ≡ verdict_code (verdict_of c)) × (hyperperiod ≡ verdict_hyper (verdict_of c))

abbrev pub GivesDelay : Chain → ℕ → ℕ → ℕ → Type 0
GivesDelay c t code delay = (code ≡ span_code (delay_of c t)) × (delay ≡ span_ticks (delay_of c t))

abbrev pub GivesAge : Chain → ℕ → ℕ → ℕ → Type 0
GivesAge c z code age = (code ≡ span_code (age_of c z)) × (age ≡ span_ticks (age_of c z))

-- Warm-up as its code, and the twelve job numbers, x0 and H; a refusal has zeros for all these numbers.
abbrev pub warm_code : Result WarmUp Refusal → ℕ
warm_code (Ok w) = 0
warm_code (Err r) = code_of r

abbrev pub warm_job_numbers : Result WarmUp Refusal → List ℕ
warm_job_numbers (Ok w) = map job_number w.jobs
warm_job_numbers (Err r) = replicate 12 0

abbrev pub warm_tick_number : Result WarmUp Refusal → ℕ
warm_tick_number (Ok w) = w.tick.0
warm_tick_number (Err r) = 0

abbrev pub warm_hyper_number : Result WarmUp Refusal → ℕ
warm_hyper_number (Ok w) = w.hyperperiod
warm_hyper_number (Err r) = 0

-- Warm-up as C gets it.
pub record GivesWarmUp (w : Result WarmUp Refusal) (code : ℕ) (jobs : List ℕ) (tick hyperperiod : ℕ) : Type 0 where
  pub answers : code ≡ warm_code w
  pub gives_jobs : jobs ≡ warm_job_numbers w
  pub gives_tick : tick ≡ warm_tick_number w
  pub gives_hyperperiod : hyperperiod ≡ warm_hyper_number w

-- A refusal that fits one number: what `give` asks, and every answer has.
abbrev pub SmallSpan : Result ℕ Refusal → Type 0
SmallSpan (Ok s) = Unit {0}
SmallSpan (Err r) = (r.number < 256) × (r.place ≤ 100)
