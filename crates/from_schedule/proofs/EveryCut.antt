-- Order 6's two laws, of the sections of a chain of a schedule: the whole chain's greatest latency, which every completed table of it has, is at most the sum, and cutting a section further never lowers the sum. Each cut adds at least 1.
use Rattle.std.specs.Prelude.{ℕ, ◌+◌, ◌≤◌, ◌≡◌, true, List, [], length, Ok, Err}
use Rattle.std.proofs.Common.{sym, ◌∙◌}
use Rattle.chain.specs.declared.Chain.{Chain}
use Rattle.chain.specs.Chains.{tasks_of}
use Rattle.schedule.specs.declared.Schedule.{Schedule}
use Rattle.schedule.specs.Schedules.{known, chain_at}
use Rattle.schedule.specs.Arrays.{Arrays}
use Rattle.schedule_checks.specs.Checks.{choice_of}
use Rattle.schedule_checks.proofs.ChosenChain.{chosen_twelve, choice_answers, answer_chosen}
use Rattle.figures.specs.Figures.{greatest_of}
use Rattle.maker.specs.declared.Figures.{Figures}
use Rattle.latency.specs.Latency.{greatest_latency}
use Rattle.latency.specs.GreatestDelay.{table_greatest}
use Rattle.sections.specs.declared.Sections.{Sections}
use Rattle.sections.specs.Sections.{sections_answer}
use Rattle.sections.proofs.EveryCut.{whole_at_most, each_cut_adds, whole_answer, each_section_adds, never_lowers}
use Rattle.from_schedule.specs.Answers.{sections_from, MakesFrom}
use Rattle.from_schedule.proofs.ChainByChain.{completed_chosen, made}

module _ (s : Schedule) (a : Arrays s) (n : ℕ) where
  -- an answer that is no refusal is that of a chain that was chosen
  chosen : (cuts : List ℕ) (w : Sections) → sections_from s n cuts ≡ Ok w → (choice_of s n).number ≡ 0
  chosen cuts w fine = answer_chosen s n Err (λ (c : Chain). sections_answer c cuts) (Ok w) (λ r e. absurd cc) fine

  is : (cuts : List ℕ) (w : Sections) → sections_from s n cuts ≡ Ok w → sections_answer (chain_at s n) cuts ≡ Ok w
  is cuts w fine = sym (choice_answers s n Err (λ (c : Chain). sections_answer c cuts) (chosen cuts w fine)) ∙ fine

  -- The whole chain's greatest latency is the figure of every completed table of it.
  pub table_from : (p : ℕ) (starts latencies starts' latencies' : List ℕ) (f : Figures) → MakesFrom s n p starts latencies starts' latencies' (Ok f)
      → greatest_of starts' latencies' f.anchors f.hyperperiod ≡ Ok (greatest_latency (tasks_of (chain_at s n)))
  table_from p starts latencies starts' latencies' f makes =
      table_greatest (chain_at s n) (chosen_twelve s n a (completed_chosen s a n p starts latencies starts' latencies' f makes)) p starts latencies starts' latencies' f
      (made s a n p starts latencies starts' latencies' f makes)

  -- It is at most the sum, and each cut adds at least 1.
  pub whole_from : (cuts : List ℕ) (w : Sections) → sections_from s n cuts ≡ Ok w
      → (greatest_latency (tasks_of (chain_at s n)) ≤ w.sum) × (greatest_latency (tasks_of (chain_at s n)) + length cuts ≤ w.sum)
  whole_from cuts w fine =
      let t = chosen_twelve s n a (chosen cuts w fine) in
      let x = is cuts w fine in
      (whole_at_most (chain_at s n) t cuts w x, each_cut_adds (chain_at s n) t cuts w x)

  -- With no cut the sum is that greatest latency.
  pub whole_answer_from : (w : Sections) → sections_from s n [] ≡ Ok w → w.sum ≡ greatest_latency (tasks_of (chain_at s n))
  whole_answer_from w fine = whole_answer (chain_at s n) (chosen_twelve s n a (chosen [] w fine)) w (is [] w fine)

  module _ (cuts more : List ℕ) (v w : Sections) (p : sections_from s n cuts ≡ Ok v) (q : sections_from s n more ≡ Ok w) (k : (x : ℕ) → known cuts x ≡ true → known more x ≡ true) where
    -- Cutting a section further never lowers the sum, and each further section adds at least 1.
    pub further_from : (v.sum ≤ w.sum) × (v.sum + w.count ≤ w.sum + v.count)
    further_from =
        let t = chosen_twelve s n a (chosen cuts v p) in
        let x = is cuts v p in
        let y = is more w q in
        (never_lowers (chain_at s n) t cuts more v w x y k, each_section_adds (chain_at s n) t cuts more v w x y k)
