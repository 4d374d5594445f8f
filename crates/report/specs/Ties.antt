-- Which of several places with the longest period the chain is cut at cannot be seen: places with equal periods give one text.
use Rattle.std.specs.Prelude.{ℕ, ◌-◌, ◌≤◌, ◌≡◌, List, length, Result}
use Rattle.std.proofs.Common.{ap, ◌∙◌}
use Rattle.maker.specs.declared.Unmade.{Unmade}
use Rattle.maker.specs.declared.Figures.{Figures}
use Rattle.chain.specs.declared.Chain.{Chain}
use Rattle.chain.specs.Chains.{tasks_of, at}
use Rattle.maker.specs.Making.{made_of, written_of}
use Rattle.latency.specs.Ties.{tie_made, tie_written}
use Rattle.report.specs.Report.{made_text}

-- the text of a chain that is cut at p
abbrev pub cut_text : ℕ → Chain → ℕ → List ℕ
cut_text slots c p = made_text (made_of c p slots slots) (written_of c p slots slots)

pub tie_free : (c : Chain) → length c.tasks ≡ 12 → (slots p q : ℕ) → 1 ≤ p → p ≤ c.places → 1 ≤ q → q ≤ c.places
    → (at (tasks_of c) (p - 1)).period ≡ (at (tasks_of c) (q - 1)).period → cut_text slots c p ≡ cut_text slots c q
tie_free c twelve slots p q a b d e equal =
    ap (λ (m : Result Figures Unmade). made_text m (written_of c p slots slots)) (tie_made c twelve slots p q a b d e equal)
    ∙ ap (made_text (made_of c q slots slots)) (tie_written c twelve slots p q a b d e equal)
