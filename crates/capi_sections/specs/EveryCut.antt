-- mo_sections: order 6's two laws, for every chain and every list of cuts that have code 0, and that the maker of one board gets his entry of the latencies by himself. That mo_greatest gives the same greatest latency of the chain's table is `sections_for_c` in capi_agreement/specs/TablesAndWalks.
use Rattle.std.specs.Prelude.{ℕ, ◌+◌, ◌*◌, ◌≤◌, ◌<◌, ◌≡◌, true, length, take, Ok, Err, Result}
use Rattle.std.proofs.Common.{arith, sym, ◌∙◌}
use Rattle.std.proofs.Math.Path.{refl, ap, subst}
use mathlib.Core.List.{List, []}
use Rattle.std.proofs.Math.ListN.{get_or}
use Rattle.refusal.specs.declared.Refusal.{Refusal}
use Rattle.task.specs.declared.Task.{Task}
use Rattle.chain.specs.declared.Chain.{Chain}
use Rattle.chain.specs.Chains.{given_of, tasks_of}
use Rattle.chain.specs.Flat.{given_in}
use Rattle.chain.specs.StandsFor.{StandsFor}
use Rattle.schedule.specs.Schedules.{known}
use Rattle.latency.specs.Latency.{greatest_latency}
use Rattle.sections.specs.declared.Sections.{Sections}
use Rattle.sections.specs.Sections.{sections_of, sections_answer}
use Rattle.sections.proofs.Alone.{chain_alone}
use Rattle.sections.proofs.EveryCut.{refused_small, whole_at_most, each_cut_adds, whole_answer, each_section_adds, never_lowers}
use Rattle.capi_chain.specs.FlatChain.{places_of, chain_from}
use Rattle.capi_chain.specs.Front.{chain_twelve, front_stands}
use Rattle.capi_sections.specs.Calls.{sections_code, latency_numbers, count_number, sum_number, GivesSections}

-- what C gets with code 0 is an answer
record Made (c : Chain) (cuts latencies : List ℕ) (count sum : ℕ) : Type 0 where
  pub made : Sections
  pub is : sections_answer c cuts ≡ Ok made
  pub latencies_are : latencies ≡ made.latencies
  pub count_is : count ≡ made.count
  pub sum_is : sum ≡ made.sum

was_made : (c : Chain) (cuts latencies : List ℕ) (code count sum : ℕ) → GivesSections c cuts code latencies count sum → code ≡ 0 → Made c cuts latencies count sum
was_made c cuts latencies code count sum gives fine = go (sections_answer c cuts) refl
  where
    go : (a : Result Sections Refusal) → sections_answer c cuts ≡ a → Made c cuts latencies count sum
    go (Ok s) e = record {
      made = s;
      is = e;
      latencies_are = gives.gives_latencies ∙ ap latency_numbers e;
      count_is = gives.gives_count ∙ ap count_number e;
      sum_is = gives.gives_sum ∙ ap sum_number e;
    }
    go (Err r) e = absurd (omega (arith, gives.answers ∙ ap sections_code e, (refused_small c cuts r e).2))

module _ (tasks : List ℕ) (places gap : ℕ) where
  -- The whole chain's greatest latency is at most the sum, and each cut adds at least 1.
  pub whole_for_c : (cuts latencies : List ℕ) (code count sum : ℕ) → GivesSections (chain_from tasks places gap) cuts code latencies count sum → code ≡ 0
      → (greatest_latency (tasks_of (chain_from tasks places gap)) ≤ sum) × (greatest_latency (tasks_of (chain_from tasks places gap)) + length cuts ≤ sum)
  whole_for_c cuts latencies code count sum gives fine =
      let z = was_made (chain_from tasks places gap) _ _ _ _ _ gives fine in
      let t = chain_twelve tasks places gap in
      (omega (arith, z.sum_is, whole_at_most (chain_from tasks places gap) t cuts z.made z.is), omega (arith, z.sum_is, each_cut_adds (chain_from tasks places gap) t cuts z.made z.is))

  -- With no cut the sum is that greatest latency.
  pub whole_answer_for_c : (latencies : List ℕ) (code count sum : ℕ) → GivesSections (chain_from tasks places gap) [] code latencies count sum → code ≡ 0 → sum ≡ greatest_latency (tasks_of (chain_from tasks places gap))
  whole_answer_for_c latencies code count sum gives fine =
      let z = was_made (chain_from tasks places gap) _ _ _ _ _ gives fine in
      z.sum_is ∙ whole_answer (chain_from tasks places gap) (chain_twelve tasks places gap) z.made z.is

  -- Cutting a section further never lowers the sum, and each further section adds at least 1.
  pub further_for_c : (cuts latencies : List ℕ) (code count sum : ℕ) → GivesSections (chain_from tasks places gap) cuts code latencies count sum → code ≡ 0
      → (more latencies' : List ℕ) (code' count' sum' : ℕ) → GivesSections (chain_from tasks places gap) more code' latencies' count' sum' → code' ≡ 0
      → ((x : ℕ) → known cuts x ≡ true → known more x ≡ true) → (sum ≤ sum') × (sum + count' ≤ sum' + count)
  further_for_c cuts latencies code count sum gives fine more latencies' code' count' sum' gives' fine' k =
      let a = was_made (chain_from tasks places gap) _ _ _ _ _ gives fine in
      let b = was_made (chain_from tasks places gap) _ _ _ _ _ gives' fine' in
      let t = chain_twelve tasks places gap in (
        omega (arith, a.sum_is, b.sum_is, never_lowers (chain_from tasks places gap) t cuts more a.made b.made a.is b.is k),
        omega (
          arith,
          a.sum_is,
          b.sum_is,
          a.count_is,
          b.count_is,
          each_section_adds (chain_from tasks places gap) t cuts more a.made b.made a.is b.is k,
        ),
      )

  -- Whoever lends the tasks of section i, counted from 0, as a chain of their own with the same gap and no cut, gets code 0 and entry i of the latencies.
  pub alone_for_c : (cuts latencies : List ℕ) (code count sum : ℕ) → GivesSections (chain_from tasks places gap) cuts code latencies count sum → code ≡ 0 → (i : ℕ) → i < count
      → (part : List ℕ) (n : ℕ) → given_in (take (3 * places_of (length part) n) part) ≡ get_or (sections_of (given_of (chain_from tasks places gap)) cuts) i []
      → (latencies' : List ℕ) (code' count' sum' : ℕ) → GivesSections (chain_from part n gap) [] code' latencies' count' sum' → (code' ≡ 0) × (sum' ≡ get_or latencies i 0)
  unfolding chain_from
  alone_for_c cuts latencies code count sum gives fine i h part n e latencies' code' count' sum' gives' =
      let st = subst (λ (l : List Task). StandsFor gap l (chain_from part n gap)) e (front_stands part n gap) in
      let z = was_made (chain_from tasks places gap) _ _ _ _ _ gives fine in
      let w = chain_alone (chain_from tasks places gap) (chain_twelve tasks places gap) cuts z.made z.is i (omega (arith, z.count_is)) (chain_from part n gap) st in
      (gives'.answers ∙ ap sections_code w.0, gives'.gives_sum ∙ ap sum_number w.0 ∙ w.1 ∙ ap (λ (x : List ℕ). get_or x i 0) (sym z.latencies_are))
