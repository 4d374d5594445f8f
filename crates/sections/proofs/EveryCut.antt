-- Document 02, order 6, over all cut lists and gaps: "the whole chain's greatest latency is at most the sum, and cutting a section further never lowers the sum".
-- Both hold more strongly: each cut adds at least 1. Of places first, then of what the call answers.
use Rattle.std.specs.Prelude.{ℕ, ◌+◌, ◌≤◌, ◌≡◌, Bool, true, false, length, Err, Ok, Result}
use Rattle.std.proofs.Common.{arith, sym, ap, ◌∙◌, length-append}
use Rattle.std.proofs.Math.Path.{refl}
use Rattle.std.proofs.lemmas.Bool.{false≢true}
use mathlib.Core.List.{List, [], ◌++◌}
use Rattle.std.proofs.Math.ListN.{get_or-append}
use Rattle.refusal.specs.declared.Refusal.{Refusal}
use Rattle.refusal.specs.Refusals.{refusal}
use Rattle.task.specs.declared.Place.{Place}
use Rattle.chain.specs.declared.Chain.{Chain}
use Rattle.chain.specs.Chains.{at, zero_place, last_place, given_of, tasks_of}
use Rattle.chain.specs.Checks.{verdict_of}
use Rattle.chain.specs.Hyperperiod.{hyper_of}
use Rattle.chain.proofs.CheckLaws.{SmallVerdict, verdict_small, Facts, accepted}
use Rattle.schedule.specs.Schedules.{known}
use Rattle.latency.specs.Latency.{greatest_latency}
use Rattle.sections.specs.declared.Sections.{Sections}
use Rattle.sections.specs.Sections.{rises_to, valid_cuts, sum_of, answered, after_cuts, sections_after, sections_answer}
use Rattle.sections.specs.Uniform.{Uniform, Cuttable, cuttable_placed}
use Rattle.sections.specs.TwoSections.{two_sections}
use Rattle.sections.proofs.CutLaws.{total_none, sections_count, add, further_known, further_longer}

-- ---- of places

-- one cut of a chain with one gap
cut_adds : (g : ℕ) (u v : List Place) → 1 ≤ length u → 1 ≤ length v → Uniform g (u ++ v) → greatest_latency (u ++ v) + 1 ≤ greatest_latency u + g + greatest_latency v
cut_adds g u v a b k =
    let e : (at u (last_place u)).gap ≡ g = ap (λ (x : Place). x.gap) (sym (get_or-append u v zero_place (last_place u) (omega arith))) ∙ k.gaps (last_place u) (omega (arith, length-append u v)) in
    omega (arith, two_sections u v a b k.sound)

none_known : (x : ℕ) → known [] x ≡ true → ⊥
unfolding known
none_known x k = false≢true k

module _ (g : ℕ) (l : List Place) (ok : Uniform g l) where
  -- "cutting a section further": every cut of `cuts` is one of `more` (`known`: a number is one of a list's). Each further cut adds at least 1.
  pub further_adds : (cuts more : List ℕ) → valid_cuts l cuts ≡ true → valid_cuts l more ≡ true → ((x : ℕ) → known cuts x ≡ true → known more x ≡ true)
      → sum_of g l cuts + length more ≤ sum_of g l more + length cuts
  further_adds cuts more p q k = add greatest_latency g (cut_adds g) more cuts 0 (length l) l ok (omega arith) p q (further_known (length l) more cuts 0 p q k)

  -- with no cut it is the whole chain's
  pub whole_sum : sum_of g l [] ≡ greatest_latency l
  whole_sum = total_none greatest_latency g 0 l

  -- Each cut adds at least 1 to the whole chain's greatest latency.
  pub whole_below : (cuts : List ℕ) → valid_cuts l cuts ≡ true → greatest_latency l + length cuts ≤ sum_of g l cuts
  unfolding rises_to
  whole_below cuts q = omega (arith, whole_sum, further_adds [] cuts refl q (λ x k. absurd (none_known x k)))

-- ---- of what the call answers

-- Each refusal has a number above 0, and fits one number with its place.
pub refused_small : (c : Chain) (cuts : List ℕ) (r : Refusal) → sections_answer c cuts ≡ Err r → SmallVerdict (Err r)
unfolding sections_after
refused_small c cuts r e = go (verdict_of c) (valid_cuts (tasks_of c) cuts) refl (verdict_small c) e
  where
    go : (v : Result ℕ Refusal) (t : Bool) → valid_cuts (tasks_of c) cuts ≡ t → SmallVerdict v → sections_after c.gap (tasks_of c) cuts (after_cuts (length (tasks_of c)) cuts v) ≡ Err r → SmallVerdict (Err r)
    go (Err q) t f s z = let i : q ≡ r = cc in rw (← i) s
    go (Ok h) true f s z = absurd (let y : ◌≡◌ {A = Result Sections Refusal} (Ok (answered c.gap (tasks_of c) cuts)) (Err r) = rw f at z in cc)
    go (Ok h) false f s z =
        let i : refusal 17 0 ≡ r = let y : ◌≡◌ {A = Result Sections Refusal} (Err (refusal 17 0)) (Err r) = rw f at z in cc in
        rw (← i) (omega arith, omega arith, omega arith)

-- What is known of sections s that are answered: the chain's own checks accept it, and the cuts are valid.
pub record Answered (c : Chain) (cuts : List ℕ) (s : Sections) : Type 0 where
  pub accepted : verdict_of c ≡ Ok (hyper_of (tasks_of c))
  pub ok : Cuttable c.gap (tasks_of c)
  pub valid : valid_cuts (tasks_of c) cuts ≡ true
  pub is : s ≡ answered c.gap (tasks_of c) cuts

module _ (c : Chain) (twelve : length c.tasks ≡ 12) where
  pub is_answered : (cuts : List ℕ) (s : Sections) → sections_answer c cuts ≡ Ok s → Answered c cuts s
  unfolding sections_after
  is_answered cuts s fine = go (verdict_of c) (valid_cuts (tasks_of c) cuts) refl refl fine
    where
      facts : (h : ℕ) → verdict_of c ≡ Ok h → Facts c h
      facts h e = accepted c h twelve e

      go : (v : Result ℕ Refusal) (t : Bool) → verdict_of c ≡ v → valid_cuts (tasks_of c) cuts ≡ t → sections_after c.gap (tasks_of c) cuts (after_cuts (length (tasks_of c)) cuts v) ≡ Ok s → Answered c cuts s
      go (Err r) t e f z = absurd cc
      go (Ok h) true e f z =
          let y : answered c.gap (tasks_of c) cuts ≡ s = let x : ◌≡◌ {A = Result Sections Refusal} (Ok (answered c.gap (tasks_of c) cuts)) (Ok s) = rw f at z in cc in
          record {
            accepted = e ∙ ap Ok (facts h e).hyper;
            ok = cuttable_placed c.gap (given_of c) h (facts h e).passes.sound (facts h e).hyper (facts h e).small;
            valid = f;
            is = sym y;
          }
      go (Ok h) false e f z = absurd (let y : ◌≡◌ {A = Result Sections Refusal} (Err (refusal 17 0)) (Ok s) = rw f at z in cc)

  -- Exactly then there is no refusal.
  pub when_answered : (cuts : List ℕ) (h : ℕ) → verdict_of c ≡ Ok h → valid_cuts (tasks_of c) cuts ≡ true → sections_answer c cuts ≡ Ok (answered c.gap (tasks_of c) cuts)
  unfolding sections_after
  when_answered cuts h e f = rw (e, f)

  module _ (cuts : List ℕ) (s : Sections) (a : sections_answer c cuts ≡ Ok s) where
    -- Each cut adds at least 1 to the whole chain's greatest latency,
    pub each_cut_adds : greatest_latency (tasks_of c) + length cuts ≤ s.sum
    each_cut_adds = let k = is_answered cuts s a in omega (arith, ap (λ (x : Sections). x.sum) k.is, whole_below c.gap (tasks_of c) k.ok.uniform cuts k.valid)

    -- so "the whole chain's greatest latency is at most the sum".
    pub whole_at_most : greatest_latency (tasks_of c) ≤ s.sum
    whole_at_most = omega (arith, each_cut_adds)

  -- No cut at all answers the whole chain's greatest latency.
  pub whole_answer : (s : Sections) → sections_answer c [] ≡ Ok s → s.sum ≡ greatest_latency (tasks_of c)
  whole_answer s a = let k = is_answered [] s a in ap (λ (x : Sections). x.sum) k.is ∙ whole_sum c.gap (tasks_of c) k.ok.uniform

  module _ (cuts more : List ℕ) (s t : Sections) (a : sections_answer c cuts ≡ Ok s) (b : sections_answer c more ≡ Ok t) (k : (x : ℕ) → known cuts x ≡ true → known more x ≡ true) where
    -- Each further section adds at least 1,
    pub each_section_adds : s.sum + t.count ≤ t.sum + s.count
    each_section_adds =
        let p = is_answered cuts s a in
        let q = is_answered more t b in
        omega (
          arith,
          ap (λ (x : Sections). x.sum) p.is,
          ap (λ (x : Sections). x.sum) q.is,
          ap (λ (x : Sections). x.count) p.is,
          ap (λ (x : Sections). x.count) q.is,
          sections_count cuts 0 (tasks_of c),
          sections_count more 0 (tasks_of c),
          further_adds c.gap (tasks_of c) p.ok.uniform cuts more p.valid q.valid k,
        )

    -- there are no fewer sections,
    no_fewer : s.count ≤ t.count
    no_fewer =
        let p = is_answered cuts s a in
        let q = is_answered more t b in
        omega (
          arith,
          ap (λ (x : Sections). x.count) p.is,
          ap (λ (x : Sections). x.count) q.is,
          sections_count cuts 0 (tasks_of c),
          sections_count more 0 (tasks_of c),
          further_longer cuts more (further_known (length (tasks_of c)) more cuts 0 p.valid q.valid k),
        )

    -- so "cutting a section further never lowers the sum".
    pub never_lowers : s.sum ≤ t.sum
    never_lowers = omega (arith, each_section_adds, no_fewer)
