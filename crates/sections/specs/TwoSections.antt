-- One cut of a chain: its greatest latency is below the sum of those of its two sections, each with its own warm-up, and the gap of the link that is cut.
use Rattle.std.specs.Prelude.{ℕ, suc, ◌+◌, ◌-◌, ◌≤◌, ◌≡◌, List, ◌++◌, length}
use Rattle.std.proofs.Common.{arith, ap, ◌∙◌, subst}
use Rattle.std.proofs.Math.Decide.{dec_lt}
use Rattle.std.proofs.Math.Path.{refl}
use Rattle.task.specs.declared.Place.{Place}
use Rattle.task.specs.Jobs.{write_of}
use Rattle.task.specs.Links.{earliest_from, earliest_after, forward_link}
use Rattle.task.proofs.LinkLaws.{after_less}
use Rattle.chain.specs.Chains.{at, last_place, walk}
use Rattle.chain.specs.Checks.{Sound}
use Rattle.timing.specs.WarmUp.{warm_at, warm_tick}
use Rattle.timing.specs.Delay.{delay_at}
use Rattle.timing.specs.Period.{press_after}
use Rattle.partition.proofs.CutFree.{end_walk}
use Rattle.timing.specs.WarmLaws.{walk_mono}
use Rattle.agreement.specs.Jobs.{walk_warm, walk_after, end_after}
use Rattle.latency.specs.Latency.{greatest_latency}
use Rattle.latency.specs.GreatestDelay.{greatest_latency_is}
use Rattle.sections.specs.OneCut.{Walks, one_cut}
use Rattle.sections.specs.Parts.{sound_left, sound_right, first_left, taken, walk_two, end_two}

-- What `one_cut` asks of a chain that passes 8 and 5.
walks_of : (l : List Place) → Sound l → Walks (at l 0) (walk l) (end_walk l) (warm_tick l) (greatest_latency l)
unfolding delay_at warm_tick
walks_of l ok =
    let g = greatest_latency_is l ok in
    let pos = (ok.each 0 ok.some).period_pos in
    record {
      pos = pos;
      mono = walk_mono l ok;
      ends = λ i j e. ap (write_of (at l (last_place l))) e;
      after = end_after l ok;
      comes = λ t h.
          let p = press_after l ok t h in
          let e : suc (earliest_after (at l 0) t - 1) ≡ earliest_after (at l 0) t = omega arith in
          rw e at (walk_after l ok (earliest_after (at l 0) t - 1) (omega arith));
      warm = λ t h. (after_less (at l 0) pos t (warm_at l 0)).0 (elim (dec_lt (warm_at l 0) (earliest_after (at l 0) t)) [
        | yes k ↦ k
        | no k ↦ absurd (omega (arith, walk_mono l ok (earliest_after (at l 0) t) (warm_at l 0) (omega arith), walk_warm l ok))
      ]);
      bound = g.bound;
      at = g.at;
      late = g.late;
      meets = g.meets;
    }

module _ (u v : List Place) (some-u : 1 ≤ length u) (some-v : 1 ≤ length v) (ok : Sound (u ++ v)) where
  -- the gap of the link between the two
  abbrev gap : ℕ
  gap = (at u (last_place u)).gap

  -- that link, as a job that reads at or after the first one's end and the gap
  on : (j : ℕ) → taken u v some-u some-v ok j ≡ earliest_from (at v 0) (end_walk u j + gap)
  unfolding forward_link
  on j = refl

  pub two_sections : greatest_latency (u ++ v) + 1 ≤ greatest_latency u + (at u (last_place u)).gap + greatest_latency v
  two_sections =
      one_cut (at u 0) (at v 0) (walk u) (end_walk u) (walk v) (end_walk v) (walk (u ++ v)) (end_walk (u ++ v)) _ _ _ _ _ _ gap
      (walks_of u (sound_left u v some-u some-v ok)) (walks_of v (sound_right u v some-u some-v ok))
      (subst (λ (a : Place). Walks a (walk (u ++ v)) (end_walk (u ++ v)) (warm_tick (u ++ v)) (greatest_latency (u ++ v))) (first_left u v some-u some-v ok) (walks_of (u ++ v) ok))
      (λ j. walk_two u v some-u some-v ok j ∙ ap (walk v) (on j)) (λ j. end_two u v some-u some-v ok j ∙ ap (end_walk v) (on j))
