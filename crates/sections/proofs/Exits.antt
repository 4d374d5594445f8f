-- What holds at each turn and return of `rises` and `section_latencies_on`.
use Rattle.std.specs.Prelude.{Err, Ok, Result}
use Prim.Native.Nat.{ℕ, ◌+◌, ◌≤◌, ◌<◌}
use mathlib.Core.Path.{◌≡◌, refl}
use mathlib.Core.Bool.{Bool, true, false, cond}
use mathlib.Core.List.{List}
use lib.ListN.{length, drop, get_or}
use borrow.Author.Tests.{lt-ltb, le-ltb}
use Rattle.refusal.specs.declared.Refusal.{Refusal}
use Rattle.refusal.specs.Refusals.{refusal}
use Rattle.task.specs.declared.Task.{Task}
use Rattle.chain.specs.Chains.{placed}
use Rattle.chain.specs.Checks.{verdict_in}
use Rattle.chain.proofs.CheckLaws.{accepted_in}
use Rattle.chain.proofs.Front.{rest_cons, rest_end}
use Rattle.sections.specs.Sections.{rises_to, after_cuts}
use Rattle.sections.specs.Uniform.{Cuttable, cuttable_placed}

-- ---- a turn of `rises`

module _ (n from i : ℕ) (cuts : List ℕ) (more : i < length cuts) where
  pub turn_low : get_or cuts i 0 ≤ from → rises_to n from (drop i cuts) ≡ false
  unfolding rises_to
  turn_low h = rw (rest_cons cuts i 0 more, le-ltb from (get_or cuts i 0) h)

  pub turn_high : from < get_or cuts i 0 → n ≤ get_or cuts i 0 → rises_to n from (drop i cuts) ≡ false
  unfolding rises_to
  turn_high h k = rw (rest_cons cuts i 0 more, lt-ltb from (get_or cuts i 0) h, le-ltb (get_or cuts i 0) n k)

  pub turn_on : from < get_or cuts i 0 → get_or cuts i 0 < n → rises_to n from (drop i cuts) ≡ rises_to n (get_or cuts i 0) (drop (i + 1) cuts)
  unfolding rises_to
  turn_on h k = rw (rest_cons cuts i 0 more, lt-ltb from (get_or cuts i 0) h, lt-ltb (get_or cuts i 0) n k)

pub turn_end : (n from i : ℕ) (cuts : List ℕ) → length cuts ≤ i → rises_to n from (drop i cuts) ≡ true
unfolding rises_to
turn_end n from i cuts h = rw (rest_end cuts i h)

-- ---- the checks

-- what is known where they accept
well : (n h : ℕ) (cuts : List ℕ) (v : Result ℕ Refusal) → after_cuts n cuts v ≡ Ok h → (v ≡ Ok h) × (rises_to n 0 cuts ≡ true)
well n h cuts (Err r) e = absurd cc
well n h cuts (Ok k) e = go (rises_to n 0 cuts) refl e
  where
    go : (t : Bool) → rises_to n 0 cuts ≡ t → ◌≡◌ {A = Result ℕ Refusal} (cond t (Ok k) (Err (refusal 17 0))) (Ok h) → (◌≡◌ {A = Result ℕ Refusal} (Ok k) (Ok h)) × (rises_to n 0 cuts ≡ true)
    go true f e = (e, f)
    go false f e = absurd cc

pub accepted_cuts : (g : ℕ) (l : List Task) (cuts : List ℕ) (h : ℕ) → after_cuts (length (placed g l)) cuts (verdict_in g l) ≡ Ok h
    → (Cuttable g (placed g l)) × (rises_to (length (placed g l)) 0 cuts ≡ true)
accepted_cuts g l cuts h e =
    let w = well (length (placed g l)) h cuts (verdict_in g l) e in
    let f = accepted_in g l h w.0 in
    (cuttable_placed g l h f.sound f.hyper f.small, w.1)
