-- A gap and a list of tasks, one for each place, that stand for a chain: the checks say the same of both, and of an accepted chain the list holds the tasks at its places.
-- So a call on a lent list answers what document 01 says of the chain, without a copy of it.
use Rattle.std.specs.Prelude.{ℕ, ◌*◌, ◌≤◌, ◌<◌, ◌≡◌, refl, take, get_or, Err, Ok, Result}
use Rattle.std.proofs.Common.{arith, sym, ◌∙◌, ext_get_or, get_or-take, le-leb, le-ltb, lt-ltb}
use Rattle.std.proofs.Math.Decide.{dec_lt}
use Rattle.std.proofs.Math.Path.{ap}
use mathlib.Core.List.{List, []}
use Rattle.std.proofs.Math.ListN.{length}
use Rattle.std.proofs.Math.Seq.{length-take-le}
use Rattle.std.proofs.lemmas.Bool.{lt-leb}
use Rattle.refusal.specs.declared.Refusal.{Refusal}
use Rattle.refusal.specs.Refusals.{refusal}
use Rattle.task.specs.declared.Task.{Task}
use Rattle.task.specs.declared.Place.{Place}
use Rattle.chain.specs.declared.Chain.{Chain}
use Rattle.chain.specs.Chains.{given_of, placed, tasks_of, zero_task}
use Rattle.ranges.specs.Entries.{entries, entries_length, entries_at}
use Rattle.chain.specs.Checks.{verdict_for, verdict_of, verdict_in}
use Rattle.chain.specs.Flat.{flat_chain, given_in, flat_length, flat_front}

pub record StandsFor (g : ℕ) (l : List Task) (c : Chain) : Type 0 where
  pub verdict : verdict_in g l ≡ verdict_of c
  pub tasks : (h : ℕ) → verdict_of c ≡ Ok h → placed g l ≡ tasks_of c
  pub places : (h : ℕ) → verdict_of c ≡ Ok h → length l ≡ c.places

-- a list of the tasks at the places,
pub stands_same : (l : List Task) (c : Chain) → l ≡ given_of c → length l ≡ c.places → StandsFor c.gap l c
stands_same l c e n = record { verdict = ap (λ (x : ℕ). verdict_for x c.gap l) n ∙ ap (verdict_for c.places c.gap) e; tasks = λ h a. ap (placed c.gap) e; places = λ h a. n }

-- 8 where the number of places is not 1 to 12
pub eight : (n g : ℕ) (l : List Task) → (1 ≤ n → 12 < n) → verdict_for n g l ≡ Err (refusal 8 0)
unfolding verdict_for
eight n g l h = elim (dec_lt n 1) [
  | yes u ↦ rw (lt-leb 1 n u)
  | no u ↦ rw (le-leb 1 n (omega arith), lt-leb n 12 (h (omega arith)))
]

-- and any list of a wrong number of tasks for a chain of a wrong number of places
pub stands_wrong : (g : ℕ) (l : List Task) (c : Chain) → (1 ≤ length l → 12 < length l) → (1 ≤ c.places → 12 < c.places) → StandsFor g l c
stands_wrong g l c w h =
    let e = eight c.places c.gap (given_of c) h in
    record { verdict = eight (length l) g l w ∙ sym e; tasks = λ k a. absurd (no k (sym e ∙ a)); places = λ k a. absurd (no k (sym e ∙ a)) }
  where
    no : (k : ℕ) → Err (refusal 8 0) ≡ Ok k → ⊥
    no k e = let z : ◌≡◌ {A = ℕ} 0 1 = cc in omega arith

-- every list stands for a chain: that of its tasks, the first twelve of them, as many places, and its gap
abbrev task_in : List Task → ℕ → Task
task_in l i = get_or l i zero_task

abbrev pub chain_with : ℕ → List Task → Chain
chain_with g l = record { tasks = entries (task_in l) 0 12; places = length l; gap = g }

pub stands_some : (g : ℕ) (l : List Task) → StandsFor g l (chain_with g l)
stands_some g l = elim (dec_lt 12 (length l)) [
  | yes u ↦ stands_wrong g l (chain_with g l) (λ k. u) (λ k. u)
  | no u ↦
      let n : length (take (length l) (entries (task_in l) 0 12)) ≡ length l = length-take-le (length l) (entries (task_in l) 0 12) (omega (arith, entries_length (task_in l) 0 12)) in
      stands_same l (chain_with g l)
      (ext_get_or zero_task l (take (length l) (entries (task_in l) 0 12)) (sym n) (λ i h. sym (get_or-take (length l) (entries (task_in l) 0 12) i zero_task h ∙ entries_at (task_in l) zero_task 12 i (omega arith))))
      refl
]

-- ---- the front of a chain's flat list, as the code shares it

module _ (c : Chain) (twelve : length c.tasks ≡ 12) (list : List ℕ) (filled : list ≡ flat_chain c.tasks) (n : ℕ) (cut : n ≡ flat_length c.places) where
  pub front_stands : StandsFor c.gap (given_in (take n list)) c
  unfolding given_in
  front_stands = elim (dec_lt 12 c.places) [
    | yes u ↦
        let z : n ≡ 0 = cut ∙ rw (lt-ltb 12 c.places u) in
        rw z (stands_wrong c.gap [] c (λ g. absurd (omega arith)) (λ g. u))
    | no u ↦
        let z : n ≡ 3 * c.places = cut ∙ rw (le-ltb 12 c.places (omega arith)) in
        let e : given_in (take n list) ≡ given_of c = ap (λ (x : ℕ). given_in (take x list)) z ∙ ap (λ (x : List ℕ). given_in (take (3 * c.places) x)) filled ∙ flat_front c in
        stands_same _ c e (ap length e ∙ length-take-le c.places c.tasks (omega arith))
  ]

-- ---- what is answered of a list is answered of the chain

-- f is an answer from the tasks and the verdict that looks at no task in a refusal
pub stands_answer : {A : Type 0} (f : List Place → Result ℕ Refusal → A) → ((r : Refusal) (l m : List Place) → f l (Err r) ≡ f m (Err r))
    → (g : ℕ) (l : List Task) (c : Chain) → StandsFor g l c → f (placed g l) (verdict_in g l) ≡ f (tasks_of c) (verdict_of c)
stands_answer f same g l c st = ap (f (placed g l)) st.verdict ∙ go (verdict_of c) refl
  where
    go : (v : Result ℕ Refusal) → verdict_of c ≡ v → f (placed g l) v ≡ f (tasks_of c) v
    go (Ok h) e = ap (λ (x : List Place). f x (Ok h)) (st.tasks h e)
    go (Err r) e = same r (placed g l) (tasks_of c)
