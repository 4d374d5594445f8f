-- The front of the list that C gives, as the calls are lent it, stands for the chain of the list; and a chain's own flat list gives the chain back.
use Rattle.std.specs.Prelude.{ℕ, ◌+◌, ◌*◌, ◌/◌, ◌%◌, ◌≤◌, ◌<◌, ◌≡◌, Bool, true, false, cond, ◌&&◌, List, leb, eqb, take, get_or}
use Rattle.std.proofs.Common.{arith, ap, ◌∙◌, ext_get_or}
use Rattle.std.proofs.Math.Decide.{dec_lt}
use Rattle.std.proofs.Math.Path.{refl, sym}
use Rattle.std.proofs.Math.ListN.{length}
use Rattle.std.proofs.Math.Seq.{get_or-take, length-take-le}
use borrow.Author.Tests.{le-leb, leb-true}
use Rattle.task.specs.declared.Task.{Task}
use Rattle.chain.specs.declared.Chain.{Chain}
use Rattle.chain.specs.Chains.{given_of, zero_task}
use Rattle.chain.specs.Flat.{task_fields, flat_chain, given_in, given_count, given_at, in_flat, length_flat}
use Rattle.ranges.specs.Entries.{entries_length, entries_at, entries_are}
use Rattle.chain.specs.StandsFor.{StandsFor, stands_same, stands_wrong}
use Rattle.capi_chain.specs.FlatChain.{task_at, places_of, chain_from}

-- a list that does not hold so many tasks gives no places
pub places_inside : (n places : ℕ) → 3 * places_of n places ≤ n
unfolding places_of
places_inside n places = go (eqb (n % 3) 0) (leb places (n / 3)) refl
  where
    go : (x y : Bool) → leb places (n / 3) ≡ y → 3 * cond (x && y) places 0 ≤ n
    go true true e = omega (arith, leb-true places (n / 3) e)
    go true false e = omega arith
    go false y e = omega arith

-- places that are not 0 are the ones given
pub places_given : (n places : ℕ) → 1 ≤ places_of n places → places_of n places ≡ places
unfolding places_of
places_given n places = go (eqb (n % 3) 0 && leb places (n / 3))
  where
    go : (x : Bool) → 1 ≤ cond x places 0 → cond x places 0 ≡ places
    go true h = refl
    go false h = absurd (omega arith)

module _ (list : List ℕ) (places gap : ℕ) where
  abbrev p : ℕ
  p = places_of (length list) places

  -- the chain's task is the one at its place in the list
  pub chain_at_holds : (i : ℕ) → i < 12 → get_or (chain_from list places gap).tasks i zero_task ≡ task_at list i
  unfolding chain_from
  chain_at_holds i h = entries_at (task_at list) zero_task 12 i h

  pub chain_count : (chain_from list places gap).places ≡ p
  unfolding chain_from
  chain_count = refl

  pub chain_twelve : length (chain_from list places gap).tasks ≡ 12
  unfolding chain_from
  chain_twelve = entries_length (task_at list) 0 12

  front_count : length (given_in (take (3 * p) list)) ≡ p
  front_count = omega (arith, given_count (take (3 * p) list), length-take-le (3 * p) list (places_inside (length list) places))

  front_at : (i : ℕ) → i < p → get_or (given_in (take (3 * p) list)) i zero_task ≡ task_at list i
  unfolding task_at
  front_at i h =
      let k = places_inside (length list) places in
      given_at (take (3 * p) list) i (omega (arith, front_count))
      ∙ rw (get_or-take (3 * p) list (3 * i) 0 (omega arith), get_or-take (3 * p) list (3 * i + 1) 0 (omega arith), get_or-take (3 * p) list (3 * i + 2) 0 (omega arith), le-leb (3 * i + 3) (length list) (omega arith))

  pub front_stands : StandsFor gap (given_in (take (3 * p) list)) (chain_from list places gap)
  unfolding chain_from
  front_stands = elim (dec_lt 12 p) [
    | yes u ↦ stands_wrong gap _ _ (λ g. omega (arith, front_count)) (λ g. omega (arith, chain_count))
    | no u ↦
        let n : length (given_of (chain_from list places gap)) ≡ p = length-take-le (chain_from list places gap).places (chain_from list places gap).tasks (omega (arith, chain_count, chain_twelve)) ∙ chain_count in
        stands_same _ _
        (ext_get_or zero_task _ _ (front_count ∙ sym n)
        (λ i h. front_at i (omega (arith, front_count)) ∙ sym (chain_at_holds i (omega (arith, front_count)))
        ∙ sym (get_or-take (chain_from list places gap).places (chain_from list places gap).tasks i zero_task (omega (arith, front_count, chain_count)))))
        (front_count ∙ sym chain_count)
  ]

-- ---- the flat list of a chain, as `mo_chain_of_schedule` gives it

flat_at : (l : List Task) (i : ℕ) → i < length l → task_at (flat_chain l) i ≡ get_or l i zero_task
unfolding task_at
flat_at l i h = rw (le-leb (3 * i + 3) (length (flat_chain l)) (omega (arith, length_flat task_fields 3 (λ x. refl) l))) (sym (given_at (flat_chain l) i (rw (in_flat l) h))) ∙ ap (λ (x : List Task). get_or x i zero_task) (in_flat l)

short : (n : ℕ) → n ≤ 12 → places_of 36 n ≡ n
unfolding places_of
short n h = rw (le-leb n 12 h)

-- C gets the chain back, whatever its tasks are
pub chain_given_back : (c : Chain) → length c.tasks ≡ 12 → c.places ≤ 12 → chain_from (flat_chain c.tasks) c.places c.gap ≡ c
unfolding chain_from
chain_given_back c twelve few = ap (λ (t : List Task). made t (chain_from (flat_chain c.tasks) c.places c.gap).places) tasks ∙ ap (made c.tasks) places
  where
    made : List Task → ℕ → Chain
    made t n = record { tasks = t; places = n; gap = c.gap }

    tasks : (chain_from (flat_chain c.tasks) c.places c.gap).tasks ≡ c.tasks
    tasks = entries_are (task_at (flat_chain c.tasks)) zero_task c.tasks 12 twelve (λ i h. flat_at c.tasks i (omega (arith, twelve)))

    places : (chain_from (flat_chain c.tasks) c.places c.gap).places ≡ c.places
    places =
        let n : length (flat_chain c.tasks) ≡ 36 = length_flat task_fields 3 (λ x. refl) c.tasks ∙ ap (λ (x : ℕ). 3 * x) twelve in
        chain_count (flat_chain c.tasks) c.places c.gap ∙ ap (λ (x : ℕ). places_of x c.places) n ∙ short c.places few
