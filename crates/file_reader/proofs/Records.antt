-- What is known of the bytes of a record from what it was judged to be.
use Rattle.std.specs.Prelude.{ℕ, zero, suc, ◌+◌, ◌*◌, ◌≤◌, ◌<◌, ◌≡◌, refl, Bool, true, false, cond, ◌&&◌, List, length, Err, Ok, Result}
use native.Mathlib.Omega.{arith}
use Rattle.std.proofs.Common.{ap}
use Rattle.std.proofs.Math.Dec.{ltb, leb, eqb}
use borrow.Author.Tests.{ltb-true, ltb-false, leb-true, eqb-true, eqb-false}
use Rattle.file_reader.specs.declared.Record.TheVariants.{Chain, End, Gap, Task}
use Rattle.file_reader.specs.declared.Record.{Record}
use Rattle.task.specs.Jobs.{gap_limit}
use Rattle.schedule.specs.declared.NumberedTask.{NumberedTask}
use Rattle.schedule.specs.Schedules.{task_rule}
use Rattle.schedule.specs.Rule.{both}
use Rattle.file_reader.specs.Reading.{length_field, kind_field, places_field, task_field, chain_field, gap_field, last_of, all_known, task_record, chain_record, end_record, gap_record, kind_record, record_of, numbers_from}

pub length_numbers : (l : List ℕ) (at n : ℕ) → length (numbers_from l at n) ≡ n
unfolding numbers_from
length_numbers l at zero = refl
length_numbers l at (suc n) = ap suc (length_numbers l (2 + at) n)

pub record IsTask (numbers : List ℕ) (chains : ℕ) (l : List ℕ) (t : NumberedTask) : Type 0 where
  pub long : 18 ≤ length l
  pub length_is : length_field l ≡ 18
  pub kind_is : kind_field l ≡ 1
  pub no_chain_holds : chains ≡ 0
  pub few : length numbers < 32
  pub rule : task_rule (last_of numbers) t ≡ true
  pub is : t ≡ task_field l

pub record IsChain (numbers : List ℕ) (chains gap : ℕ) (l : List ℕ) (p : ℕ) : Type 0 where
  pub long : 4 + 2 * p ≤ length l
  pub length_is : length_field l ≡ 4 + 2 * p
  pub kind_is : kind_field l ≡ 2
  pub some : 1 ≤ p
  pub few : p ≤ 12
  pub few_chains : chains < 4
  pub tasks : 1 ≤ length numbers
  pub no_gap : gap ≡ 0
  pub all : all_known numbers (chain_field l p) ≡ true

pub record IsGap (chains gap : ℕ) (l : List ℕ) (g : ℕ) : Type 0 where
  pub long : 6 ≤ length l
  pub length_is : length_field l ≡ 6
  pub kind_is : kind_field l ≡ 4
  pub chain : 1 ≤ chains
  pub no_gap : gap ≡ 0
  pub some : 1 ≤ g
  pub permitted : g ≤ gap_limit
  pub is : g ≡ gap_field l

pub record IsEnd (chains : ℕ) (l : List ℕ) : Type 0 where
  pub long : 4 ≤ length l
  pub length_is : length_field l ≡ 4
  pub kind_is : kind_field l ≡ 3
  pub chain : 1 ≤ chains

abbrev pub Tells : List ℕ → ℕ → ℕ → List ℕ → Result Record ℕ → Type 0
Tells numbers chains gap l (Ok (Task t)) = IsTask numbers chains l t
Tells numbers chains gap l (Ok (Chain p)) = IsChain numbers chains gap l p
Tells numbers chains gap l (Ok (Gap g)) = IsGap chains gap l g
Tells numbers chains gap l (Ok End) = IsEnd chains l
Tells numbers chains gap l (Err k) = (1 ≤ k) × (k ≤ 6)

-- a choice has what both sides have
choice : (P : Result Record ℕ → Type 0) (b : Bool) (x y : Result Record ℕ) → (b ≡ true → P x) → (b ≡ false → P y) → P (cond b x y)
choice P true x y f g = f refl
choice P false x y f g = g refl

module _ (ns : List ℕ) (p g : ℕ) (l : List ℕ) (inside : length_field l ≤ length l) where
  task_tells : kind_field l ≡ 1 → Tells ns p g l (task_record ns p l)
  unfolding task_record
  task_tells kind =
      choice (Tells ns p g l) (eqb (length_field l) 18) _ _ (λ a.
      choice (Tells ns p g l) (eqb p 0 && ltb (length ns) 32) _ _ (λ b.
      choice (Tells ns p g l) (task_rule (last_of ns) (task_field l)) _ _ (λ r. record {
        long = omega (arith, eqb-true (length_field l) 18 a);
        length_is = eqb-true (length_field l) 18 a;
        kind_is = kind;
        no_chain_holds = eqb-true p 0 (both (eqb p 0) (ltb (length ns) 32) b).0;
        few = ltb-true (length ns) 32 (both (eqb p 0) (ltb (length ns) 32) b).1;
        rule = r;
        is = refl;
      }) (λ r. (omega arith, omega arith)))
      (λ b. (omega arith, omega arith)))
      (λ a. (omega arith, omega arith))

  chain_tells : kind_field l ≡ 2 → Tells ns p g l (chain_record ns p g l)
  unfolding chain_record
  chain_tells kind =
      let q = places_field l in
      choice (Tells ns p g l) (eqb (length_field l) (4 + 2 * q) && (leb 1 q && leb q 12)) _ _ (λ a.
      let u = both (eqb (length_field l) (4 + 2 * q)) (leb 1 q && leb q 12) a in
      let e : length_field l ≡ 4 + 2 * q = eqb-true (length_field l) (4 + 2 * q) u.0 in
      choice (Tells ns p g l) (ltb p 4 && (leb 1 (length ns) && eqb g 0)) _ _ (λ b.
      let v = both (ltb p 4) (leb 1 (length ns) && eqb g 0) b in
      let w = both (leb 1 (length ns)) (eqb g 0) v.1 in
      choice (Tells ns p g l) (all_known ns (chain_field l q)) _ _ (λ r. record {
        long = omega arith;
        length_is = e;
        kind_is = kind;
        some = leb-true 1 q (both (leb 1 q) (leb q 12) u.1).0;
        few = leb-true q 12 (both (leb 1 q) (leb q 12) u.1).1;
        few_chains = ltb-true p 4 v.0;
        tasks = leb-true 1 (length ns) w.0;
        no_gap = eqb-true g 0 w.1;
        all = r;
      }) (λ r. (omega arith, omega arith)))
      (λ b. (omega arith, omega arith)))
      (λ a. (omega arith, omega arith))

  end_tells : kind_field l ≡ 3 → Tells ns p g l (end_record (length_field l) p)
  unfolding end_record
  end_tells kind =
      choice (Tells ns p g l) (eqb (length_field l) 4) _ _ (λ a.
      choice (Tells ns p g l) (eqb p 0) _ _ (λ b. (omega arith, omega arith)) (λ b.
      let n = eqb-false p 0 b in record {
        long = omega (arith, eqb-true (length_field l) 4 a);
        length_is = eqb-true (length_field l) 4 a;
        kind_is = kind;
        chain = omega arith;
      }))
      (λ a. (omega arith, omega arith))

  gap_tells : kind_field l ≡ 4 → Tells ns p g l (gap_record p g l)
  unfolding gap_record
  gap_tells kind =
      let n = gap_field l in
      choice (Tells ns p g l) (eqb (length_field l) 6) _ _ (λ a.
      choice (Tells ns p g l) (leb 1 p && eqb g 0) _ _ (λ b.
      let v = both (leb 1 p) (eqb g 0) b in
      choice (Tells ns p g l) (leb 1 n && leb n gap_limit) _ _ (λ c.
      let w = both (leb 1 n) (leb n gap_limit) c in
      record {
        long = omega (arith, eqb-true (length_field l) 6 a);
        length_is = eqb-true (length_field l) 6 a;
        kind_is = kind;
        chain = leb-true 1 p v.0;
        no_gap = eqb-true g 0 v.1;
        some = leb-true 1 n w.0;
        permitted = leb-true n gap_limit w.1;
        is = refl;
      }) (λ c. (omega arith, omega arith)))
      (λ b. (omega arith, omega arith)))
      (λ a. (omega arith, omega arith))

  kind_tells : Tells ns p g l (kind_record (kind_field l) ns p g l)
  unfolding kind_record
  kind_tells =
      choice (Tells ns p g l) (eqb (kind_field l) 1) _ _ (λ a. task_tells (eqb-true (kind_field l) 1 a)) (λ a.
      choice (Tells ns p g l) (eqb (kind_field l) 2) _ _ (λ b. chain_tells (eqb-true (kind_field l) 2 b)) (λ b.
      choice (Tells ns p g l) (eqb (kind_field l) 3) _ _ (λ c. end_tells (eqb-true (kind_field l) 3 c)) (λ c.
      choice (Tells ns p g l) (eqb (kind_field l) 4) _ _ (λ d. gap_tells (eqb-true (kind_field l) 4 d)) (λ d. (omega arith, omega arith)))))

-- Every record tells what it was judged from; a fault is 1 to 6.
pub record_tells : (ns : List ℕ) (p g : ℕ) (l : List ℕ) → Tells ns p g l (record_of ns p g l)
unfolding record_of
record_tells ns p g l =
    choice (Tells ns p g l) (ltb (length l) 4) _ _ (λ a. (omega arith, omega arith)) (λ a.
    choice (Tells ns p g l) (ltb (length_field l) 4) _ _ (λ b. (omega arith, omega arith)) (λ b.
    choice (Tells ns p g l) (ltb (length l) (length_field l)) _ _ (λ c. (omega arith, omega arith)) (λ c.
    kind_tells ns p g l (ltb-false (length l) (length_field l) c))))

pub tells : (ns : List ℕ) (p g : ℕ) (l : List ℕ) (r : Result Record ℕ) → record_of ns p g l ≡ r → Tells ns p g l r
tells ns p g l r e = rw e at (record_tells ns p g l)
