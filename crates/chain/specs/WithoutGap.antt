-- Order 5: with a gap of 0 every answer is the old one. Here the links, the ways and the checks as document 01 alone has them, on the tasks that are given and without a word of a gap;
-- `forward_without`, `backward_without` and `verdict_without` say that with gap 0 the definitions are these. What is made of them in timing is in timing/specs/WithoutGap.
use Prim.Native.Nat.{ℕ, zero, suc, ◌+◌, ◌-◌, ◌*◌, ◌/◌, ◌<◌}
use Rattle.std.proofs.Common.{arith, ap}
use Rattle.std.specs.Prelude.{◌≡◌, cond, ◌&&◌, List, [], ◌∷◌, leb, length, get_or, Err, None, Ok, Option, Result, Some}
use Rattle.std.proofs.Math.Path.{refl}
use Rattle.task.specs.declared.Job.{Job}
use Rattle.refusal.specs.declared.Refusal.{Refusal}
use Rattle.refusal.specs.Refusals.{refusal}
use Rattle.task.specs.declared.Task.{Task}
use Rattle.task.specs.Jobs.{place_of}
use Rattle.task.specs.Links.{earliest_from, latest_over, forward_link, backward_link}
use Rattle.euclid.specs.Divisor.{lcm_of}
use Rattle.chain.specs.Chains.{placed, zero_task, forward_by, on_latest, backward_by}
use Rattle.chain.specs.Placed.{at_placed}
use Rattle.chain.specs.Hyperperiod.{hyper_from}
use Rattle.chain.specs.Checks.{first_fault, after_fault, hyper_verdict, after_gap, verdict_for}

-- ---- as document 01 has them

abbrev pub task_at : List Task → ℕ → Task
task_at l p = get_or l p zero_task

-- Job j reads at F + j × T and writes at F + j × T + D.
abbrev pub read_plain : Task → ℕ → ℕ
read_plain a j = a.phase + j * a.period

abbrev pub write_plain : Task → ℕ → ℕ
write_plain a j = a.phase + j * a.period + a.duration

-- The earliest job that reads at or after tick w, and the latest that writes at or before tick z.
abbrev pub earliest_plain : Task → ℕ → ℕ
earliest_plain b w = (w - b.phase + (b.period - 1)) / b.period

abbrev pub latest_plain : Task → ℕ → Option Job
latest_plain a z = cond (leb (a.phase + a.duration) z) (Some (record { 0 = (z - (a.phase + a.duration)) / a.period })) None

-- The next place's earliest job that reads at or after the write of job j,
abbrev pub forward_plain : Task → Task → ℕ → ℕ
forward_plain a b j = earliest_plain b (write_plain a j)

-- and the previous place's latest job that writes at or before the read of job k.
abbrev pub backward_plain : Task → Task → ℕ → Option Job
backward_plain a b k = latest_plain a (read_plain b k)

-- The ways, a link at a time.
unfoldable pub forward_way : List Task → ℕ → ℕ → ℕ → ℕ
forward_way l p zero j = j
forward_way l p (suc n) j = forward_plain (task_at l (p + n)) (task_at l (p + suc n)) (forward_way l p n j)

unfoldable pub backward_way : List Task → ℕ → ℕ → ℕ → Option Job
backward_way l p zero m = Some (record { 0 = m })
backward_way l p (suc n) m = on_latest (backward_plain (task_at l (p + n)) (task_at l (p + suc n)) m) (backward_way l p n)

-- The least common multiple of h and the periods, and the checks 8, 5 and 7.
unfoldable pub hyper_plain : ℕ → List Task → ℕ
hyper_plain h [] = h
hyper_plain h (a ∷ l) = hyper_plain (lcm_of h a.period) l

abbrev pub verdict_plain : ℕ → List Task → Result ℕ Refusal
verdict_plain n l =
    cond (leb 1 n && leb n 12)
    (after_fault (first_fault 1 l) (cond (leb (hyper_plain 1 l) 60000000) (Ok (hyper_plain 1 l)) (Err (refusal 7 0))))
    (Err (refusal 8 0))

-- ---- they are those of gap 0

-- H has no part in the gap, whatever it is.
pub hyper_plain_holds : (g h : ℕ) (l : List Task) → hyper_from h (placed g l) ≡ hyper_plain h l
unfolding hyper_from hyper_plain
hyper_plain_holds g h [] = refl
hyper_plain_holds g h (a ∷ l) = hyper_plain_holds g (lcm_of h a.period) l

no_more : (n : ℕ) → n + 0 ≡ n
no_more n = omega arith

link_without : (a b : Task) (j : ℕ) → forward_link (place_of 0 a) (place_of 0 b) j ≡ forward_plain a b j
unfolding forward_link earliest_from
link_without a b j = ap (earliest_plain b) (no_more (write_plain a j))

link_back_without : (a b : Task) (k : ℕ) → backward_link (place_of 0 a) (place_of 0 b) k ≡ backward_plain a b k
unfolding backward_link latest_over
link_back_without a b k =
    ap (λ (d : ℕ). cond (leb (a.phase + d) (read_plain b k)) (Some (record { 0 = (read_plain b k - (a.phase + d)) / a.period })) None) (no_more a.duration)

module _ (l : List Task) where
  pub forward_without : (p n j : ℕ) → p + n < length l → forward_by (placed 0 l) p n j ≡ forward_way l p n j
  unfolding forward_by forward_way
  forward_without p zero j h = refl
  forward_without p (suc n) j h =
      rw (at_placed 0 l (p + n) (omega arith), at_placed 0 l (p + suc n) h, forward_without p n j (omega arith)) (link_without (task_at l (p + n)) (task_at l (p + suc n)) (forward_way l p n j))

  pub backward_without : (p n m : ℕ) → p + n < length l → backward_by (placed 0 l) p n m ≡ backward_way l p n m
  unfolding backward_by backward_way on_latest
  backward_without p zero m h = refl
  backward_without p (suc n) m h =
      rw (at_placed 0 l (p + n) (omega arith), at_placed 0 l (p + suc n) h, link_back_without (task_at l (p + n)) (task_at l (p + suc n)) m)
      (go (backward_plain (task_at l (p + n)) (task_at l (p + suc n)) m) (λ k. backward_without p n k (omega arith)))
    where
      go : (q : Option Job) → ((k : ℕ) → backward_by (placed 0 l) p n k ≡ backward_way l p n k) → on_latest q (backward_by (placed 0 l) p n) ≡ on_latest q (backward_way l p n)
      go None ih = refl
      go (Some k) ih = ih k.0

  pub verdict_without : (n : ℕ) → verdict_for n 0 l ≡ verdict_plain n l
  unfolding verdict_for after_gap hyper_verdict
  verdict_without n = rw (hyper_plain_holds 0 1 l)
