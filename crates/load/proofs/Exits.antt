-- What the returns of this crate's functions show.
use Rattle.std.specs.Prelude.{Ok, Err, Result}
use Rattle.std.proofs.Common.{◌≡◌, ℕ, zero, suc, Bool, true, false, cond, ◌&&◌, nat_le, ◌+◌, ◌%◌, ◌<◌, ◌≤◌, List, [], ◌∷◌, ◌++◌, set, replicate, sym, refl, ap, ◌∙◌, arith}
use borrow.Author.Tests.{leb-true}
use Rattle.refusal.specs.declared.Refusal.{Refusal}
use Rattle.refusal.specs.Refusals.{refusal}
use Rattle.task.specs.declared.Task.{Task}
use Rattle.chain.specs.declared.Chain.{Chain}
use Rattle.chain.specs.Chains.{zero_task}
use Rattle.schedule.specs.Schedules.{padded}
use Rattle.schedule.specs.Padding.{padded_set}
use Rattle.load.specs.declared.Draw.{Draw}
use Rattle.load.specs.declared.DrawnTask.{DrawnTask}
use Rattle.load.specs.Load.{draw_of, period_of, drawn_task, tasks_from, array_from, loaded, load_of}
use Rattle.load.proofs.Passes.{fit, tasks_length, made}

pub some_period : (x p : ℕ) → p ≡ period_of x → 0 < p
some_period x p e = omega (arith, (fit x).low)

pub placed : (s : ℕ) (a b : Draw) (p : ℕ) → a ≡ draw_of s → p ≡ period_of (a.value % 97) → b ≡ draw_of a.state
    → ◌≡◌ {A = DrawnTask} (record { task = record { period = p; duration = p; phase = b.value % p }; state = b.state }) (drawn_task s)
unfolding drawn_task
placed s a b p e f g =
    ap (λ (q : ℕ). record { task = record { period = q; duration = q; phase = b.value % q }; state = b.state }) f
    ∙ ap (λ (y : Draw). record { task = record { period = period_of (a.value % 97); duration = period_of (a.value % 97); phase = y.value % period_of (a.value % 97) }; state = y.state }) g
    ∙ ap (λ (x : Draw). record { task = record { period = period_of (x.value % 97); duration = period_of (x.value % 97); phase = (draw_of x.state).value % period_of (x.value % 97) }; state = (draw_of x.state).state }) e

-- ---- the loop

-- the state after the draws of i places
unfoldable pub state_from : ℕ → ℕ → ℕ
state_from s zero = s
state_from s (suc i) = state_from (drawn_task s).state i

state_next : (i s : ℕ) → (drawn_task (state_from s i)).state ≡ state_from s (suc i)
unfolding state_from
state_next zero s = refl
state_next (suc i) s = state_next i (drawn_task s).state

tasks_next : (i s : ℕ) → tasks_from s i ++ ((drawn_task (state_from s i)).task ∷ []) ≡ tasks_from s (suc i)
unfolding state_from tasks_from
tasks_next zero s = refl
tasks_next (suc i) s = ap (λ (l : List Task). (drawn_task s).task ∷ l) (tasks_next i (drawn_task s).state)

pub begins : (s : ℕ) → s ≡ state_from s 0
unfolding state_from
begins s = refl

pub empty : (s : ℕ) → replicate 12 zero_task ≡ array_from s 0
unfolding tasks_from padded
empty s = refl

pub state_on : (s i t : ℕ) (p : DrawnTask) → t ≡ state_from s i → p ≡ drawn_task t → p.state ≡ state_from s (i + 1)
state_on s i t p e f =
    let z : suc i ≡ i + 1 = omega arith in
    ap (λ (q : DrawnTask). q.state) f ∙ ap (λ (x : ℕ). (drawn_task x).state) e ∙ state_next i s ∙ ap (state_from s) z

pub tasks_on : (s i t : ℕ) (p : DrawnTask) (l : List Task) → i < 12 → t ≡ state_from s i → p ≡ drawn_task t → l ≡ array_from s i
    → set l i p.task ≡ array_from s (i + 1)
tasks_on s i t p l h e f g =
    let z : suc i ≡ i + 1 = omega arith in
    ap (λ (x : List Task). set x i p.task) g ∙ padded_set zero_task 12 (tasks_from s i) i p.task (tasks_length i s) h
    ∙ ap (λ (a : Task). padded 12 zero_task (tasks_from s i ++ (a ∷ []))) (ap (λ (q : DrawnTask). q.task) f ∙ ap (λ (x : ℕ). (drawn_task x).task) e)
    ∙ ap (padded 12 zero_task) (tasks_next i s) ∙ ap (array_from s) z

-- ---- the returns

pub wrong_places : (s n : ℕ) → (1 ≤ n → 12 < n) → Err (refusal 8 0) ≡ load_of s n
unfolding load_of
wrong_places s n h = go (nat_le 1 n) (nat_le n 12) refl refl
  where
    go : (a b : Bool) → nat_le 1 n ≡ a → nat_le n 12 ≡ b → ◌≡◌ {A = Result Chain Refusal} (Err (refusal 8 0)) (cond (a && b) (Ok (loaded s n)) (Err (refusal 8 0)))
    go true true e f = absurd (omega (arith, h (leb-true 1 n e), leb-true n 12 f))
    go true false e f = refl
    go false b e f = refl

pub of_tasks : (s n : ℕ) (l : List Task) → 1 ≤ n → n ≤ 12 → l ≡ array_from s n → ◌≡◌ {A = Result Chain Refusal} (Ok (record { tasks = l; places = n; gap = 0 })) (load_of s n)
of_tasks s n l g h e = ap (λ (x : List Task). Ok (record { tasks = x; places = n; gap = 0 })) e ∙ sym (made s n g h)
