-- What passes the call's checks (`passed`), and that its answer is the mark of the chain's bad stretch (`windows_answered`): the laws of EveryWindow, of the call itself.
use Rattle.std.specs.Prelude.{ℕ, ◌≤◌, ◌≡◌, refl, Bool, true, false, cond, ◌&&◌, leb, length, Err, Ok, Result}
use Rattle.std.proofs.Common.{arith, ap, leb-true}
use Rattle.refusal.specs.declared.Refusal.{Refusal}
use Rattle.refusal.specs.Refusals.{refusal}
use Rattle.task.specs.declared.Job.{Job}
use Rattle.chain.specs.declared.Chain.{Chain}
use Rattle.chain.specs.Chains.{tasks_of}
use Rattle.chain.specs.Checks.{verdict_of}
use Rattle.chain.proofs.CheckLaws.{accepted}
use Rattle.windows.specs.declared.Windows.{Windows}
use Rattle.windows.specs.Windows.{most_misses, earliest_job, after_limits, windows_after, windows_of, most_from}
use Rattle.windows.proofs.EveryWindow.{BadStretch, earliest}

-- v is what the chain's own checks say
pub record Passed (v : Result ℕ Refusal) (k h : ℕ) : Type 0 where
  pub whole : v ≡ Ok h
  pub low : 1 ≤ k
  pub high : k ≤ 100

pub passed : (v : Result ℕ Refusal) (k h : ℕ) → after_limits v k ≡ Ok h → Passed v k h
passed (Err r) k h e = absurd (let z : ◌≡◌ {A = ℕ} 0 1 = cc in omega arith)
passed (Ok g) k h e = go (leb 1 k) (leb k 100) refl refl e
  where
    go : (x y : Bool) → leb 1 k ≡ x → leb k 100 ≡ y → cond (x && y) (Ok g) (Err (refusal 15 0)) ≡ Ok h → Passed (Ok g) k h
    go true true u t q = let s : g ≡ h = cc in record { whole = ap Ok s; low = leb-true _ _ u; high = leb-true _ _ t }
    go true false u t q = absurd (let z : ◌≡◌ {A = ℕ} 0 1 = cc in omega arith)
    go false y u t q = absurd (let z : ◌≡◌ {A = ℕ} 0 1 = cc in omega arith)

pub windows_answered : (c : Chain) → length c.tasks ≡ 12 → (B k m : ℕ) (j : Job) → windows_of c B k ≡ most_from m j → BadStretch (tasks_of c) B k m j.0
unfolding windows_after
windows_answered c twelve B k m j = go (after_limits (verdict_of c) k) refl
  where
    go : (v : Result ℕ Refusal) → after_limits (verdict_of c) k ≡ v → windows_after (tasks_of c) B k v ≡ most_from m j → BadStretch (tasks_of c) B k m j.0
    go (Err r) u q = absurd (let z : ◌≡◌ {A = ℕ} 0 1 = cc in omega arith)
    go (Ok h) u q =
        let w : ◌≡◌ {A = Windows} (record { most = most_misses (tasks_of c) B k; first = record { 0 = earliest_job (tasks_of c) B k } }) (record { most = m; first = j }) = cc in
        let x = ap (λ (a : Windows). a.most) w in
        let y = ap (λ (a : Windows). a.first.0) w in
        let s = earliest (tasks_of c) (accepted c h twelve (passed (verdict_of c) k h u).whole).passes.sound B k in
        rw (x, y) at s
