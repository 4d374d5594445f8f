-- A span of ticks that is answered, and not refused, is asked for at a tick of its range and is the one that is known there.
use Rattle.std.specs.Prelude.{ℕ, ◌≤◌, ◌≡◌, refl, Bool, true, false, cond, ltb, Err, Ok, Result}
use Rattle.std.proofs.Common.{arith, ltb-false, le-ltb}
use Rattle.refusal.specs.declared.Refusal.{Refusal}
use Rattle.refusal.specs.Refusals.{refusal}
use Rattle.timing.specs.Answers.{upper_tick, span_after}

pub record Spanned (from t span n : ℕ) : Type 0 where
  pub early : from ≤ t
  pub late : t ≤ upper_tick
  pub is : span ≡ n

pub span_answered : (v : Result ℕ Refusal) (from t span n : ℕ) → span_after v from t span ≡ Ok n → Spanned from t span n
unfolding span_after
span_answered (Err r) from t span n e = absurd (let z : ◌≡◌ {A = ℕ} 0 1 = cc in omega arith)
span_answered (Ok h) from t span n e = go (ltb t from) (ltb upper_tick t) refl refl e
  where
    go : (a b : Bool) → ltb t from ≡ a → ltb upper_tick t ≡ b → cond a (Err (refusal 12 0)) (cond b (Err (refusal 13 0)) (Ok span)) ≡ Ok n → Spanned from t span n
    go true b x y q = absurd (let z : ◌≡◌ {A = ℕ} 0 1 = cc in omega arith)
    go false true x y q = absurd (let z : ◌≡◌ {A = ℕ} 0 1 = cc in omega arith)
    go false false x y q = record { early = ltb-false t from x; late = ltb-false upper_tick t y; is = cc }

-- At every tick of the range of an accepted chain it is answered.
pub span_there : (h from t span : ℕ) → from ≤ t → t ≤ upper_tick → span_after (Ok h) from t span ≡ Ok span
unfolding span_after
span_there h from t span low high = rw (le-ltb t from low, le-ltb upper_tick t high)
