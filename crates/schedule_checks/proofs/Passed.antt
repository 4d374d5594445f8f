-- What the answer of a check says of the refusal that it was made of.
use Rattle.std.specs.Prelude.{◌≡◌, Bool, true, false, cond, eqb, Ok, Err, Result}
use Rattle.std.proofs.Math.Path.{refl}
use borrow.Author.Tests.{eqb-true, eqb-false}
use Rattle.refusal.specs.declared.Refusal.{Refusal}
use Rattle.schedule_checks.specs.Checks.{passed}

module _ (r : Refusal) where
  pub number_passed : (u : Unit {0}) → Ok u ≡ passed r → r.number ≡ 0
  number_passed u e = go (eqb r.number 0) refl e
    where
      go : (b : Bool) → eqb r.number 0 ≡ b → ◌≡◌ {A = Result (Unit {0}) Refusal} (Ok u) (cond b (Ok tt) (Err r)) → r.number ≡ 0
      go true k h = eqb-true r.number 0 k
      go false k h = absurd cc

  pub refused_passed : (q : Refusal) → Err q ≡ passed r → (q ≡ r) × (r.number ≡ 0 → ⊥)
  refused_passed q e = go (eqb r.number 0) refl e
    where
      go : (b : Bool) → eqb r.number 0 ≡ b → ◌≡◌ {A = Result (Unit {0}) Refusal} (Err q) (cond b (Ok tt) (Err r)) → (q ≡ r) × (r.number ≡ 0 → ⊥)
      go true k h = absurd cc
      go false k h = let i : q ≡ r = cc in (i, eqb-false r.number 0 k)
