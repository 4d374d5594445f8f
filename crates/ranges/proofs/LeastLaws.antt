-- The least of successive numbers that passes a test: where one passes it is the first that does, and where none does the search ends after them.
use Prim.Native.Nat.{ℕ, zero, suc, ◌+◌, ◌≤◌, ◌<◌}
use native.Mathlib.Omega.{arith}
use Rattle.std.proofs.Math.Decide.{dec_lt}
use Rattle.std.specs.Prelude.{◌≡◌, Bool}
use Rattle.std.proofs.Math.Path.{refl, ap}
use Rattle.std.proofs.Common.{sym, ◌∙◌, true≢false}
use Rattle.std.proofs.Math.Bool.{true, false, cond}
use Rattle.ranges.specs.Least.{least_from}

-- j is the first of the n numbers from s on that passes
pub record FirstOf (test : ℕ → Bool) (s n j : ℕ) : Type 0 where
  pub low : s ≤ j
  pub high : j < s + n
  pub passes : test j ≡ true
  pub before : (x : ℕ) → s ≤ x → x < j → test x ≡ false

module _ (test : ℕ → Bool) where
  -- Where none passes, the search ends after them.
  pub least_end : (n s : ℕ) → ((x : ℕ) → s ≤ x → x < s + n → test x ≡ false) → least_from test s n ≡ s + n
  unfolding least_from
  least_end zero s h = omega arith
  least_end (suc n) s h =
      let e : suc s + n ≡ s + suc n = omega arith in
      rw (h s (omega arith) (omega arith)) (least_end n (suc s) (λ x a b. h x (omega arith) (omega arith)) ∙ e)

  -- the first after s is the first from s on, where s does not pass
  first_later : (n s : ℕ) {j : ℕ} → test s ≡ false → FirstOf test (suc s) n j → FirstOf test s (suc n) j
  first_later n s p r = record {
    low = omega (arith, r.low);
    high = omega (arith, r.high);
    passes = r.passes;
    before = λ y u v. elim (dec_lt s y) [ yes h ↦ r.before y h v | no h ↦ let z : y ≡ s = omega arith in ap test z ∙ p ];
  }

  first_here : (n s : ℕ) → test s ≡ true → FirstOf test s (suc n) s
  first_here n s p = record { low = omega arith; high = omega arith; passes = p; before = λ y u v. absurd (omega arith) }

  -- Where the search ends before the end of the numbers, it has found the first that passes,
  pub found_first : (n s : ℕ) → least_from test s n < s + n → FirstOf test s n (least_from test s n)
  unfolding least_from
  found_first zero s h = absurd (omega arith)
  found_first (suc n) s h = go (test s) refl h (found_first n (suc s))
    where
      go : (t : Bool) → test s ≡ t → cond t s (least_from test (suc s) n) < s + suc n → (least_from test (suc s) n < suc s + n → FirstOf test (suc s) n (least_from test (suc s) n))
          → FirstOf test s (suc n) (cond t s (least_from test (suc s) n))
      go true p h rest = first_here n s p
      go false p h rest = first_later n s p (rest (omega arith))

  -- it never ends after them,
  pub least_high : (n s : ℕ) → least_from test s n ≤ s + n
  unfolding least_from
  least_high zero s = omega arith
  least_high (suc n) s = go (test s) (least_high n (suc s))
    where
      go : (t : Bool) → least_from test (suc s) n ≤ suc s + n → cond t s (least_from test (suc s) n) ≤ s + suc n
      go true k = omega arith
      go false k = omega arith

  -- and where one passes, the first that does is found,
  pub first_found : (n s x : ℕ) → s ≤ x → x < s + n → test x ≡ true → FirstOf test s n (least_from test s n)
  unfolding least_from
  first_found zero s x a b e = absurd (omega arith)
  first_found (suc n) s x a b e = go (test s) refl (λ h. first_found n (suc s) x h (omega arith) e)
    where
      later : test s ≡ false → s < x
      later p = elim (dec_lt s x) [ yes h ↦ h | no h ↦ let z : s ≡ x = omega arith in absurd (true≢false (sym e ∙ ap test (sym z) ∙ p)) ]

      go : (t : Bool) → test s ≡ t → (s < x → FirstOf test (suc s) n (least_from test (suc s) n)) → FirstOf test s (suc n) (cond t s (least_from test (suc s) n))
      go true p rest = first_here n s p
      go false p rest = first_later n s p (rest (later p))

  -- so where it does not end before their end, none passes,
  pub none_found : (n s : ℕ) → s + n ≤ least_from test s n → (x : ℕ) → s ≤ x → x < s + n → test x ≡ false
  none_found n s h x a b = go (test x) refl
    where
      go : (t : Bool) → test x ≡ t → test x ≡ false
      go false e = e
      go true e = let r = first_found n s x a b e in absurd (omega (arith, r.high))

  -- and there is but one first.
  pub first_least : (n s j : ℕ) → FirstOf test s n j → j ≡ least_from test s n
  first_least n s j r = go (first_found n s j r.low r.high r.passes)
    where
      go : {i : ℕ} → FirstOf test s n i → j ≡ i
      go {i} q =
          let a : i < j → ⊥ = λ h. true≢false (sym q.passes ∙ r.before i q.low h) in
          let b : j < i → ⊥ = λ h. true≢false (sym r.passes ∙ q.before j r.low h) in
          omega arith

  -- One turn of the search: it ends here,
  pub least_here : (n s : ℕ) → test s ≡ true → least_from test s (suc n) ≡ s
  unfolding least_from
  least_here n s e = rw e

  -- or goes on.
  pub least_on : (n s : ℕ) → test s ≡ false → least_from test s (suc n) ≡ least_from test (suc s) n
  unfolding least_from
  least_on n s e = rw e

-- Two tests that agree find the same.
pub least_same : (f g : ℕ → Bool) (n s : ℕ) → ((x : ℕ) → s ≤ x → x < s + n → f x ≡ g x) → least_from f s n ≡ least_from g s n
unfolding least_from
least_same f g zero s h = refl
least_same f g (suc n) s h = rw (h s (omega arith) (omega arith), least_same f g n (suc s) (λ x a b. h x (omega arith) (omega arith)))
