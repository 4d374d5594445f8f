-- What a search of the phases upward finds: the smallest that passes a test, and `none` exactly where none passes. And where the test repeats after d phases, the first d of them tell all (`found_early`, `none_early`).
use Rattle.std.specs.Prelude.{ℕ, zero, suc, ◌+◌, ◌*◌, ◌/◌, ◌%◌, ◌≤◌, ◌<◌, ◌≡◌, Bool, true, false, None, Ok, Some}
use Rattle.std.proofs.Common.{arith, mod-lt, div-add-mod', sym, ap, ◌∙◌, lt-ltb, le-ltb}
use Rattle.std.proofs.Math.Decide.{dec_lt}
use Rattle.ranges.specs.Least.{least_from}
use Rattle.ranges.proofs.LeastLaws.{found_first, none_found, first_least, least_end}
use Rattle.phase.specs.Phases.{found_at, smallest_of}

-- F is the smallest of the phases below n that pass.
pub record SmallestPhase (test : ℕ → Bool) (n F : ℕ) : Type 0 where
  pub below : F < n
  pub passes : test F ≡ true
  pub smallest : (E : ℕ) → E < F → test E ≡ false

abbrev pub NoPhase : (ℕ → Bool) → ℕ → Type 0
NoPhase test n = (F : ℕ) → F < n → test F ≡ false

at_phase : (n F : ℕ) → F < n → found_at n F ≡ Ok (Some F)
at_phase n F h = rw (lt-ltb F n h)

at_end : (n F : ℕ) → n ≤ F → found_at n F ≡ Ok None
at_end n F h = rw (le-ltb F n h)

module _ (test : ℕ → Bool) (n : ℕ) where
  -- A smallest phase is found,
  pub smallest_found : (F : ℕ) → SmallestPhase test n F → smallest_of test n ≡ Ok (Some F)
  smallest_found F k =
      let e : F ≡ least_from test 0 n
      = first_least test n 0 F (record { low = omega arith; high = omega (arith, k.below); passes = k.passes; before = λ x a b. k.smallest x b }) in
      ap (found_at n) (sym e) ∙ at_phase n F k.below

  -- and where there is none, none is.
  pub none_there : NoPhase test n → smallest_of test n ≡ Ok None
  none_there none =
      let e : least_from test 0 n ≡ 0 + n = least_end test n 0 (λ x a b. none x (omega arith)) in
      at_end n (least_from test 0 n) (omega arith)

  -- The other way round: what is found is the smallest,
  first_phase : least_from test 0 n < n → SmallestPhase test n (least_from test 0 n)
  first_phase h = let r = found_first test n 0 (omega arith) in record { below = h; passes = r.passes; smallest = λ E g. r.before E (omega arith) g }

  no_phase : n ≤ least_from test 0 n → NoPhase test n
  no_phase h F g = none_found test n 0 (omega arith) F (omega arith) (omega arith)

  pub found_smallest : (F : ℕ) → smallest_of test n ≡ Ok (Some F) → SmallestPhase test n F
  found_smallest F e = elim (dec_lt (least_from test 0 n) n) [
    | yes h ↦ let q : least_from test 0 n ≡ F = let z : Ok (Some (least_from test 0 n)) ≡ Ok (Some F) = sym (at_phase n (least_from test 0 n) h) ∙ e in cc in rw (← q) (first_phase h)
    | no h ↦ absurd (let z : Ok None ≡ Ok (Some F) = sym (at_end n (least_from test 0 n) (omega arith)) ∙ e in let y : ◌≡◌ {A = ℕ} 0 1 = cc in omega arith)
  ]

  -- and `none` says that there is none.
  pub none_smallest : smallest_of test n ≡ Ok None → NoPhase test n
  none_smallest e = elim (dec_lt (least_from test 0 n) n) [
    | yes h ↦ absurd (let z : Ok (Some (least_from test 0 n)) ≡ Ok None = sym (at_phase n (least_from test 0 n) h) ∙ e in let y : ◌≡◌ {A = ℕ} 0 1 = cc in omega arith)
    | no h ↦ no_phase (omega arith)
  ]

-- ---- a test that repeats after d phases

module _ (test : ℕ → Bool) (n d : ℕ) (repeats : (F : ℕ) → F + d < n → test (F + d) ≡ test F) where
  climb : (q r : ℕ) → r + q * d < n → test (r + q * d) ≡ test r
  climb zero r h = let e : r + 0 * d ≡ r = omega arith in ap test e
  climb (suc q) r h =
      let e : r + suc q * d ≡ r + q * d + d = omega arith in
      ap test e ∙ repeats (r + q * d) (omega arith) ∙ climb q r (omega arith)

  -- Every phase is as good as its remainder by d:
  pub test_remainder : (F : ℕ) → F < n → test F ≡ test (F % d)
  test_remainder F h =
      let e : F ≡ F % d + F / d * d = omega (arith, div-add-mod' F d) in
      ap test e ∙ climb (F / d) (F % d) (omega arith)

module _ (test : ℕ → Bool) (n d : ℕ) (some : 1 ≤ d) (few : d ≤ n) (repeats : (F : ℕ) → F + d < n → test (F + d) ≡ test F) where
  -- what is found among the first d is the smallest of all,
  pub found_early : least_from test 0 d < d → least_from test 0 d ≡ least_from test 0 n
  found_early h =
      let r = found_first test d 0 (omega arith) in
      first_least test n 0 (least_from test 0 d) (record { low = r.low; high = omega arith; passes = r.passes; before = r.before })

  -- and where none of them passes, none does.
  pub none_early : d ≤ least_from test 0 d → n ≡ least_from test 0 n
  none_early h =
      let e : least_from test 0 n ≡ 0 + n = least_end test n 0 (λ F u v. test_remainder test n d repeats F (omega arith) ∙ no_phase test d h (F % d) (mod-lt F some)) in
      omega arith
