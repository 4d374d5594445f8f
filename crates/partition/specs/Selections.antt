-- Laws of the numbers of a range that pass a test, and of a list without those whose figure repeats the one before.
use Rattle.std.specs.Prelude.{ℕ, zero, suc, ◌+◌, ◌≤◌, ◌<◌, ◌≡◌, refl, ◌≢◌, Bool, true, false, not, List, [], map, eqb, length}
use Rattle.std.proofs.Common.{zero-add, add-zero, add-suc, suc-add, add-one, arith, sym, ap, ◌∙◌, true≢false, eq-eqb, ne_eqb}
use Rattle.std.proofs.Math.Decide.{ℕ_discrete}
use Rattle.partition.specs.Lists.{range_from, put, keep, fresh, drop_repeats}

-- two numbers differ, as a test
abbrev pub differ : ℕ → ℕ → Bool
differ x y = not (eqb x y)

pub differ_not : (x y : ℕ) → x ≡ y → differ x y ≡ false
differ_not x y h = ap not (eq-eqb x y h)

pub differ_so : (x y : ℕ) → x ≢ y → differ x y ≡ true
differ_so x y h = ap not (ne_eqb x y h)

pub differ_false : (x y : ℕ) → differ x y ≡ false → x ≡ y
differ_false x y h = elim (ℕ_discrete x y) [ yes e ↦ e | no e ↦ let z : true ≡ false = sym (differ_so x y e) ∙ h in absurd (true≢false z) ]

pub differ_true : (x y : ℕ) → differ x y ≡ true → x ≢ y
differ_true x y h e = true≢false (sym h ∙ differ_not x y e)

pub map_put : {A B : Type 0} (f : A → B) (t : Bool) (x : A) (l : List A) → map f (put t x l) ≡ put t (f x) (map f l)
map_put f true x l = refl
map_put f false x l = refl

pub range_length : (m n : ℕ) → length (range_from m n) ≡ n
unfolding range_from
range_length m zero = refl
range_length m (suc n) = ap suc (range_length (m + 1) n)

-- of the n numbers from s on, those that pass
unfoldable pub select : (ℕ → Bool) → ℕ → ℕ → List ℕ
select test s zero = []
select test s (suc n) = put (test s) s (select test (suc s) n)

pub select_length : (test : ℕ → Bool) (s n : ℕ) → length (select test s n) ≤ n
unfolding select
select_length test s zero = omega arith
select_length test s (suc n) = go (test s) (select_length test (suc s) n)
  where
    go : (t : Bool) → length (select test (suc s) n) ≤ n → length (put t s (select test (suc s) n)) ≤ suc n
    go true h = omega arith
    go false h = omega arith

pub keep_select : (test : ℕ → Bool) (m n : ℕ) → keep test (range_from m n) ≡ select test m n
unfolding keep range_from select
keep_select test m zero = refl
keep_select test m (suc n) = rw (add-one m, keep_select test (suc m) n)

-- k numbers that do not pass are skipped
pub select_skip : (test : ℕ → Bool) (k s n : ℕ) → ((j : ℕ) → s ≤ j → j < s + k → test j ≡ false) → select test s (k + n) ≡ select test (s + k) n
unfolding select
select_skip test zero s n h = rw (zero-add, add-zero)
select_skip test (suc k) s n h =
    rw (suc-add, h s (omega arith) (omega arith), add-suc, ← suc-add)
    (select_skip test k (suc s) n (λ j l u. h j (omega arith) (omega arith)))

-- no figure of the range is p, so that the first is kept either way
pub drop_fresh : (e : ℕ → ℕ) (test : ℕ → Bool) (p n s : ℕ) → ((m : ℕ) → s ≤ m → e m ≢ p) → drop_repeats e (select test s n) ≡ fresh e p (select test s n)
unfolding select fresh drop_repeats
drop_fresh e test p zero s h = refl
drop_fresh e test p (suc n) s h = go (test s) (drop_fresh e test p n (suc s) (λ m l. h m (omega arith)))
  where
    go : (t : Bool) → drop_repeats e (select test (suc s) n) ≡ fresh e p (select test (suc s) n)
        → drop_repeats e (put t s (select test (suc s) n)) ≡ fresh e p (put t s (select test (suc s) n))
    go true ih = rw (differ_so (e s) p (h s (omega arith)))
    go false ih = ih
