-- A loop that writes the entries of a list in order, from the first on: what each turn and the end show.
use Rattle.std.proofs.Common.{◌≡◌, ℕ, zero, suc, ◌+◌, ◌%◌, ◌<◌, ◌≤◌, List, [], ◌∷◌, ◌++◌, length, get_or, take, drop, set, sym, refl, ap, ◌∙◌, append_assoc, append-nil, arith, length-set, drop_of_length-le, drop-cons}
use native.Mathlib.Nat.{mod-add-mod}
use lib.Seq.{set_at, get_or_at}
use Rattle.ranges.specs.Entries.{entries, sum, entries_length, entries_more, entries_sum}
use Rattle.histogram.specs.Differences.{modulus, up_to}

-- ---- the loop

-- the first i entries are written by the rule f, the others are as they were
pub record Written (f : ℕ → ℕ) (i : ℕ) (old counts : List ℕ) : Type 0 where
  pub within : i ≤ length old
  pub same : length counts ≡ length old
  pub holds : counts ≡ entries f 0 i ++ drop i old

pub written_start : (f : ℕ → ℕ) (old : List ℕ) → Written f 0 old old
unfolding entries
written_start f old = record { within = omega arith; same = refl; holds = refl }

module _ (f : ℕ → ℕ) (i : ℕ) (old counts : List ℕ) (w : Written f i old counts) where
  -- the next entry, between what is written and what is not
  parted : i < length counts → counts ≡ entries f 0 i ++ (get_or old i 0 ∷ drop (suc i) old)
  parted h = w.holds ∙ ap (λ (r : List ℕ). entries f 0 i ++ r) (drop-cons old i 0 (omega (arith, w.same)))

  written_next : i < length counts → get_or counts i 0 ≡ get_or old i 0
  written_next h = ap (λ (l : List ℕ). get_or l i 0) (parted h) ∙ get_or_at (entries f 0 i) (get_or old i 0) (drop (suc i) old) 0 i (entries_length f 0 i)

  pub written_more : i < length counts → (x : ℕ) → x ≡ f i → Written f (i + 1) old (set counts i x)
  written_more h x e =
      let z : 0 + i ≡ i = omega arith in
      let s : suc i ≡ i + 1 = omega arith in
      record {
        within = omega (arith, w.same);
        same = length-set counts i x ∙ w.same;
        holds =
            ap (λ (l : List ℕ). set l i x) (parted h)
            ∙ set_at (entries f 0 i) (get_or old i 0) (drop (suc i) old) x i (entries_length f 0 i)
            ∙ ap (λ (y : ℕ). entries f 0 i ++ (y ∷ drop (suc i) old)) (e ∙ ap f (sym z))
            ∙ sym (append_assoc (entries f 0 i) (f (0 + i) ∷ []) (drop (suc i) old))
            ∙ ap (λ (r : List ℕ). r ++ drop (suc i) old) (sym (entries_more f 0 i))
            ∙ ap (λ (k : ℕ). entries f 0 k ++ drop k old) s;
      }

  pub written_end : length counts ≤ i → counts ≡ entries f 0 (length old)
  written_end h =
      let e : i ≡ length old = omega (arith, w.within, w.same) in
      w.holds ∙ ap (λ (r : List ℕ). entries f 0 i ++ r) (drop_of_length-le old {i = i} (omega (arith, w.same))) ∙ append-nil (entries f 0 i) ∙ ap (entries f 0) e

-- ---- sums of differences

sum_suc : (l : List ℕ) (i : ℕ) → i < length l → sum (take (suc i) l) ≡ sum (take i l) + get_or l i 0
unfolding sum
sum_suc [] i h = absurd (omega arith)
sum_suc (x ∷ l) zero h = omega arith
sum_suc (x ∷ l) (suc i) h = omega (arith, sum_suc l i (omega arith))

sum_next : (l : List ℕ) (i : ℕ) → i < length l → up_to l i ≡ sum (take i l) + get_or l i 0
sum_next l i h = let s : i + 1 ≡ suc i = omega arith in ap (λ (k : ℕ). sum (take k l)) s ∙ sum_suc l i h

left_next : (left left' entry most whole all : ℕ) → (left' + entry) % modulus ≡ left → (left + most) % modulus ≡ whole % modulus → all ≡ most + entry → (left' + all) % modulus ≡ whole % modulus
left_next left left' entry most whole all d e h = omega arith

-- the state of `sum_up`
pub record Summed (whole i : ℕ) (old counts : List ℕ) (left entry : ℕ) : Type 0 where
  pub written : Written (λ j. up_to old j % modulus) i old counts
  pub sums : entry ≡ sum (take i old) % modulus
  pub leaves : (left + sum (entries (λ j. up_to old j % modulus) 0 i)) % modulus ≡ whole % modulus

pub summed_start : (whole : ℕ) (old : List ℕ) → Summed whole 0 old old whole 0
unfolding entries sum
summed_start whole old = record { written = written_start _ old; sums = refl; leaves = ap (λ (n : ℕ). n % modulus) {x = whole + 0} {y = whole} (omega arith) }

pub summed_more : (whole i : ℕ) (old counts : List ℕ) (left entry : ℕ) → Summed whole i old counts left entry → i < length counts
    → (entry' : ℕ) → entry' ≡ (entry + get_or counts i 0) % modulus → (left' : ℕ) → (left' + entry') % modulus ≡ left → Summed whole (i + 1) old (set counts i entry') left' entry'
summed_more whole i old counts left entry s h entry' e left' d =
    let k : i < length old = omega (arith, s.written.same) in
    let n : entry' ≡ up_to old i % modulus
    = e ∙ ap (λ (x : ℕ). (entry + x) % modulus) (written_next _ i old counts s.written h) ∙ ap (λ (x : ℕ). (x + get_or old i 0) % modulus) s.sums
    ∙ mod-add-mod (sum (take i old)) modulus (get_or old i 0) ∙ ap (λ (x : ℕ). x % modulus) (sym (sum_next old i k)) in
    record {
      written = written_more _ i old counts s.written h entry' n;
      sums = n;
      leaves = left_next left left' entry' _ whole _ d s.leaves (all n);
    }
  where
    all : entry' ≡ up_to old i % modulus → sum (entries (λ j. up_to old j % modulus) 0 (i + 1)) ≡ sum (entries (λ j. up_to old j % modulus) 0 i) + entry'
    all n =
        let z : 0 + i ≡ i = omega arith in
        let s : i + 1 ≡ suc i = omega arith in
        ap (λ (k : ℕ). sum (entries (λ j. up_to old j % modulus) 0 k)) s ∙ entries_sum (λ j. up_to old j % modulus) 0 i
        ∙ ap (λ (x : ℕ). sum (entries (λ j. up_to old j % modulus) 0 i) + x) (ap (λ (k : ℕ). up_to old k % modulus) z ∙ sym n)
