-- The ring of flags when a job enters, and the starts that were looked at.
use Prim.Native.Nat.{ℕ, ◌+◌, ◌≤◌, ◌<◌}
use native.Mathlib.Omega.{arith}
use native.Mathlib.Decide.{dec_lt, ℕ_discrete}
use mathlib.Core.Path.{◌≡◌, sym, ap, ◌∙◌}
use mathlib.Core.Bool.{Bool}
use mathlib.Core.List.{List}
use lib.ListN.{length, get_or, set, length-set}
use lib.Seq.{get_or-set_same, get_or-set_other}
use borrow.Author.Tests.{lt-ltb, le-ltb}
use Rattle.windows.specs.Windows.{one}
use Rattle.windows.specs.Scan.{Ring, next_in}

module _ (miss : ℕ → Bool) where
  -- an entry after a store: the flag of job m at i, else what it was
  stored : (flags : List ℕ) (i m v : ℕ) → length flags ≡ 100 → i < 100 → v ≡ one (miss m) → (x j : ℕ)
      → (i ≡ x → j ≡ m) → ((i ≡ x → ⊥) → get_or flags x 0 ≡ one (miss j)) → get_or (set flags i v) x 0 ≡ one (miss j)
  stored flags i m v whole few e x j same other = elim (ℕ_discrete i x) [
    | yes q ↦
        ap (λ (y : ℕ). get_or (set flags i v) y 0) (sym q) ∙ get_or-set_same flags i v 0 (omega arith) ∙ e ∙ ap (λ (y : ℕ). one (miss y)) (sym (same q))
    | no q ↦ get_or-set_other flags i x v 0 (λ e. q (sym e)) ∙ other q
  ]

  -- nothing is stored yet
  pub ring_none : (k s : ℕ) (flags : List ℕ) → length flags ≡ 100 → Ring miss k s s 0 flags
  ring_none k s flags whole = record { length_is = whole; ahead = λ x y a b f e. absurd (omega arith); behind = λ x y a f e. absurd (omega arith) }

  module _ (k s j i : ℕ) (flags : List ℕ) (r : Ring miss k s j i flags) where
    -- job s leaves
    pub ring_leaves : Ring miss k (s + 1) j i flags
    ring_leaves = record { length_is = r.length_is; ahead = λ x y a b f e. r.ahead x y a b (omega arith) e; behind = λ x y a f e. r.behind x y a (omega arith) e }

    module _ (inside : i < k) where
      -- of a whole window, entry i is that of its first job
      pub ring_first : j ≡ s + k → get_or flags i 0 ≡ one (miss s)
      ring_first e = r.ahead i s (omega arith) inside (omega arith) (omega arith)

      -- job j takes entry i
      module _ (few : k ≤ 100) (v : ℕ) (e : v ≡ one (miss j)) where
        enters : Ring miss k s (j + 1) (i + 1) (set flags i v)
        enters = record {
          length_is = length-set flags i v ∙ r.length_is;
          ahead = λ x y a b f q. stored flags i j v r.length_is (omega arith) e x y (λ h. absurd (omega arith)) (λ h. r.ahead x y (omega arith) b f (omega arith));
          behind = λ x y a f q. stored flags i j v r.length_is (omega arith) e x y (λ h. omega arith) (λ h. r.behind x y (omega (arith, h)) f (omega arith));
        }

        -- and after the last entry comes the first
        pub ring_enters : Ring miss k s (j + 1) (next_in i k) (set flags i v)
        ring_enters = elim (dec_lt (i + 1) k) [
          | yes h ↦ rw (lt-ltb (i + 1) k h) enters
          | no h ↦
              rw (le-ltb (i + 1) k (omega arith))
              (record { length_is = enters.length_is; ahead = λ x y a b f q. enters.behind x y (omega arith) f (omega arith); behind = λ x y a f q. absurd (omega arith) })
        ]

pub next_inside : (i k : ℕ) → i < k → next_in i k < k
next_inside i k h = elim (dec_lt (i + 1) k) [ yes g ↦ rw (lt-ltb (i + 1) k g) g | no g ↦ rw (le-ltb (i + 1) k (omega arith)) (omega arith) ]

-- one more start is looked at, whose window has m misses
pub before_more : (f : ℕ → ℕ) (from s m goal : ℕ) → m ≡ f s → ((x : ℕ) → from ≤ x → x < s → f x < goal) → m < goal → (x : ℕ) → from ≤ x → x < s + 1 → f x < goal
before_more f from s m goal e h g x a b = elim (dec_lt x s) [ yes u ↦ h x a u | no u ↦ let q : x ≡ s = omega arith in rw q (omega arith) ]
