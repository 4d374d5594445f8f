-- What successive ticks have, of any figure f that each tick has: the sum, whether all are above B, the longest run above B.
use Rattle.std.specs.Prelude.{Bool, true, cond, ◌&&◌, ℕ, zero, suc, ◌+◌, ◌≤◌, ◌<◌, max, ltb}
use Rattle.figures.specs.declared.Scan.{Scan}

-- The state after the n ticks from s on, `step` taking each tick's figure.
unfoldable pub ticks : {S : Type 0} → (S → ℕ → S) → (ℕ → ℕ) → ℕ → ℕ → S → S
ticks step f s zero z = z
ticks step f s (suc n) z = ticks step f (suc s) n (step z (f s))

-- The sum of f at the n ticks from s on.
unfoldable pub total : (ℕ → ℕ) → ℕ → ℕ → ℕ
total f s zero = 0
total f s (suc n) = f s + total f (suc s) n

-- Each of the n ticks from s on has f above B.
unfoldable pub every_above : ℕ → (ℕ → ℕ) → ℕ → ℕ → Bool
every_above B f s zero = true
every_above B f s (suc n) = ltb B (f s) && every_above B f (suc s) n

-- The run above B that ends here, and the longest so far.
abbrev pub scan : ℕ → ℕ → Scan
scan r b = record { run = r; best = b }

-- One tick whose figure is v.
abbrev pub tick : ℕ → Scan → ℕ → Scan
tick B z v = cond (ltb B v) (scan (suc z.run) (max z.best (suc z.run))) (scan 0 z.best)

-- The longest run above B among the n ticks from s on.
unfoldable pub longest_run : ℕ → (ℕ → ℕ) → ℕ → ℕ → ℕ
longest_run B f s n = (ticks (tick B) f s n (scan 0 0)).best

-- A run: the n ticks from s on have f above B.
abbrev pub Run : ℕ → (ℕ → ℕ) → ℕ → ℕ → Type 0
Run B f s n = (t : ℕ) → s ≤ t → t < s + n → B < f t

-- From tick `from` on, without end of time: some run has the length n, and none is longer.
pub record Longest (B : ℕ) (f : ℕ → ℕ) (from n : ℕ) : Type 0 where
  pub at : ℕ
  pub late : from ≤ at
  pub run : Run B f at n
  pub none : (s m : ℕ) → from ≤ s → Run B f s m → m ≤ n
