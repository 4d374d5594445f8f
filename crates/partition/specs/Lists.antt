-- Ranges of numbers, and what is kept and dropped of them.
use Rattle.std.specs.Prelude.{ℕ, zero, suc, ◌+◌, Bool, true, false, not, List, [], ◌∷◌, eqb}

-- m, m + 1, and so on, n in all.
unfoldable pub range_from : ℕ → ℕ → List ℕ
range_from m zero = []
range_from m (suc n) = m ∷ range_from (m + 1) n

-- x in front of l where the test passed.
abbrev pub put : {A : Type 0} → Bool → A → List A → List A
put true x l = x ∷ l
put false x l = l

-- Those of l that pass.
unfoldable pub keep : (ℕ → Bool) → List ℕ → List ℕ
keep test [] = []
keep test (m ∷ l) = put (test m) m (keep test l)

-- Those of l whose end differs from that of the one before; `before` is the end before the first.
unfoldable pub fresh : (ℕ → ℕ) → ℕ → List ℕ → List ℕ
fresh end before [] = []
fresh end before (m ∷ l) = put (not (eqb (end m) before)) m (fresh end (end m) l)

-- l without each one whose end equals that of the one before. The first has none before it and stays.
unfoldable pub drop_repeats : (ℕ → ℕ) → List ℕ → List ℕ
drop_repeats end [] = []
drop_repeats end (m ∷ l) = m ∷ fresh end (end m) l
