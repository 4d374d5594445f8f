-- Order 8 of document 02: "The weights follow table III of source document 003 without its 33.3 ms row." Of the numbers from 0 to 96 each period is picked by as many as the table counts tasks of it.
use Rattle.std.specs.Prelude.{◌≡◌, ℕ, cond, List, [], ◌∷◌, map, ◌==◌, refl}
use Rattle.ranges.specs.Entries.{entries, sum}
use Rattle.load.specs.Load.{period_of}

-- A row of table III: the period in µs, and n, the number of tasks that have it.
pub record Row : Type 0 where
  pub period : ℕ
  pub tasks : ℕ

abbrev row : ℕ → ℕ → Row
row t n = record { period = t; tasks = n }

-- The table without its 33.3 ms row, which has 5 tasks.
unfoldable pub six_rows : List Row
six_rows = row 2500 1 ∷ row 5000 10 ∷ row 10000 33 ∷ row 20000 15 ∷ row 40000 23 ∷ row 80000 15 ∷ []

abbrev tasks_in : Row → ℕ
tasks_in r = r.tasks

-- How many of the numbers from 0 to 96 pick a row's period.
abbrev pub picks : Row → ℕ
picks r = sum (entries (λ x. cond (period_of x == r.period) 1 0) 0 97)

pub weights : map picks six_rows ≡ map tasks_in six_rows
unfolding six_rows period_of entries sum
weights = refl

-- 97 is the number of its tasks, so no number is left over.
pub all_tasks : sum (map tasks_in six_rows) ≡ 97
unfolding six_rows sum
all_tasks = refl
