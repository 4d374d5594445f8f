-- The system's reason in the text of an error. std ends that text with the error's number, as in "No space left on device (os error 28)".
use Rattle.std.specs.Prelude.{ℕ, List, [], ◌∷◌, if◌then◌else◌, nat_eq, codes}
use Rattle.std.specs.List.{starts_with}

-- The bytes of a text before the first place where those of the mark stand; the whole text where they stand nowhere.
unfoldable pub before_mark : List ℕ → List ℕ → List ℕ
before_mark mark [] = []
before_mark mark (b ∷ l) = if starts_with nat_eq (b ∷ l) mark then [] else (b ∷ before_mark mark l)

abbrev pub reason_of : List ℕ → List ℕ
reason_of text = before_mark (codes " (os error ") text
