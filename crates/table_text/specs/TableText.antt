-- Document 01, program `chainreport`, with the mean of order 3 of document 02: the text of a table and its figures, and the line of a refusal.
use Rattle.std.specs.Prelude.{ℕ, ◌*◌, List, [], ◌∷◌, ◌++◌}
use Rattle.refusal.specs.declared.Refusal.{Refusal}
use Rattle.table.specs.Anchors.{Anchor}
use Rattle.table.specs.Figures.{greatest, low}
use Rattle.figures.specs.Figures.{doubled_area}
use Rattle.maker.specs.declared.Figures.{Figures}
use Rattle.text.specs.Text.{ascii, line}

-- A refusal prints one line: number and place.
unfoldable pub refused_text : Refusal → List ℕ
refused_text r = line (ascii "refused") (r.number ∷ r.place ∷ [])

-- Each anchor: start, latency.
unfoldable pub anchor_lines : List Anchor → List ℕ
anchor_lines [] = []
anchor_lines (a ∷ l) = line (ascii "a") (a.start ∷ a.latency ∷ []) ++ anchor_lines l

-- The mean by area: its two numbers.
unfoldable pub mean_text : ℕ → List Anchor → List ℕ
mean_text H l = line (ascii "mean") (doubled_area H l ∷ 2 * H ∷ [])

-- Warm-up tick, H, g;
unfoldable pub head_text : Figures → List ℕ
head_text f = line (ascii "warm") (f.tick.0 ∷ []) ++ (line (ascii "hyper") (f.hyperperiod ∷ []) ++ line (ascii "anchors") (f.anchors ∷ []))

-- greatest, low, mean;
unfoldable pub figures_text : ℕ → List Anchor → List ℕ
figures_text H l = line (ascii "max") (greatest l ∷ []) ++ (line (ascii "low") (low H l ∷ []) ++ mean_text H l)

-- these around the anchors, and walked.
unfoldable pub text_of_table : Figures → List Anchor → List ℕ
text_of_table f l = head_text f ++ (anchor_lines l ++ (figures_text f.hyperperiod l ++ line (ascii "walked") (f.walked ∷ [])))

-- No text of a table made in 1,024 slots is longer. Each of 1,024 lines of an anchor has at most 22 bytes.
abbrev pub longest_table : ℕ
longest_table = 22900
