-- The loop over the anchors, and the lines of the figures.
use Prim.Native.Nat.{ℕ, ◌+◌, ◌*◌, ◌≤◌, ◌<◌}
use native.Mathlib.Omega.{arith}
use mathlib.Core.Path.{◌≡◌, refl, subst}
use mathlib.Core.List.{List, [], ◌∷◌}
use lib.ListN.{length, take, drop, get_or}
use Rattle.std.proofs.lemmas.List.{get_or-take}
use Rattle.table.specs.Anchors.{Anchor, anchors}
use Rattle.table.specs.Figures.{greatest, low}
use Rattle.figures.specs.Figures.{doubled_area}
use Rattle.table.specs.Places.{anchors_end, anchors_at}
use Rattle.text.specs.Text.{ascii, line, Puts}
use Rattle.text.specs.Putting.{puts_two}
use Rattle.table_text.specs.TableText.{anchor_lines, mean_text, figures_text}

-- the text that is left, stored from here on, gives what the whole text gives
pub record Left (text : List ℕ) (at : ℕ) (old : List ℕ) (rest : List ℕ) (here : ℕ) (new : List ℕ) : Type 0 where
  pub whole : (last : List ℕ) (to : ℕ) → Puts rest here new last to → Puts text at old last to

pub left_all : (text : List ℕ) (at : ℕ) (old : List ℕ) → Left text at old text at old
left_all text at old = record { whole = λ last to p. p }

-- anchor i is the pair of the two lists' first g entries at i
pub anchor_turn : (s v : List ℕ) (g : ℕ) → g ≤ length s → g ≤ length v → (i x y : ℕ) → i < g → x ≡ get_or (take g s) i 0 → y ≡ get_or (take g v) i 0 → (text old m n : List ℕ) (at here to : ℕ)
    → Left text at old (anchor_lines (drop i (anchors s v g))) here m → Puts (line (ascii "a") (x ∷ y ∷ [])) here m n to → Left text at old (anchor_lines (drop (i + 1) (anchors s v g))) to n
unfolding anchor_lines
anchor_turn s v g a b i x y h e f text old m n at here to left p = record {
  whole = λ last end q.
      left.whole last end
      (rw (anchors_at s v g a b i h, ← get_or-take g s i 0 h, ← get_or-take g v i 0 h, ← e, ← f) (puts_two (line (ascii "a") (x ∷ y ∷ [])) _ here to end m n last p q));
}

pub anchor_end : (s v : List ℕ) (g i : ℕ) → i ≡ g → (text old m : List ℕ) (at here : ℕ) → Left text at old (anchor_lines (drop i (anchors s v g))) here m → Puts text at old m here
unfolding anchor_lines
anchor_end s v g i e text old m at here left =
    left.whole m here (rw (e, anchors_end s v g) (record { ends = omega arith; leaves = refl }))

-- the mean, x and t as they were answered
pub mean_line : (H : ℕ) (l : List Anchor) (x t at to : ℕ) (k m : List ℕ) → (x ≡ doubled_area H l) × (t ≡ 2 * H) → Puts (line (ascii "mean") (x ∷ t ∷ [])) at k m to → Puts (mean_text H l) at k m to
unfolding mean_text
mean_line H l x t at to k m e p = rw (e.0, e.1) at p

-- the three figures, x and y as they were answered
pub figures_lines : (H : ℕ) (l : List Anchor) (x y at a b to : ℕ) (k m n o : List ℕ) → x ≡ greatest l → y ≡ low H l
    → Puts (line (ascii "max") (x ∷ [])) at k m a → Puts (line (ascii "low") (y ∷ [])) a m n b → Puts (mean_text H l) b n o to
    → Puts (figures_text H l) at k o to
unfolding figures_text
figures_lines H l x y at a b to k m n o e f p q r =
    puts_two _ _ at a to k m o (subst (λ (i : ℕ). Puts (line (ascii "max") (i ∷ [])) at k m a) e p)
    (puts_two _ _ a b to m n o (subst (λ (i : ℕ). Puts (line (ascii "low") (i ∷ [])) a m n b) f q) r)
