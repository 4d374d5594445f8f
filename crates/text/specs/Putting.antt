-- One text after another.
use Rattle.std.specs.Prelude.{ℕ, ◌+◌, ◌≡◌, List, ◌++◌, length}
use Rattle.std.proofs.Common.{arith, sym, ap, ◌∙◌, length-append}
use Rattle.std.proofs.lemmas.List.Edits.{sets}
use Rattle.std.proofs.Math.Seq.{length-sets}
use Rattle.little_endian.specs.Stores.{sets_append}
use Rattle.text.specs.Text.{Puts}

pub puts_two : (a b : List ℕ) (at to end : ℕ) (l m n : List ℕ) → Puts a at l m to → Puts b to m n end → Puts (a ++ b) at l n end
puts_two a b at to end l m n f g = record {
  ends = omega (arith, f.ends, g.ends, length-append a b);
  leaves = g.leaves ∙ ap (λ (k : ℕ). sets m k b) f.ends ∙ ap (λ (x : List ℕ). sets x (at + length a) b) f.leaves ∙ sym (sets_append l at a b);
}

pub puts_length : (text : List ℕ) (at : ℕ) (old new : List ℕ) (to : ℕ) → Puts text at old new to → length new ≡ length old
puts_length text at old new to p = ap length p.leaves ∙ length-sets old at text
