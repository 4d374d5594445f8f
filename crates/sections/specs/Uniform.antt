-- Places that pass 8 and 5 and have one gap: a chain's, and every part of them. So sections need no check of their own.
use Rattle.std.specs.Prelude.{ℕ, ◌+◌, ◌-◌, ◌≤◌, ◌<◌, ◌≡◌, List, length, take, drop}
use Rattle.std.specs.Int.{◌∣◌}
use Rattle.std.proofs.Common.{arith, sym, ap, ◌∙◌, subst, length-drop, get_or-take, get_or-drop, length-take-le}
use Rattle.std.proofs.Math.Nat.{le_of_dvd}
use Rattle.std.proofs.lemmas.List.{length-map}
use Rattle.task.specs.declared.Task.{Task}
use Rattle.task.specs.declared.Place.{Place}
use Rattle.task.specs.Jobs.{place_of, Limited}
use Rattle.chain.specs.Chains.{at, placed, zero_place}
use Rattle.chain.specs.Placed.{at_placed}
use Rattle.chain.specs.Checks.{Sound}
use Rattle.chain.specs.Hyperperiod.{hyper_of}
use Rattle.chain.specs.Multiples.{hyper_multiple, hyper_least, hyper_pos}

pub record Uniform (g : ℕ) (l : List Place) : Type 0 where
  pub sound : Sound l
  pub gaps : (p : ℕ) → p < length l → (at l p).gap ≡ g

pub uniform_placed : (g : ℕ) (l : List Task) → Sound (placed g l) → Uniform g (placed g l)
uniform_placed g l ok = record { sound = ok; gaps = λ p h. ap (λ (a : Place). a.gap) (at_placed g l p (omega (arith, length-map l (place_of g)))) }

-- The same of places that 7 accepts too: what is cut into sections.
pub record Cuttable (g : ℕ) (l : List Place) : Type 0 where
  pub uniform : Uniform g l
  pub small : hyper_of l ≤ 60000000

pub cuttable_placed : (g : ℕ) (l : List Task) (h : ℕ) → Sound (placed g l) → h ≡ hyper_of (placed g l) → h ≤ 60000000 → Cuttable g (placed g l)
cuttable_placed g l h ok e small = record { uniform = uniform_placed g l ok; small = omega arith }

-- m holds places of l, from place a on
pub record PartOf (l m : List Place) (a : ℕ) : Type 0 where
  pub some : 1 ≤ length m
  pub few : a + length m ≤ length l
  pub same : (p : ℕ) → p < length m → at m p ≡ at l (a + p)

module _ (l m : List Place) (a : ℕ) (part : PartOf l m a) where
  pub part_sound : Sound l → Sound m
  part_sound ok = record {
    some = part.some;
    few = omega (arith, part.few, ok.few);
    each = λ p h. subst Limited (sym (part.same p h)) (ok.each (a + p) (omega (arith, part.few)));
  }

  part_uniform : (g : ℕ) → Uniform g l → Uniform g m
  part_uniform g u = record { sound = part_sound u.sound; gaps = λ p h. ap (λ (x : Place). x.gap) (part.same p h) ∙ u.gaps (a + p) (omega (arith, part.few)) }

  -- its hyperperiod divides that of the whole,
  divides : Sound l → hyper_of m ∣ hyper_of l
  divides ok = hyper_least m (hyper_of l) (λ p h. ((part_sound ok).each p h).period_pos)
      (λ p h. subst (λ (t : Place). t.period ∣ hyper_of l) (sym (part.same p h)) (hyper_multiple l (a + p) (omega (arith, part.few))))

  -- so it is no longer, and 7 accepts the part
  part_cuttable : (g : ℕ) → Cuttable g l → Cuttable g m
  part_cuttable g k = record {
    uniform = part_uniform g k.uniform;
    small = omega (arith, le_of_dvd (hyper_pos l k.uniform.sound) (divides k.uniform.sound), k.small);
  }

module _ (l : List Place) where
  -- the first k places,
  front_part : (k : ℕ) → 0 < k → k ≤ length l → PartOf l (take k l) 0
  front_part k low high =
      let n : length (take k l) ≡ k = length-take-le k l high in
      record { some = omega arith; few = omega arith; same = λ p h. get_or-take k l p zero_place (omega arith) ∙ ap (at l) (omega arith) }

  -- and those after them
  rest_part : (k : ℕ) → k < length l → PartOf l (drop k l) k
  rest_part k high =
      let n : length (drop k l) ≡ length l - k = length-drop k l in
      record { some = omega arith; few = omega arith; same = λ p h. get_or-drop k l p zero_place }

module _ (g : ℕ) (l : List Place) where
  pub uniform_front : Uniform g l → (k : ℕ) → 0 < k → k ≤ length l → Uniform g (take k l)
  uniform_front u k low high = part_uniform l (take k l) 0 (front_part l k low high) g u

  pub uniform_rest : Uniform g l → (k : ℕ) → k < length l → Uniform g (drop k l)
  uniform_rest u k high = part_uniform l (drop k l) k (rest_part l k high) g u

  pub cuttable_front : Cuttable g l → (k : ℕ) → 0 < k → k ≤ length l → Cuttable g (take k l)
  cuttable_front c k low high = part_cuttable l (take k l) 0 (front_part l k low high) g c

  pub cuttable_rest : Cuttable g l → (k : ℕ) → k < length l → Cuttable g (drop k l)
  cuttable_rest c k high = part_cuttable l (drop k l) k (rest_part l k high) g c

-- The section after place a up to place e of what is accepted is accepted.
pub section_cuttable : (g : ℕ) (l : List Place) → Cuttable g l → (a e : ℕ) → a < e → e ≤ length l → Cuttable g (take (e - a) (drop a l))
section_cuttable g l k a e low high = cuttable_front g (drop a l) (cuttable_rest g l k a (omega arith)) (e - a) (omega arith) (omega (arith, length-drop a l))
