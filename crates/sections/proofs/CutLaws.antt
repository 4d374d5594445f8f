-- All cut lists: where one cut of a chain adds at least 1, each further cut does. The customer's two laws are instances, in EveryCut.
use Prim.Native.Nat.{ℕ, suc, ◌+◌, ◌-◌, ◌*◌, ◌≤◌, ◌<◌}
use native.Mathlib.Omega.{arith}
use Rattle.std.proofs.Common.{suc-mul, sym, ◌∙◌, take-append-drop, length-take-le, take-add, drop-drop}
use Rattle.std.proofs.Math.Decide.{ℕ_discrete}
use Rattle.std.specs.Prelude.{◌≡◌, Bool, false, cond, ltb, eqb, take, drop}
use Rattle.std.proofs.Math.Path.{refl, ap, subst}
use Rattle.std.proofs.Math.Bool.{true}
use Rattle.std.proofs.lemmas.Bool.{false≢true}
use mathlib.Core.List.{List, [], ◌∷◌, ◌++◌, map}
use Rattle.std.proofs.Math.ListN.{length, length-drop}
use borrow.Author.Tests.{ltb-true, lt-ltb, eq-eqb, ne_eqb}
use Rattle.ranges.specs.Entries.{sum}
use Rattle.task.specs.declared.Place.{Place}
use Rattle.schedule.specs.Schedules.{known}
use Rattle.schedule.specs.Rule.{both}
use Rattle.sections.specs.Sections.{parts_from, rises_to}
use Rattle.sections.specs.Uniform.{Uniform, uniform_front, uniform_rest}

-- Each cut of `cuts` is one of `more`, in order: the form in which the induction goes along both lists.
unfoldable pub further : List ℕ → List ℕ → Bool
further [] more = true
further (c ∷ cuts) [] = false
further (c ∷ cuts) (d ∷ more) = cond (eqb c d) (further cuts more) (further (c ∷ cuts) more)

-- each cut makes one section more
pub sections_count : {A : Type 0} (cuts : List ℕ) (from : ℕ) (l : List A) → length (parts_from from l cuts) ≡ suc (length cuts)
unfolding parts_from
sections_count [] from l = refl
sections_count (c ∷ cuts) from l = ap suc (sections_count cuts c (drop (c - from) l))

-- what a list of cuts says of its first one
pub record Rising (n from c : ℕ) (cuts : List ℕ) : Type 0 where
  pub above : from < c
  pub below : c < n
  pub rest : rises_to n c cuts ≡ true

pub rising : (n from c : ℕ) (cuts : List ℕ) → rises_to n from (c ∷ cuts) ≡ true → Rising n from c cuts
unfolding rises_to
rising n from c cuts h =
    let a = both (ltb from c) _ h in
    let b = both (ltb c n) _ a.1 in
    record { above = ltb-true from c a.0; below = ltb-true c n b.0; rest = b.1 }

-- cuts that rise below n are fewer than n: so no more than places − 1 cuts pass
pub few_cuts : (n : ℕ) (cuts : List ℕ) (from : ℕ) → from < n → rises_to n from cuts ≡ true → from + length cuts < n
few_cuts n [] from h k = omega arith
few_cuts n (c ∷ cuts) from h k = let r = rising n from c cuts k in omega (arith, r.above, few_cuts n cuts c r.below r.rest)

-- a list of cuts that has cut c has it above the place from which it rises
has_above : (n from c : ℕ) (cuts more : List ℕ) → rises_to n from more ≡ true → further (c ∷ cuts) more ≡ true → from < c
unfolding further
has_above n from c cuts [] h f = absurd (false≢true f)
has_above n from c cuts (d ∷ more) h f =
    let r = rising n from d more h in
    elim (ℕ_discrete c d) [
      | yes e ↦ omega (arith, r.above)
      | no e ↦ omega (arith, r.above, has_above n d c cuts more r.rest (rw (ne_eqb c d e) at f))
    ]

-- a cut of a rising list lies above where the list rises from
known_above : (n from : ℕ) (cuts : List ℕ) (x : ℕ) → rises_to n from cuts ≡ true → known cuts x ≡ true → from < x
unfolding known
known_above n from [] x h k = absurd (false≢true k)
known_above n from (c ∷ cuts) x h k =
    let r = rising n from c cuts h in
    elim (ℕ_discrete c x) [
      | yes e ↦ omega (arith, r.above)
      | no e ↦ omega (arith, r.above, known_above n c cuts x r.rest (rw (ne_eqb c x e) at k))
    ]

known_first : (c : ℕ) (cuts : List ℕ) → known (c ∷ cuts) c ≡ true
unfolding known
known_first c cuts = rw (eq-eqb c c refl)

known_later : (c x : ℕ) (cuts : List ℕ) → known cuts x ≡ true → known (c ∷ cuts) x ≡ true
unfolding known
known_later c x cuts k = elim (ℕ_discrete c x) [
  | yes e ↦ rw (eq-eqb c x e)
  | no e ↦ rw (ne_eqb c x e) k
]

known_past : (d x : ℕ) (more : List ℕ) → (d ≡ x → ⊥) → known (d ∷ more) x ≡ true → known more x ≡ true
unfolding known
known_past d x more e k = rw (ne_eqb d x e) at k

-- Of lists that rise, `further` says no more than that each cut of the one is a cut of the other.
pub further_known : (n : ℕ) (more cuts : List ℕ) (from : ℕ) → rises_to n from cuts ≡ true → rises_to n from more ≡ true → ((x : ℕ) → known cuts x ≡ true → known more x ≡ true)
    → further cuts more ≡ true
unfolding further rises_to known
further_known n more [] from p q k = refl
further_known n [] (c ∷ cuts) from p q k = absurd (false≢true (k c (known_first c cuts)))
further_known n (d ∷ more) (c ∷ cuts) from p q k =
    let o = rising n from c cuts p in
    let r = rising n from d more q in
    elim (ℕ_discrete c d) [
      | yes e ↦
          let h : rises_to n d cuts ≡ true = subst (λ (x : ℕ). rises_to n x cuts ≡ true) e o.rest in
          rw (eq-eqb c d e)
          (further_known n more cuts d h r.rest (λ x g. known_past d x more (λ z. omega (arith, known_above n d cuts x h g)) (k x (known_later c x cuts g))))
      | no e ↦
          let b : d < c = known_above n d more c r.rest (known_past d c more (λ z. e (sym z)) (k c (known_first c cuts))) in
          let h : rises_to n d (c ∷ cuts) ≡ true = rw (lt-ltb d c b, lt-ltb c n o.below) o.rest in
          rw (ne_eqb c d e)
          (further_known n more (c ∷ cuts) d h r.rest (λ x g. known_past d x more (λ z. omega (arith, known_above n d (c ∷ cuts) x h g)) (k x g)))
    ]

-- `more` has at least as many cuts
pub further_longer : (cuts more : List ℕ) → further cuts more ≡ true → length cuts ≤ length more
unfolding further
further_longer [] more f = omega arith
further_longer (c ∷ cuts) [] f = absurd (false≢true f)
further_longer (c ∷ cuts) (d ∷ more) f = elim (ℕ_discrete c d) [
  | yes e ↦ omega (arith, further_longer cuts more (rw (eq-eqb c d e) at f))
  | no e ↦ omega (arith, further_longer (c ∷ cuts) more (rw (ne_eqb c d e) at f))
]

-- the sum from place `from` + 1 on, G being a figure of chains
abbrev total : (List Place → ℕ) → ℕ → ℕ → List Place → List ℕ → ℕ
total G gap from l cuts = sum (map G (parts_from from l cuts)) + length cuts * gap

pub total_none : (G : List Place → ℕ) (gap from : ℕ) (l : List Place) → total G gap from l [] ≡ G l
unfolding parts_from sum
total_none G gap from l = omega arith

total_cut : (G : List Place → ℕ) (gap from c : ℕ) (l : List Place) (cuts : List ℕ) → total G gap from l (c ∷ cuts) ≡ G (take (c - from) l) + gap + total G gap c (drop (c - from) l) cuts
unfolding parts_from sum
total_cut G gap from c l cuts = omega (arith, suc-mul (length cuts) gap)

-- a figure of which one cut adds up to more than the whole has
module _ (G : List Place → ℕ) (gap : ℕ)
    (two : (u v : List Place) → 1 ≤ length u → 1 ≤ length v → Uniform gap (u ++ v) → G (u ++ v) + 1 ≤ G u + gap + G v)
  where
    -- a chain in two, k places in the first
    parted : (l : List Place) → Uniform gap l → (k : ℕ) → 0 < k → k < length l → G l + 1 ≤ G (take k l) + gap + G (drop k l)
    parted l ok k low high =
        let e : G (take k l ++ drop k l) ≡ G l = ap G (take-append-drop k l) in
        omega (arith, two (take k l) (drop k l) (omega (arith, length-take-le k l (omega arith))) (omega (arith, length-drop k l)) (subst (Uniform gap) (sym (take-append-drop k l)) ok))

    -- one more cut, d, before the cut c
    one_more : (from d c : ℕ) (l : List Place) (cuts : List ℕ) → Uniform gap l → from < d → d < c → c < from + length l
        → total G gap from l (c ∷ cuts) + 1 ≤ G (take (d - from) l) + gap + total G gap d (drop (d - from) l) (c ∷ cuts)
    one_more from d c l cuts ok a b h =
        let k : ℕ = d - from in
        let m : ℕ = c - d in
        let s : c - from ≡ k + m = omega arith in
        let n : length (drop k l) ≡ length l - k = length-drop k l in
        let w : Uniform gap (take (k + m) l) = uniform_front gap l ok (k + m) (omega arith) (omega arith) in
        let e : take (c - from) l ≡ take k l ++ take m (drop k l) = ap (λ (x : ℕ). take x l) s ∙ take-add k m l in
        let f : drop m (drop k l) ≡ drop (c - from) l = drop-drop m k l ∙ ap (λ (x : ℕ). drop x l) (sym s) in
        let p = two (take k l) (take m (drop k l)) (omega (arith, length-take-le k l (omega arith))) (omega (arith, length-take-le m (drop k l) (omega arith)))
        (subst (Uniform gap) (take-add k m l) w) in
        omega (
          arith,
          p,
          ap G e,
          total_cut G gap from c l cuts,
          total_cut G gap d c (drop k l) cuts,
          ap (λ (x : List Place). total G gap c x cuts) f,
        )

    -- more cuts: each adds at least 1
    pub add : (more cuts : List ℕ) (from n : ℕ) (l : List Place) → Uniform gap l → from + length l ≡ n → rises_to n from cuts ≡ true → rises_to n from more ≡ true
        → further cuts more ≡ true → total G gap from l cuts + length more ≤ total G gap from l more + length cuts
    unfolding further rises_to
    add [] [] from n l ok e p q f = omega arith
    add [] (c ∷ cuts) from n l ok e p q f = absurd (false≢true f)
    add (d ∷ more) [] from n l ok e p q f =
        let r = rising n from d more q in
        let k : ℕ = d - from in
        let ih = add more [] d n (drop k l) (uniform_rest gap l ok k (omega (arith, r.above, r.below))) (omega (arith, length-drop k l, r.above, r.below)) refl r.rest refl in
        omega (arith, ih, total_none G gap from l, total_none G gap d (drop k l), total_cut G gap from d l more, parted l ok k (omega (arith, r.above)) (omega (arith, r.above, r.below)))
    add (d ∷ more) (c ∷ cuts) from n l ok e p q f =
        let r = rising n from d more q in
        let o = rising n from c cuts p in
        let k : ℕ = d - from in
        let s = uniform_rest gap l ok k (omega (arith, r.above, r.below)) in
        let z : d + length (drop k l) ≡ n = omega (arith, length-drop k l, r.above, r.below) in
        elim (ℕ_discrete c d) [
          | yes g ↦
              let h : rises_to n d cuts ≡ true = subst (λ (x : ℕ). rises_to n x cuts ≡ true) g o.rest in
              let ih = add more cuts d n (drop k l) s z h r.rest (rw (eq-eqb c d g) at f) in
              let w : total G gap from l (c ∷ cuts) ≡ total G gap from l (d ∷ cuts) = ap (λ (x : ℕ). total G gap from l (x ∷ cuts)) g in
              omega (arith, ih, w, total_cut G gap from d l cuts, total_cut G gap from d l more)
          | no g ↦
              let y : further (c ∷ cuts) more ≡ true = rw (ne_eqb c d g) at f in
              let b : d < c = has_above n d c cuts more r.rest y in
              let h : rises_to n d (c ∷ cuts) ≡ true = rw (lt-ltb d c b, lt-ltb c n o.below) o.rest in
              let ih = add more (c ∷ cuts) d n (drop k l) s z h r.rest y in
              omega (arith, ih, one_more from d c l cuts ok r.above b (omega (arith, o.below)), total_cut G gap from d l more)
        ]
