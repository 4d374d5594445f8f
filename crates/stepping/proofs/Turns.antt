-- One turn of each loop over the places.
use Prim.Native.Nat.{ℕ, ◌+◌, ◌-◌, ◌*◌, ◌≤◌, ◌<◌}
use native.Mathlib.Omega.{arith}
use mathlib.Core.Path.{◌≡◌, refl}
use mathlib.Core.List.{List}
use lib.ListN.{length}
use Rattle.stepping.specs.OnePlace.{period_at, Advanced, Roomy}
use Rattle.stepping.specs.Went.{gone, gone_cut, Went, Ready, went_none, went_gone, went_more, roomy, next_bound}

-- the places from i to p − 1 have moved on, place i by so many ticks
pub record BackTo (r old : List ℕ) (p i ticks : ℕ) (s : List ℕ) : Type 0 where
  pub inside : i ≤ p
  pub went : Went r p (λ x. x + 1) i p old s
  pub is : ticks ≡ gone r p old s i
  pub bound : ticks ≤ 1000000 * (p - i + 1)

pub back_start : (r old : List ℕ) (p : ℕ) → period_at r p ≤ 1000000 → BackTo r old p p (period_at r p) old
back_start r old p h = record { inside = omega arith; went = went_none r p (λ x. x + 1) p p old (omega arith); is = gone_cut r p old old refl; bound = omega arith }

module _ (r old : List ℕ) (p : ℕ) (ready : Ready r p old 0 p) (i ticks : ℕ) (s : List ℕ) (to : BackTo r old p (i + 1) ticks s) where
  pub back_room : Roomy r s i ticks
  back_room =
      roomy r s old i ticks (ready.each i (omega arith) (omega (arith, to.inside))) (omega (arith, to.bound, to.inside, ready.few)) (omega (arith, to.inside, ready.few)) (omega (arith, to.inside, ready.constants_long)) (omega (arith, to.inside, ready.state_long, to.went.long))
      (to.went.low (2 * i) (omega arith)) (to.went.low (2 * i + 1) (omega arith))

  pub back_turn : (new : List ℕ) (moved : ℕ) → Advanced r i ticks s new moved → BackTo r old p i moved new
  back_turn new moved ad =
      let room : 2 * i + 2 ≤ length s = omega (arith, to.inside, ready.state_long, to.went.long) in
      let j = to.went.low (2 * i) (omega arith) in
      let q = to.went.low (2 * i + 1) (omega arith) in
      let apart : i ≡ p → ⊥ = λ e. omega (arith, to.inside) in
      record {
        inside = omega (arith, to.inside);
        went = went_more r p (λ x. x + 1) old s new i ticks moved ad room j apart (i + 1) p i p to.went q to.is (omega arith) (omega (arith, to.inside)) (omega arith) (omega arith)
            (λ x l u d. (above x l d, u)) (λ x l u z. omega arith);
        is = went_gone r p (λ x. x + 1) old s new i ticks moved ad room j apart;
        bound = omega (arith, next_bound r s old i ticks (1000000 * (p - (i + 1) + 1)) (ready.each i (omega arith) (omega (arith, to.inside))) to.bound new moved ad q, to.inside);
      }
    where
      above : (x : ℕ) → i ≤ x → (x ≡ i → ⊥) → i + 1 ≤ x
      above x l d = omega arith

-- the places from p + 1 to i − 1 have moved on, place i − 1 by so many ticks
pub record OnTo (r old : List ℕ) (p n i ticks : ℕ) (s : List ℕ) : Type 0 where
  pub low : p < i
  pub high : i ≤ n
  pub went : Went r p (λ x. x - 1) (p + 1) i old s
  pub is : ticks ≡ gone r p old s (i - 1)
  pub bound : ticks ≤ 1000000 * (i - p)

pub on_start : (r old : List ℕ) (p n : ℕ) → p < n → period_at r p ≤ 1000000 → OnTo r old p n (p + 1) (period_at r p) old
on_start r old p n h u =
    let e : p + 1 - 1 ≡ p = omega arith in
    record { low = omega arith; high = omega arith; went = went_none r p (λ x. x - 1) (p + 1) (p + 1) old (omega arith); is = rw e (gone_cut r p old old refl); bound = omega arith }

module _ (r old : List ℕ) (p n : ℕ) (ready : Ready r p old (p + 1) n) (i ticks : ℕ) (s : List ℕ) (to : OnTo r old p n i ticks s) (more : i < n) where
  pub on_room : Roomy r s i ticks
  on_room =
      roomy r s old i ticks (ready.each i (omega (arith, to.low)) more) (omega (arith, to.bound, more, ready.few)) (omega (arith, more, ready.few)) (omega (arith, more, ready.constants_long)) (omega (arith, more, ready.state_long, to.went.long))
      (to.went.high (2 * i) (omega arith)) (to.went.high (2 * i + 1) (omega arith))

  pub on_turn : (new : List ℕ) (moved : ℕ) → Advanced r i ticks s new moved → OnTo r old p n (i + 1) moved new
  on_turn new moved ad =
      let room : 2 * i + 2 ≤ length s = omega (arith, more, ready.state_long, to.went.long) in
      let j = to.went.high (2 * i) (omega arith) in
      let q = to.went.high (2 * i + 1) (omega arith) in
      let apart : i ≡ p → ⊥ = λ e. omega (arith, to.low) in
      let e : i + 1 - 1 ≡ i = omega arith in
      record {
        low = omega (arith, to.low);
        high = omega (arith, more);
        went = went_more r p (λ x. x - 1) old s new i ticks moved ad room j apart (p + 1) i (p + 1) (i + 1) to.went q to.is (omega (arith, to.low)) (omega arith) (omega arith) (omega arith)
            (λ x l u d. (l, less x u d)) (λ x l u z. omega arith);
        is = rw e (went_gone r p (λ x. x - 1) old s new i ticks moved ad room j apart);
        bound = omega (arith, next_bound r s old i ticks (1000000 * (i - p)) (ready.each i (omega (arith, to.low)) more) to.bound new moved ad q, to.low);
      }
    where
      less : (x : ℕ) → x < i + 1 → (x ≡ i → ⊥) → x < i
      less x u d = omega arith
