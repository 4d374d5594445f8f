-- What is left of a list, as a loop meets it: the element at the loop's place and the rest. Of a whole list, and of the first n elements of one.
use Prim.Native.Nat.{ℕ, ◌+◌, ◌≤◌, ◌<◌}
use native.Mathlib.Numerals.{add-one}
use native.Mathlib.Omega.{arith}
use mathlib.Core.Path.{◌≡◌, ◌∙◌}
use mathlib.Core.List.{List, [], ◌∷◌}
use lib.ListN.{length, take, drop, get_or, drop_of_length-le}
use lib.Seq.{drop-cons, get_or-take, length-take-le}

pub rest_cons : {A : Type 0} (l : List A) (i : ℕ) (d : A) → i < length l → drop i l ≡ get_or l i d ∷ drop (i + 1) l
rest_cons l i d h = rw (drop-cons l i d h, add-one)

pub rest_end : {A : Type 0} (l : List A) (i : ℕ) → length l ≤ i → drop i l ≡ []
rest_end l i h = drop_of_length-le l {i = i} h

pub front_cons : {A : Type 0} (l : List A) (n i : ℕ) (d : A) → i < n → n ≤ length l → drop i (take n l) ≡ get_or l i d ∷ drop (i + 1) (take n l)
front_cons l n i d h g = rest_cons (take n l) i d (omega (arith, length-take-le n l g)) ∙ rw (get_or-take n l i d h)

pub front_end : {A : Type 0} (l : List A) (n i : ℕ) → n ≤ i → n ≤ length l → drop i (take n l) ≡ []
front_end l n i h g = rest_end (take n l) i (omega (arith, length-take-le n l g))
