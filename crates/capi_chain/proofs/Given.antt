-- What is known of the front of a list from C, n numbers long, that is lent to a call.
use Prim.Native.Nat.{ℕ, ◌*◌, ◌≤◌}
use native.Mathlib.Omega.{arith}
use mathlib.Core.Path.{◌≡◌, sym}
use mathlib.Core.List.{List}
use lib.ListN.{length, take}
use lib.Seq.{length-take-le}
use Rattle.chain.specs.Flat.{given_in}
use Rattle.chain.specs.StandsFor.{StandsFor}
use Rattle.capi_chain.specs.FlatChain.{places_of, chain_from}
use Rattle.capi_chain.specs.Front.{places_inside, front_stands}

pub record Given (list : List ℕ) (places gap n : ℕ) : Type 0 where
  pub inside : n ≤ length list
  pub long : n ≡ length (take n list)
  pub stands : StandsFor gap (given_in (take n list)) (chain_from list places gap)

pub given : (list : List ℕ) (places gap n : ℕ) → n ≡ 3 * places_of (length list) places → Given list places gap n
given list places gap n e =
    let k : n ≤ length list = omega (arith, places_inside (length list) places) in
    record { inside = k; long = sym (length-take-le n list k); stands = rw e (front_stands list places gap) }
