-- Two chains one after the other: a part of a chain that passes 8 and 5 passes them, and the whole way is the way of the first, one link, and the way of the second.
use Prim.Native.Nat.{ℕ, zero, suc, ◌+◌, ◌≤◌, ◌<◌}
use native.Mathlib.Omega.{arith}
use Rattle.std.proofs.Math.Nat.{zero-add}
use Rattle.std.specs.Prelude.{◌≡◌, List, ◌++◌}
use Rattle.std.proofs.Math.Path.{refl, ap}
use Rattle.std.proofs.Common.{sym, ◌∙◌, length-append, get_or-append-add}
use Rattle.std.proofs.Math.ListN.{length, get_or-append}
use Rattle.task.specs.declared.Place.{Place}
use Rattle.task.specs.Jobs.{write_of}
use Rattle.task.specs.Links.{forward_link}
use Rattle.chain.specs.Chains.{at, zero_place, last_place, forward_by, walk}
use Rattle.chain.specs.Checks.{Sound}
use Rattle.chain.specs.Galois.{forward_cut}
use Rattle.partition.proofs.CutFree.{end_walk}
use Rattle.sections.specs.Uniform.{part_sound}

module _ (u v : List Place) (some-u : 1 ≤ length u) (some-v : 1 ≤ length v) (ok : Sound (u ++ v)) where
  at_left : (i : ℕ) → i < length u → at (u ++ v) i ≡ at u i
  at_left i h = get_or-append u v zero_place i h

  at_right : (i : ℕ) → at (u ++ v) (length u + i) ≡ at v i
  at_right i = get_or-append-add u v i zero_place

  -- each part passes the checks
  pub sound_left : Sound u
  sound_left = part_sound (u ++ v) u 0 (record { some = some-u; few = omega (arith, length-append u v); same = λ p h. sym (at_left p h) ∙ ap (at (u ++ v)) (sym (zero-add p)) }) ok

  pub sound_right : Sound v
  sound_right = part_sound (u ++ v) v (length u) (record { some = some-v; few = omega (arith, length-append u v); same = λ p h. sym (at_right p) }) ok

  -- the way along the first part
  way_left : (n j : ℕ) → n < length u → forward_by (u ++ v) 0 n j ≡ forward_by u 0 n j
  unfolding forward_by
  way_left zero j h = refl
  way_left (suc n) j h = rw (zero-add n, zero-add (suc n), at_left n (omega arith), at_left (suc n) h, way_left n j (omega arith))

  -- and along the second
  way_right : (n j : ℕ) → forward_by (u ++ v) (length u) n j ≡ forward_by v 0 n j
  unfolding forward_by
  way_right zero j = refl
  way_right (suc n) j = rw (zero-add n, zero-add (suc n), at_right n, at_right (suc n), way_right n j)

  pub first_left : at (u ++ v) 0 ≡ at u 0
  first_left = at_left 0 some-u

  -- the job at which the second part's way begins: one link on from the end of the first part's
  abbrev pub taken : ℕ → ℕ
  taken j = forward_link (at u (last_place u)) (at v 0) (walk u j)

  to_seam : (j : ℕ) → forward_by (u ++ v) 0 (length u) j ≡ taken j
  unfolding forward_by
  to_seam j =
      let e : length u ≡ suc (last_place u) = omega arith in
      let z : length u + 0 ≡ suc (last_place u) = omega arith in
      let f : at (u ++ v) (suc (last_place u)) ≡ at v 0 = ap (at (u ++ v)) (sym z) ∙ at_right 0 in
      ap (λ (n : ℕ). forward_by (u ++ v) 0 n j) e
      ∙ rw (zero-add (last_place u), zero-add (suc (last_place u)), f, at_left (last_place u) (omega arith), way_left (last_place u) j (omega arith))

  last_right : last_place (u ++ v) ≡ length u + last_place v
  last_right = omega (arith, length-append u v)

  pub walk_two : (j : ℕ) → walk (u ++ v) j ≡ walk v (taken j)
  walk_two j =
      ap (λ (n : ℕ). forward_by (u ++ v) 0 n j) last_right ∙ forward_cut (u ++ v) 0 (length u) (last_place v) j
      ∙ ap (λ (n : ℕ). forward_by (u ++ v) n (last_place v) (forward_by (u ++ v) 0 (length u) j)) (zero-add (length u))
      ∙ way_right (last_place v) (forward_by (u ++ v) 0 (length u) j) ∙ ap (walk v) (to_seam j)

  pub end_two : (j : ℕ) → end_walk (u ++ v) j ≡ end_walk v (taken j)
  end_two j =
      ap (λ (n : ℕ). write_of (at (u ++ v) n) (walk (u ++ v) j)) last_right
      ∙ ap (λ (a : Place). write_of a (walk (u ++ v) j)) (at_right (last_place v)) ∙ ap (write_of (at v (last_place v))) (walk_two j)
