-- Every refusal of the sections fits one number.
use Rattle.std.specs.Prelude.{◌≡◌, Err}
use Prim.Native.Nat.{ℕ, ◌≤◌, ◌<◌}
use native.Mathlib.Omega.{arith}
use mathlib.Core.List.{List}
use Rattle.refusal.specs.declared.Refusal.{Refusal}
use Rattle.chain.specs.declared.Chain.{Chain}
use Rattle.sections.specs.Sections.{sections_answer}
use Rattle.sections.proofs.EveryCut.{refused_small}

pub code_fits : (c : Chain) (cuts : List ℕ) (r : Refusal) → sections_answer c cuts ≡ Err r → (r.number < 256) × (r.place ≤ 1000000000)
code_fits c cuts r e = let s = refused_small c cuts r e in (s.0, omega (arith, s.1))
