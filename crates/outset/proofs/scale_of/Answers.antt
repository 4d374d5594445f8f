use native.Mathlib.Omega.{arith}
use mathlib.Core.Path.{refl}
use Rattle.outset.specs.Filling.{scale_serves, scale_fits, long_scale_fits}
use Rattle.outset.proofs.scale_of.Goals as goal

pub overflow_add-result : goal.overflow_add-result
overflow_add-result c = omega (arith, scale_fits c.args.t)

pub returns-then-t-le1024 : goal.returns-then-t-le1024
returns-then-t-le1024 c = let s = c.before in scale_serves s.args.t 17179869184 34 s.requires.0 refl (omega arith) (omega arith) (scale_fits s.args.t)

pub overflow_add-result-2 : goal.overflow_add-result-2
overflow_add-result-2 c = omega (arith, long_scale_fits c.args.t (omega arith))

pub returns : goal.returns
returns c = let s = c.before in scale_serves s.args.t 17592186044416 44 s.requires.0 refl (omega (arith, s.requires.1)) (omega arith) (long_scale_fits s.args.t (omega arith))
