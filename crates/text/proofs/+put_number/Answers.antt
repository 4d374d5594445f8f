use native.Mathlib.Omega.{arith}
use Rattle.text.proofs.Turns.{number_one, number_more, number_short}
use Rattle.text.proofs.+put_number.Goals as goal

pub returns-then-n-lt10 : goal.returns-then-n-lt10
returns-then-n-lt10 t c =
    let p = number_one _ _ _ _ _ (omega arith) c.put_byte.ensures in
    (p, number_short _ _ _ _ _ (omega arith) p)

pub returns : goal.returns
returns t c =
    let p = number_more _ _ _ _ _ _ _ (omega arith) c.put_number-last.ensures.0 c.put_byte-2.ensures in
    (p, number_short _ _ _ _ _ (omega arith) p)
