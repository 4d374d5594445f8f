use Rattle.euclid.proofs.+gcd.Given as goal

-- the second number falls
abbrev pub decreases-gcd : goal.decreases-gcd
decreases-gcd l = l.b
