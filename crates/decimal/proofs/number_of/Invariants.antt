use Rattle.std.proofs.Common.{◌≡◌, ◌<◌, ◌^◌, drop}
use Rattle.decimal.specs.Numbers.{number_of}
use Rattle.decimal.proofs.Digits.{number_from}
use Rattle.decimal.proofs.number_of.Given as goal

abbrev pub invariant-loop-b : goal.invariant-loop-b
invariant-loop-b l = record { fits : l.n < 2 ^ 64; left : number_of l.word ≡ number_from l.n (drop l.b-index l.word) }
