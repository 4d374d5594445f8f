use native.Mathlib.Omega.{arith}
use Rattle.agreement.proofs.Exits.{before_none, before_far, before_there}
use Rattle.agreement.proofs.last_before.Goals as goal

pub returns-then-latency-lt1 : goal.returns-then-latency-lt1
returns-then-latency-lt1 c = before_none c.args.start c.args.latency c.if-latency-lt1.true

pub returns-then-latency-gt1000000000000 : goal.returns-then-latency-gt1000000000000
returns-then-latency-gt1000000000000 c = before_far c.args.start c.args.latency (omega arith) (omega arith)

pub returns-then-latency-start : goal.returns-then-latency-start
returns-then-latency-start c = before_far c.args.start c.args.latency (omega arith) (omega arith)

pub returns : goal.returns
returns c = before_there c.args.start c.args.latency (omega arith) (omega arith)
