use Rattle.std.proofs.Common.{◌≡◌, map, length, take}
use Rattle.schedule.specs.Schedules.{padded}
use Rattle.promises.specs.Promises.{chains_of, chain_latency}
use Rattle.promises.proofs.latencies_of.Given as goal

abbrev pub invariant-loop-i : goal.invariant-loop-i
invariant-loop-i l = (length l.latencies ≡ 4) × (l.latencies ≡ padded 4 0 (map chain_latency (take l.i (chains_of l.s))))
