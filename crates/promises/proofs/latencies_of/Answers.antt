use native.Mathlib.Omega.{arith}
use mathlib.Core.Path.{refl, sym}
use lib.ListN.{length-set}
use Rattle.schedule.specs.Arrays.{Arrays}
use Rattle.schedule.proofs.ArrayLaws.{arrays}
use Rattle.schedule.specs.Padding.{padded_none}
use Rattle.promises.proofs.EveryChain.{checks_sound}
use Rattle.promises.proofs.Turns.{chain_accepted, latency_stored}
use Rattle.promises.proofs.latencies_of.Goals as goal
use Rattle.promises.proofs.latencies_of.Goals.{Start}

-- the arrays of the schedule have their lengths
long : (c : Start) → Arrays c.args.s
long c = arrays c.args.s _ c.well_formed.0

pub loop-i-init : goal.loop-i-init
loop-i-init c = (refl, sym (padded_none 0 4))

pub offset_bounds-s-i : goal.offset_bounds-s-i
offset_bounds-s-i c = omega (arith, (checks_sound c.args.s c.requires).few_chains)

pub bounds-s-i : goal.bounds-s-i
bounds-s-i c = omega (arith, (checks_sound c.args.s c.requires).few_chains)

pub latency_of-requires : goal.latency_of-requires
latency_of-requires c = chain_accepted c.args.s (long (goal.at.latency_of-requires c).Start) c.requires c.loop-i.i (omega arith) _ c.chain_of-c.ensures

pub offset_bounds-latencies-i : goal.offset_bounds-latencies-i
offset_bounds-latencies-i c = omega (arith, (checks_sound c.args.s c.requires).few_chains)

pub bounds-latencies-i : goal.bounds-latencies-i
bounds-latencies-i c = omega (arith, (checks_sound c.args.s c.requires).few_chains)

pub loop-i-preserved : goal.loop-i-preserved
loop-i-preserved c = (simp length-set c.loop-i.invariant.0, latency_stored c.args.s (long (goal.at.loop-i-preserved c).Start) c.requires c.loop-i.i (omega arith) _ c.chain_of-c.ensures _ _ c.loop-i.invariant.1 c.latency_of.ensures)
