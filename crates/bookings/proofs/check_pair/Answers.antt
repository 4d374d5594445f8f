use Rattle.std.specs.Prelude.{Ok}
use native.Mathlib.Omega.{arith}
use mathlib.Core.Path.{◌≡◌, sym}
use Rattle.chain.specs.Checks.{verdict_in}
use Rattle.chain.specs.Flat.{given_in}
use Rattle.bookings.proofs.Exits.{product_fits, first_pos, first_small, second_small, pair_above, pair_accepted}
use Rattle.bookings.proofs.check_pair.Goals as goal
use Rattle.bookings.proofs.check_pair.Goals.{In_ok-h, In_ok-k}

-- where the first chain is accepted, and where the second is as well
one : (c : In_ok-h) → verdict_in c.args.gap1 (given_in c.args.first.now) ≡ Ok c.in_ok-h.h
one c = sym c.in_ok-h.ensures

two : (c : In_ok-k) → verdict_in c.args.gap2 (given_in c.args.second.now) ≡ Ok c.in_ok-k.k
two c = sym c.in_ok-k.ensures

pub lcm-both-requires : goal.lcm-both-requires
lcm-both-requires c =
    let x = one (goal.at.lcm-both-requires c).In_ok-h in
    let s = c.before in
    let a = s.args in
    let l = given_in a.first.now in
    let m = given_in a.second.now in
    let p = first_small a.gap1 l a.gap2 m _ x _ (two c) in
    let q = second_small a.gap1 l a.gap2 m _ x _ (two c) in
    (first_pos a.gap1 l a.gap2 m _ x _ (two c), product_fits _ _ (omega arith) (omega arith))

pub returns-then-both-gt60000000 : goal.returns-then-both-gt60000000
returns-then-both-gt60000000 c = pair_above _ _ _ _ _ (one (goal.at.returns-then-both-gt60000000 c).In_ok-h) _ (two (goal.at.returns-then-both-gt60000000 c).In_ok-k) _ c.lcm-both.ensures c.if-both-gt60000000.true

pub returns : goal.returns
returns c = pair_accepted _ _ _ _ _ (one (goal.at.returns c).In_ok-h) _ (two (goal.at.returns c).In_ok-k) _ c.lcm-both.ensures c.if-both-gt60000000.false
