use Rattle.std.specs.Prelude.{Ok}
use Rattle.std.proofs.lemmas.Result.{err_from_is_err_and}
use native.Mathlib.Omega.{arith}
use mathlib.Core.Path.{◌≡◌, sym, ◌∙◌}
use Rattle.chain.specs.Flat.{given_in, tasks_in}
use Rattle.bookings.specs.Bookings.{pair_warm, pair_verdict}
use Rattle.bookings.proofs.Exits.{Pair, paired, pair_warm_holds, bookings_refused, range_fits, bookings_tick, bookings_both}
use Rattle.bookings.proofs.Turns.{apart_is}
use Rattle.bookings.proofs.pair_on.Goals as goal
use Rattle.bookings.proofs.pair_on.Goals.{After-max, In_ok-h}

-- where both chains and their hyperperiod are accepted
said : (c : In_ok-h) → pair_verdict c.args.gap1 (given_in c.args.first.now) c.args.gap2 (given_in c.args.second.now) ≡ Ok c.in_ok-h.h
said c = sym c.in_ok-h.ensures

fine : (c : In_ok-h) → Pair (tasks_in c.args.gap1 c.args.first.now) (tasks_in c.args.gap2 c.args.second.now) c.in_ok-h.h
fine c = paired _ _ _ _ _ (said c)

-- the later warm-up tick
warm : (c : After-max) → c.max.result ≡ pair_warm (tasks_in c.args.gap1 c.args.first.now) (tasks_in c.args.gap2 c.args.second.now)
warm c = pair_warm_holds _ _ _ _ _ c.warm_tick-warm1.ensures c.warm_tick-warm2.ensures c.max.ensures

pub returns-in_err-h : goal.returns-in_err-h
returns-in_err-h c =
    let p = err_from_is_err_and c.from_residual.result c.from_residual.ensures.1 in
    rw (p.1, p.2) (bookings_refused _ _ _ _ _ _ (sym c.in_err-h.ensures))

pub returns-in_err-check_tick : goal.returns-in_err-check_tick
returns-in_err-check_tick c =
    let p = err_from_is_err_and c.from_residual-in_err-check_tick.result c.from_residual-in_err-check_tick.ensures.1 in
    rw (p.1, p.2) (bookings_tick _ _ _ _ _ (said (goal.at.returns-in_err-check_tick c).In_ok-h) _ (warm (goal.at.returns-in_err-check_tick c).After-max) _ _ c.in_err-check_tick.ensures)

pub greatest_apart-greatest-requires : goal.greatest_apart-greatest-requires
greatest_apart-greatest-requires c =
    let w = c.before in
    let k = w.before in
    ((fine (goal.at.greatest_apart-greatest-requires c).In_ok-h).first, (fine (goal.at.greatest_apart-greatest-requires c).In_ok-h).second, omega arith, omega (arith, range_fits _ _ _ _ _ (said (goal.at.greatest_apart-greatest-requires c).In_ok-h) _ (warm (goal.at.greatest_apart-greatest-requires c).After-max)))

pub returns : goal.returns
returns c =
    let g = c.before in
    let b = g.before in
    let i = b.before in
    let w = i.before in
    bookings_both _ _ _ _ _ (said (goal.at.returns c).In_ok-h) _ (warm (goal.at.returns c).After-max) _ _ i.in_ok-check_tick.ensures
    _ _ b.stretch_at-a.ensures b.stretch_at-b.ensures _ _ _ _
    c.max-late.ensures c.min-early.ensures (c.abs_diff-difference.ensures ∙ apart_is _ _) g.greatest_apart-greatest.ensures
