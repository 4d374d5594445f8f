use Rattle.std.proofs.lemmas.Result.{err_from_is_err_and}
use native.Mathlib.Omega.{arith}
use Prim.Native.Nat.{◌*◌}
use mathlib.Core.Path.{sym}
use lib.ListN.{length}
use Rattle.schedule.specs.Schedules.{tasks_in, chains_in}
use Rattle.file_writer.specs.Accepted.{accepted}
use Rattle.file_writer.proofs.Stores.{file_stored}
use Rattle.file_writer.proofs.Room.{Room, room_of, kept, stored}
use borrow.Author.Rules.{rules}
use Rattle.file_writer.proofs.write_file.Goals as goal
use Rattle.file_writer.proofs.write_file.Goals.{In_ok-long}

-- what is known once the schedule is accepted
room : (c : In_ok-long) → Room c.args.s (length c.args.out.now)
room c =
    room_of _ _ _ c.well_formed.0.1.1.0.1.0.1
    (accepted _ _ _ (sym c.in_ok-long.ensures))

pub returns-in_err-long : goal.returns-in_err-long
returns-in_err-long c =
    let p = err_from_is_err_and c.from_residual.result c.from_residual.ensures.1 in
    rw (p.1, p.2) (let w = sym c.in_err-long.ensures in
    record { answers = c.in_err-long.ensures; leaves = kept _ _ _ _ w })

pub put_tasks-requires : goal.put_tasks-requires
put_tasks-requires c = let f = room (goal.at.put_tasks-requires c).In_ok-long in omega (arith, f.counted, f.fits)

pub shared_ref_as_front-put_tasks : goal.shared_ref_as_front-put_tasks
shared_ref_as_front-put_tasks c = (room (goal.at.shared_ref_as_front-put_tasks c).In_ok-long).few

pub shared_ref_as_front-put_routes : goal.shared_ref_as_front-put_routes
shared_ref_as_front-put_routes c = (room (goal.at.shared_ref_as_front-put_routes c).In_ok-long).few_chains

pub put_routes-at-requires : goal.put_routes-at-requires
put_routes-at-requires c =
    let f = room (goal.at.put_routes-at-requires c).In_ok-long in
    (f.placed, search rules)

pub put_gap-end-requires : goal.put_gap-end-requires
put_gap-end-requires c =
    let f = room (goal.at.put_gap-end-requires c).In_ok-long in
    let e = c.put_routes-at.ensures.1 in
    search rules

pub put_head-requires : goal.put_head-requires
put_head-requires c =
    let f = room (goal.at.put_head-requires c).In_ok-long in
    let e = c.put_routes-at.ensures.1 in
    let g = c.put_gap-end.ensures.1 in
    search rules

pub returns : goal.returns
returns c =
    let f = room (goal.at.returns c).In_ok-long in
    let w = sym c.in_ok-long.ensures in
    record {
      answers = c.in_ok-long.ensures;
      leaves = stored _ _ _ _ _ w
          (file_stored c.args.out.now _ _ _ _ (tasks_in c.args.s) (chains_in c.args.s) c.args.s.gap (18 * c.args.s.count) c.put_routes-at.result c.put_gap-end.result f.whole f.counted c.put_routes-at.ensures.1 c.put_gap-end.ensures.1
          c.put_tasks.ensures c.put_routes-at.ensures.0 c.put_gap-end.ensures.0 c.put_head.ensures);
    }
