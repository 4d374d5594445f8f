use Rattle.std.specs.Prelude.{Ok, Err}
use native.Mathlib.Omega.{arith}
use Prim.Native.Nat.{ℕ, ◌*◌}
use mathlib.Core.Path.{◌≡◌, refl, ap, ◌∙◌}
use lib.ListN.{length, take}
use Rattle.chain.specs.Chains.{tasks_of}
use Rattle.chain.specs.Checks.{verdict_of}
use Rattle.chain.specs.Flat.{task_fields, length_flat, in_count}
use Rattle.chain.proofs.Filling.{Lent, lent}
use Rattle.latency.specs.LongestPlace.{longest_place}
use Rattle.report.proofs.Exits.{chain_refused, chain_short, well_made, chain_whole}
use Rattle.report.proofs.put_chain.Goals as goal
use Rattle.report.proofs.put_chain.Goals.{After-flat_length-n, After-longest_place-p}

front : (c : After-flat_length-n) → Lent c.args.c c.flat-tasks.result c.flat_length-n.result
front c = lent _ c.well_formed.1.1.0.1.1.0.1.0.1 _ c.flat-tasks.ensures _ c.flat_length-n.ensures

-- of a chain that is accepted, the place of its longest period
place : (c : After-longest_place-p) → (h : ℕ) → verdict_of c.args.c ≡ Ok h → c.longest_place-p.result ≡ longest_place (tasks_of c.args.c)
place c h e = c.longest_place-p.ensures ∙ ap longest_place ((lent _ c.well_formed.1.1.0.1.1.0.1.0.1 _ c.flat-tasks.ensures _ c.flat_length-n.ensures).stands.tasks h e)

twelve-long : (c : After-flat_length-n) → length c.flat-tasks.result ≡ 36
twelve-long c = ap length c.flat-tasks.ensures ∙ length_flat task_fields 3 (λ x. refl) c.args.c.tasks ∙ ap (λ (n : ℕ). 3 * n) c.well_formed.1.1.0.1.1.0.1.0.1

pub slice_bounds-tasks-end : goal.slice_bounds-tasks-end
slice_bounds-tasks-end c = (front c).inside

pub slice_bounds-longest_place-end : goal.slice_bounds-longest_place-end
slice_bounds-longest_place-end c = (front (goal.at.slice_bounds-longest_place-end c).After-flat_length-n).long

pub longest_place-p-requires : goal.longest_place-p-requires
longest_place-p-requires c = let s = c.before in omega (arith, in_count s.args.c.gap (take c.flat_length-n.result c.flat-tasks.result), (front (goal.at.longest_place-p-requires c).After-flat_length-n).long, (front (goal.at.longest_place-p-requires c).After-flat_length-n).inside, twelve-long (goal.at.longest_place-p-requires c).After-flat_length-n)

pub slice_bounds-tasks-end-2 : goal.slice_bounds-tasks-end-2
slice_bounds-tasks-end-2 c = (front (goal.at.slice_bounds-tasks-end-2 c).After-flat_length-n).inside

pub slice_bounds-make_table_on-end : goal.slice_bounds-make_table_on-end
slice_bounds-make_table_on-end c = (front (goal.at.slice_bounds-make_table_on-end c).After-flat_length-n).long

pub put_table-requires : goal.put_table-requires
put_table-requires c =
    let w = well_made c.args.c c.well_formed.1.1.0.1.1.0.1.0.1 _ _ _ _ _ _ c.requires.0 c.requires.1 (place (goal.at.put_table-requires c).After-longest_place-p) (c.make_table_on-m.ensures _ (front (goal.at.put_table-requires c).After-flat_length-n).stands) _ c.in-Ok.is in
    (w.0, w.1, w.2, w.3, c.requires.2)

pub returns-in-Err-Refused : goal.returns-in-Err-Refused
returns-in-Err-Refused c = (chain_refused c.args.c c.well_formed.1.1.0.1.1.0.1.0.1 _ _ _ _ _ _ c.requires.0 c.requires.1 (place (goal.at.returns-in-Err-Refused c).After-longest_place-p) (c.make_table_on-m.ensures _ (front (goal.at.returns-in-Err-Refused c).After-flat_length-n).stands) _ _ _ _ _ (c.in-Err-Refused.is ∙ ap Err (rw c.in-Err-Refused.is at c.in-Err-Refused.field-0-is)) c.put_refusal.ensures.0, omega arith)

pub returns-in-Err-Short : goal.returns-in-Err-Short
returns-in-Err-Short c = (chain_short c.args.c c.well_formed.1.1.0.1.1.0.1.0.1 _ _ _ _ _ _ c.requires.0 c.requires.1 (place (goal.at.returns-in-Err-Short c).After-longest_place-p) (c.make_table_on-m.ensures _ (front (goal.at.returns-in-Err-Short c).After-flat_length-n).stands) _ _ _ _ _ (c.in-Err-Short.is ∙ ap Err (rw c.in-Err-Short.is at c.in-Err-Short.field-0-is)) c.put_refusal-in-Err-Short.ensures.0, omega arith)

pub returns-in-Ok : goal.returns-in-Ok
returns-in-Ok c = (chain_whole c.args.c c.well_formed.1.1.0.1.1.0.1.0.1 _ _ _ _ _ _ c.requires.0 c.requires.1 (place (goal.at.returns-in-Ok c).After-longest_place-p) (c.make_table_on-m.ensures _ (front (goal.at.returns-in-Ok c).After-flat_length-n).stands) _ c.in-Ok.is _ _ _ _ c.put_table.ensures.0, c.put_table.ensures.1)
